-- Every moment is sound, and so every run keeps its promise.
use Rattle.std.proofs.Common.{refl}
use Rattle.world_defs.specs.World.{new_world}
use Rattle.world_defs.specs.Acts.{acted_all}
use Rattle.message_laws.proofs.Sound.{reached-sound}
use Rattle.mapping_laws.proofs.Printed.{complete_maps_are_true, deep_maps_are_complete}
use Rattle.promise_laws.specs.Promised.{MomentsAreSound, RunsArePromised}

pub always_sound : MomentsAreSound
always_sound n fabric acts may =
    reached-sound n (acted_all (new_world n) acts) (record { fabric = fabric; acts = acts; may = may; leads = refl })

pub always_promised : RunsArePromised
always_promised n commands fabric = record {
  complete = complete_maps_are_true n commands;
  deep = deep_maps_are_complete n commands;
  sound = always_sound n fabric;
}
