-- The lines of the pairs before are there.
use Rattle.std.proofs.Common.{◌≡◌, ◌++◌, take}
use Rattle.world_defs.specs.World.{fabric_of}
use Rattle.world_commands.specs.Broken.{pairs_text}
use Rattle.world_commands.proofs.remapping.append_pairs.Given as goal

abbrev pub invariant-loop-pair : goal.invariant-loop-pair
invariant-loop-pair l = l.text.items ≡ l.initial.text.items ++ pairs_text (fabric_of l.w) (take l.pair-index l.pairs)
