-- Packets are conserved, and the counters of a world are true, after every list of acts.
use Rattle.std.specs.Prelude.{◌≡◌, ◌+◌, ℕ, List, length, min, count_by}
use Rattle.net_defs.specs.Network.{Network}
use Rattle.world_defs.specs.Links.{LinkState}
use Rattle.world_defs.specs.declared.effect.Effect.{Effect}
use Rattle.world_defs.specs.declared.fault.Fault.{Fault}
use Rattle.world_defs.specs.World.{WorldState, new_world, last_count}
use Rattle.world_defs.specs.Step.{is_harm}
use Rattle.world_defs.specs.Acts.{Act, acted_all}
use Rattle.counter_laws.specs.Counts.{effects_of, strikes_of, taken_in, injections, copies, arrivals, drops}
use Rattle.counter_laws.specs.Counts.{losses, resets}
use Rattle.counter_laws.specs.Counts.{in_channels, in_limbo}

-- As many packets were injected and copied as stand in channels and in limbo, or were heard, dropped, lost, reset, or
-- taken with their cable.
abbrev pub AreConserved : List Effect → List Fault → ℕ → LinkState → Type 0
AreConserved es fs taken s =
    injections es + copies es fs
    ≡ in_channels s + in_limbo s + (arrivals es + drops es + losses es fs + resets es + taken)

-- After all acts from a fabric's new world packets are conserved. Every moment is the last one of some list of acts.
abbrev pub PacketsAreConserved : Type 0
PacketsAreConserved =
    (n : Network) (acts : List Act)
    → AreConserved (effects_of (new_world n) acts) (strikes_of (new_world n) acts) (taken_in (new_world n) acts)
    (acted_all (new_world n) acts).links

-- The counters of a world: injections, exactly; drops, where the counter stays at its last value once it is there; and
-- planned faults that struck, and those of them that harmed their packet.
pub record CountersAreOf (es : List Effect) (fs : List Fault) (w : WorldState) : Type 0 where
  pub injected : w.injected ≡ injections es
  pub dropped : w.dropped ≡ min (drops es) last_count
  pub struck : w.struck ≡ length fs
  pub harmed : w.harmed ≡ count_by is_harm fs

-- after all acts from a fabric's new world its counters are true
abbrev pub CountersAreTrue : Type 0
CountersAreTrue =
    (n : Network) (acts : List Act)
    → CountersAreOf (effects_of (new_world n) acts) (strikes_of (new_world n) acts) (acted_all (new_world n) acts)
