-- Packets that end in each way, worked out: the two hosts at one switch, of which host 0 sends probes.
use Rattle.std.specs.Prelude.{◌≡◌, ℤ, pos, false, List, [], ◌∷◌, ◌++◌}
use Rattle.net_defs.specs.Examples.{two_hosts, host_end, switch_end}
use Rattle.world_defs.specs.declared.event.Event.TheVariants.{Ask, Inject, Advance, Lose, Repeat, Reset, Pull, Plug}
use Rattle.world_defs.specs.declared.effect.Effect.{Effect}
use Rattle.world_defs.specs.declared.fault.Fault.{Fault}
use Rattle.world_defs.specs.declared.fault.Fault.TheVariants.{Lose as LoseFault, Repeat as RepeatFault}
use Rattle.world_defs.specs.declared.fault.Fault.TheVariants.{Flip as FlipFault, Pull as PullFault}
use Rattle.world_defs.specs.World.{WorldState, new_world}
use Rattle.world_defs.specs.Acts.{Act, Happens, Plans, acted_all}
use Rattle.counter_laws.specs.Counts.{effects_of, strikes_of, taken_in, injections, copies, arrivals, drops}
use Rattle.counter_laws.specs.Counts.{losses, resets}
use Rattle.counter_laws.specs.Counts.{in_channels, in_limbo}

-- host 0 injects a probe of a walk
abbrev pub probe : List ℤ → List Act
probe walk = Happens (Ask 0 walk false) ∷ Happens (Inject 0) ∷ []

-- The first probe is copied by plan, and dropped at the switch, where its walk ends; the second is lost by plan, the
-- third by an event; the fourth is taken by a reset; the fifth is copied, and host 1 hears it; the sixth stays in its
-- channel, and the flip of no bits that is planned for it isn't possible.
abbrev pub six_probes : List Act
six_probes =
    Plans 1 RepeatFault ∷ Plans 2 LoseFault ∷ Plans 6 (FlipFault 0 0)
    ∷ probe [] ++ Happens (Advance 0) ∷ probe [] ++ probe [] ++ Happens (Lose 0) ∷ probe [] ++ Happens (Reset 0)
    ∷ probe (pos 3 ∷ []) ++ Happens (Repeat 0) ∷ Happens (Advance 0) ∷ Happens (Advance 3) ∷ probe []

-- their effects
abbrev pub six_effects : List Effect
six_effects = effects_of (new_world two_hosts) six_probes

-- the planned faults that struck
abbrev pub six_strikes : List Fault
six_strikes = strikes_of (new_world two_hosts) six_probes

-- the world after them
abbrev pub six_world : WorldState
six_world = acted_all (new_world two_hosts) six_probes

-- six packets were injected and two copied; one is in a channel and two are in limbo; one was heard, one dropped, two
-- lost and one reset
abbrev pub SixProbesAreCounted : Type 0
SixProbesAreCounted =
    (injections six_effects ≡ 6) × (copies six_effects six_strikes ≡ 2)
    × (in_channels six_world.links ≡ 1) × (in_limbo six_world.links ≡ 2)
    × (arrivals six_effects ≡ 1) × (drops six_effects ≡ 1) × (losses six_effects six_strikes ≡ 2)
    × (resets six_effects ≡ 1)

-- the faults that struck are two of the three that were planned, of which one harmed its packet; six injections and one
-- drop are counted
abbrev pub SixProbesAreInCounters : Type 0
SixProbesAreInCounters =
    (six_strikes ≡ RepeatFault ∷ LoseFault ∷ [])
    × (six_world.injected ≡ 6) × (six_world.dropped ≡ 1) × (six_world.struck ≡ 2) × (six_world.harmed ≡ 1)

-- A probe is copied, and then its cable is pulled. Over a new cable the next is injected, and a planned pull takes
-- that.
abbrev pub pulled_probes : List Act
pulled_probes =
    probe [] ++ Happens (Repeat 0) ∷ Happens (Pull (host_end 0)) ∷ Happens (Plug (host_end 0) (switch_end 0 2))
    ∷ Plans 1 (PullFault (host_end 0)) ∷ probe []

-- their effects
abbrev pub pulled_effects : List Effect
pulled_effects = effects_of (new_world two_hosts) pulled_probes

-- the world after them
abbrev pub pulled_world : WorldState
pulled_world = acted_all (new_world two_hosts) pulled_probes

-- two packets were injected and one copied; pulls took all three, and none was harmed
abbrev pub PulledProbesAreCounted : Type 0
PulledProbesAreCounted =
    (injections pulled_effects ≡ 2) × (copies pulled_effects (strikes_of (new_world two_hosts) pulled_probes) ≡ 1)
    × (taken_in (new_world two_hosts) pulled_probes ≡ 3)
    × (in_channels pulled_world.links ≡ 0) × (in_limbo pulled_world.links ≡ 0)
    × (pulled_world.dropped ≡ 0) × (pulled_world.struck ≡ 1) × (pulled_world.harmed ≡ 0)
