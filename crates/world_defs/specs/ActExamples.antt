-- Acts over the two hosts at one switch, for worked examples.
use Rattle.std.specs.Prelude.{ℕ, List, [], ◌∷◌, map}
use Rattle.net_defs.specs.Examples.{two_hosts}
use Rattle.world_defs.specs.declared.event.Event.TheVariants.{Inject as InjectEvent, Advance as AdvanceEvent}
use Rattle.world_defs.specs.declared.event.Event.TheVariants.{Replay as ReplayEvent, Flip as FlipEvent}
use Rattle.world_defs.specs.declared.fault.Fault.TheVariants.{Lose as LoseFault, Repeat as RepeatFault}
use Rattle.world_defs.specs.declared.fault.Fault.TheVariants.{Flip as FlipFault}
use Rattle.world_defs.specs.World.{WorldState, new_world}
use Rattle.world_defs.specs.Examples.{setup_routes, opened, provide, send}
use Rattle.world_defs.specs.Acts.{Act, Happens, Plans, Adopts, acted_all}

-- the routes of the two hosts are adopted between a plan and an event
abbrev pub adopting : List Act
adopting = Plans 1 LoseFault ∷ Adopts 0 setup_routes ∷ Happens (InjectEvent 0) ∷ []

-- a flip by a pattern is planned
abbrev pub planned_flip : ℕ → List Act
planned_flip pattern = Plans 1 (FlipFault 6 pattern) ∷ []

-- a flip by a pattern happens
abbrev pub flip_now : ℕ → List Act
flip_now pattern = Happens (FlipEvent 0 6 pattern) ∷ []

-- Host 0 adopts the routes and sends host 1 the message `ABC`. Its frame is copied; the frame arrives, and then the
-- copy.
abbrev pub delivering : List Act
delivering =
    Plans 1 RepeatFault ∷ Adopts 0 setup_routes
    ∷ map Happens
    (opened 1 1 (provide 0 ∷ send 3 65 ∷ InjectEvent 0 ∷ AdvanceEvent 0 ∷ AdvanceEvent 3 ∷ ReplayEvent 0
    ∷ AdvanceEvent 0 ∷ AdvanceEvent 3 ∷ []))

-- the world after these acts
abbrev pub delivered_world : WorldState
delivered_world = acted_all (new_world two_hosts) delivering
