-- A drain, a clear and a settle are events in a row: what holds after every list of events holds after each of them.
use Rattle.std.specs.Prelude.{◌≡◌, false, List, [], ◌∷◌}
use Rattle.world_defs.specs.Later.{OnlyPulled}
use Rattle.world_defs.specs.Hops.{is_stuck}
use Rattle.world_defs.specs.declared.event.Event.{Event}
use Rattle.world_defs.specs.declared.event.Event.TheVariants.{Inject, Advance, Replay, Reset, Expire, GiveUp}
use Rattle.world_defs.specs.World.{WorldState}
use Rattle.world_defs.specs.Step.{step}
use Rattle.world_defs.specs.Logs.{drain, clear, settle}
use Rattle.world_defs.specs.Row.{IsRow}
use Rattle.world_laws.specs.Shape.{IsWorld, HasSenders}

-- the events of a drain
abbrev pub IsOfDrain : Event → Type 0
IsOfDrain (Advance c) = Unit {0}
IsOfDrain _ = ⊥

-- the events of a clear
abbrev pub IsOfClear : Event → Type 0
IsOfClear (Advance c) = Unit {0}
IsOfClear (Reset c) = Unit {0}
IsOfClear _ = ⊥

-- the events of a settle: a client's call is none, nor is a fault, nor is what stages a probe or a part
abbrev pub IsOfSettle : Event → Type 0
IsOfSettle (Advance c) = Unit {0}
IsOfSettle (Reset c) = Unit {0}
IsOfSettle (Inject h) = Unit {0}
IsOfSettle (Replay serial) = Unit {0}
IsOfSettle (Expire h peer) = Unit {0}
IsOfSettle (GiveUp h) = Unit {0}
IsOfSettle _ = ⊥

-- a drain is advances in a row
abbrev pub DrainIsRow : Type 0
DrainIsRow = (w : WorldState) → IsRow IsOfDrain w (drain w).events (drain w).world

-- a clear is advances and resets in a row
abbrev pub ClearIsRow : Type 0
ClearIsRow = (w : WorldState) → IsRow IsOfClear w (clear w).events (clear w).world

-- a settle is events of a settle in a row
abbrev pub SettleIsRow : Type 0
SettleIsRow = (w : WorldState) → IsRow IsOfSettle w (settle w).events (settle w).world

-- what holds at each of these events, in the world before it
abbrev pub EachStep : (WorldState → Event → Type 0) → WorldState → List Event → Type 0
EachStep P w [] = Unit {0}
EachStep P w (e ∷ es) = P w e × EachStep P (step w e).1 es

-- where no world along a settle is stuck, it has no resets
abbrev pub NeverStuckHasNoResets : Type 0
NeverStuckHasNoResets = (w : WorldState) → EachStep (λ v e. is_stuck v.links ≡ false) w (settle w).events
    → (settle w).value.resets ≡ 0

-- What events keep that aren't plugs: cables are pulled at most, a world stays, and the numbers of each connection in
-- order.
pub record IsKept (w v : WorldState) : Type 0 where
  pub pulled : OnlyPulled w.links.cables v.links.cables
  pub world : IsWorld w → IsWorld v
  pub senders : HasSenders w → HasSenders v

-- a drain and a clear leave the cables
abbrev pub DrainKeepsCables : Type 0
DrainKeepsCables = (w : WorldState) → (drain w).world.links.cables ≡ w.links.cables

abbrev pub ClearKeepsCables : Type 0
ClearKeepsCables = (w : WorldState) → (clear w).world.links.cables ≡ w.links.cables

-- a drain keeps all this
abbrev pub DrainKeeps : Type 0
DrainKeeps = (w : WorldState) → IsKept w (drain w).world

-- so does a clear
abbrev pub ClearKeeps : Type 0
ClearKeeps = (w : WorldState) → IsKept w (clear w).world

-- so does a settle
abbrev pub SettleKeeps : Type 0
SettleKeeps = (w : WorldState) → IsKept w (settle w).world
