-- An ask is events in a row, and leaves idle links.
use Rattle.std.specs.Prelude.{◌≡◌, ℕ, ◌+◌, ◌*◌, ◌≤◌, true, ℤ, List}
use Rattle.world_defs.specs.Links.{is_idle}
use Rattle.world_defs.specs.declared.event.Event.{Event}
use Rattle.world_defs.specs.declared.event.Event.TheVariants.{Ask, Inject, Advance, GiveUp}
use Rattle.world_defs.specs.World.{WorldState}
use Rattle.world_defs.specs.Logs.{ask}
use Rattle.world_defs.specs.Row.{IsRow}
use Rattle.world_laws.specs.Shape.{IsWorld}

-- the events of an ask
abbrev pub IsOfAsk : Event → Type 0
IsOfAsk (Ask h walk looped) = Unit {0}
IsOfAsk (Inject h) = Unit {0}
IsOfAsk (Advance c) = Unit {0}
IsOfAsk (GiveUp h) = Unit {0}
IsOfAsk _ = ⊥

-- an ask is such events in a row
abbrev pub AskIsEvents : Type 0
AskIsEvents = (w : WorldState) (made mapper tries : ℕ) (walk : List ℤ)
    → IsRow IsOfAsk w (ask made mapper tries walk w).events (ask made mapper tries walk w).world

-- where the links of a world are idle, they are idle after it
abbrev pub AskEndsIdle : Type 0
AskEndsIdle = (w : WorldState) (made mapper tries : ℕ) (walk : List ℤ) → IsWorld w → is_idle w.links ≡ true
    → is_idle (ask made mapper tries walk w).world.links ≡ true

-- it has three injections at most for each try
abbrev pub AskInjectsFew : Type 0
AskInjectsFew = (w : WorldState) (made mapper tries : ℕ) (walk : List ℤ)
    → (ask made mapper tries walk w).world.injected ≤ w.injected + 3 * tries
