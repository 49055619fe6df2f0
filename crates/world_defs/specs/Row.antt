-- Events in a row from one world to another, and a part of the way along them.
use Rattle.std.specs.Prelude.{◌≡◌, List}
use Rattle.std.specs.List.{AllByRecursion}
use Rattle.world_defs.specs.declared.event.Event.{Event}
use Rattle.world_defs.specs.World.{WorldState}
use Rattle.world_defs.specs.Step.{after_all}
use Rattle.world_defs.specs.Sound.{IsPrefix}

-- Events of a kind, which lead from one world to the other.
pub record IsRow (kind : Event → Type 0) (w : WorldState) (events : List Event) (v : WorldState) : Type 0 where
  pub kinds : AllByRecursion kind events
  pub there : v ≡ after_all w events

-- A prefix of these events leads from one world to the other.
pub record IsPartWay (w : WorldState) (events : List Event) (v : WorldState) : Type 0 where
  pub done : List Event
  pub front : IsPrefix done events
  pub there : v ≡ after_all w done
