-- What is done in a world as a log: what it came to, the events that it was, and the world then. Eight words make logs.
use Rattle.std.specs.Prelude.{ℕ, zero, suc, Bool, List, [], ◌∷◌, ◌++◌, if◌then◌else◌}
use Rattle.world_defs.specs.declared.event.Event.{Event}
use Rattle.world_defs.specs.declared.effect.Effect.{Effect}
use Rattle.world_defs.specs.World.{WorldState}
use Rattle.world_defs.specs.Step.{step, steps, after_all}

-- What was done in a world: what it came to, its events in order, and the world then.
pub record Log (A : Type 0) : Type 0 where
  pub value : A
  pub events : List Event
  pub world : WorldState

-- nothing is done
abbrev pub still : {A : Type 0} → A → WorldState → Log A
still a w = record { value = a; events = []; world = w }

-- one event
abbrev pub happen : Event → WorldState → Log Effect
happen e w = record { value = (step w e).0; events = e ∷ []; world = (step w e).1 }

-- events in a row
abbrev pub happen_all : List Event → WorldState → Log (List Effect)
happen_all es w = record { value = (steps w es).0; events = es; world = (steps w es).1 }

-- what it came to, told otherwise
abbrev pub told : {A B : Type 0} → (A → B) → Log A → Log B
told f l = record { value = f l.value; events = l.events; world = l.world }

-- events of which only the world is asked for, and then something in it
abbrev pub after_events : {A : Type 0} → List Event → (WorldState → Log A) → WorldState → Log A
after_events es rest w = record {
  value = (rest (after_all w es)).value;
  events = es ++ (rest (after_all w es)).events;
  world = (rest (after_all w es)).world;
}

-- one thing, and then another in the world that it left
abbrev pub and_do : {A B : Type 0} → Log A → (A → WorldState → Log B) → Log B
and_do l rest = record {
  value = (rest l.value l.world).value;
  events = l.events ++ (rest l.value l.world).events;
  world = (rest l.value l.world).world;
}

-- one thing for each of these in a row: what they came to is joined
abbrev pub for_each : {A X : Type 0} → (A → A → A) → A → (X → WorldState → Log A) → List X → WorldState → Log A
for_each join none one [] w = still none w
for_each join none one (x ∷ xs) w = and_do (one x w) (λ a v. told (join a) (for_each join none one xs v))

-- one thing at most so many times in a row, up to the last: what they came to is joined
abbrev pub up_to : {A : Type 0} → (A → A → A) → A → (WorldState → Log A → Bool) → (WorldState → Log A) → ℕ
    → WorldState → Log A
up_to join none is_last one zero w = still none w
up_to join none is_last one (suc k) w =
    if is_last w (one w) then one w else and_do (one w) (λ a v. told (join a) (up_to join none is_last one k v))

-- what a log came to, and the world then
abbrev pub came_to : {A : Type 0} → Log A → A × WorldState
came_to l = (l.value, l.world)
