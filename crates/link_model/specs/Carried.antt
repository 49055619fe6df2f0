-- A packet that idle links carry from a channel to its end.
use Rattle.std.specs.Prelude.{◌≡◌, ℕ, List, Result, Ok, Err}
use Rattle.world_defs.specs.declared.moved.Why.{Why}
use Rattle.world_defs.specs.declared.moved.Course.{Course}
use Rattle.world_defs.specs.declared.moved.Course.TheVariants.{Arrives, Drops}
use Rattle.world_defs.specs.declared.moved.Moved.{Moved}
use Rattle.world_defs.specs.declared.moved.Moved.TheVariants.{AtHost, Dropped}
use Rattle.world_defs.specs.Links.{LinkState, put}
use Rattle.world_defs.specs.Advance.{course, advance}
use Rattle.link_model.specs.FullSlots.{IsLone}
use Rattle.link_model.specs.Hop.{IsRun}

-- the course that leads to an end: a host, or a drop
abbrev pub course_to : Result ℕ Why → Course
course_to (Ok h) = Arrives h
course_to (Err why) = Drops why

-- what the last advance makes of a packet with these bytes
abbrev pub ended : Result ℕ Why → List ℕ → Moved (List ℕ)
ended (Ok h) wire = AtHost h wire
ended (Err why) wire = Dropped why

-- A packet with these bytes, put into a channel of idle links, is alone there; in so many hops it comes to a channel,
-- by then with those bytes; and its next advance is its end and leaves the links as they were.
pub record IsCarried (s : LinkState) (c : ℕ) (wire : List ℕ) (hops : ℕ) (end : Result ℕ Why) (now : List ℕ)
    : Type 0 where
  pub at : ℕ
  pub enters : IsLone (put s c wire).1.channels c
  pub run : IsRun (put s c wire).1 c hops at (put s at now).1
  pub stays : IsLone (put s at now).1.channels at
  pub goes : course_to end ≡ course s.cables at now
  pub leaves : advance (put s at now).1 at ≡ (ended end now, s)
