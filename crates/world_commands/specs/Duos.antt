-- That an event of the two hosts that restart was done, and what is left of it where memory runs out.
use Rattle.std.specs.Prelude.{◌≡◌, [], ◌∷◌, Option, Some, None}
use Rattle.net_defs.specs.Network.{Network}
use Rattle.duo_defs.specs.declared.event.DuoEvent.{DuoEvent}
use Rattle.duo_defs.specs.Duo.{DuoState, new_duo}
use Rattle.duo_defs.specs.Step.{step}
use Rattle.run_defs.specs.declared.line.Line.TheVariants.{Duo}
use Rattle.run_defs.specs.Duos.{begun}
use Rattle.run_defs.specs.Output.{OneLine}
use Rattle.fab_report.specs.Printed.{PrintedState, printed_of}

-- An event of the two hosts was done, which begin where there are none yet, and this is the text of what it did, with
-- its figures.
pub record IsDuoDone (n : Network) (e : DuoEvent) (before after : Option DuoState) (told : PrintedState) : Type 0 where
  pub stepped : after ≡ Some (step (begun before) e).1
  pub printed : told ≡ printed_of n (OneLine (Duo (step (begun before) e).0) ∷ [])

-- Memory ran out for an event of the two hosts: they are as they were; or new, where there were none; or as the event
-- leaves them, and only its text is missing.
pub data IsDuoCut (e : DuoEvent) (before after : Option DuoState) : Type 0 where
  kept : after ≡ before → IsDuoCut e before after
  begins : before ≡ None → after ≡ Some (new_duo 1) → IsDuoCut e before after
  stepped : after ≡ Some (step (begun before) e).1 → IsDuoCut e before after
