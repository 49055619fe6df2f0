-- What is promised of an accepted text that is within the limit of an input: injections are left to its end.
use Rattle.std.specs.Prelude.{ℕ, ◌^◌, ◌<◌, List, take}
use Rattle.run_defs.specs.Output.{Piece}
use Rattle.run_defs.specs.Session.{SessionState}
use Rattle.run_defs.specs.Run.{IsRun}
use Rattle.input_texts.specs.Reading.{AcceptedText}

-- after its first commands, however many, fewer than 2 ^ 63 packets were injected: the count is far from its last value
abbrev pub InjectionsAreLeft : AcceptedText → Type 0
InjectionsAreLeft a = (count : ℕ) (out : List Piece) (last : SessionState)
    → IsRun a.network (take count a.commands) out last → last.world.injected < 2 ^ 63
