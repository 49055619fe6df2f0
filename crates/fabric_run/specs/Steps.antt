-- The steps of a text's run.
use Rattle.std.specs.Prelude.{◌≡◌, ℕ, List, take, Some, slice_get}
use Rattle.run_defs.specs.declared.command.Command.{Command}
use Rattle.run_defs.specs.Output.{Piece}
use Rattle.run_defs.specs.Session.{SessionState}
use Rattle.run_defs.specs.Run.{IsRun}
use Rattle.input_texts.specs.Reading.{AcceptedText}

-- The first commands of a text led to this session, and this command is the next one.
pub record IsNext (a : AcceptedText) (s : SessionState) (c : Command) : Type 0 where
  pub count : ℕ
  pub printed : List Piece
  pub run : IsRun a.network (take count a.commands) printed s
  pub there : slice_get a.commands count ≡ Some c
