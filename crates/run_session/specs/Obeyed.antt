-- That a command was obeyed, and what it printed.
use Rattle.std.specs.Prelude.{◌≡◌, ℕ, List}
use Rattle.world_defs.specs.World.{fabric_of}
use Rattle.run_defs.specs.declared.command.Command.{Command}
use Rattle.run_defs.specs.Output.{Piece}
use Rattle.run_defs.specs.Run.{Does}
use Rattle.run_defs.specs.Session.{SessionState}
use Rattle.fab_report.specs.Printed.{PrintedState, printed_of}

-- A command was obeyed: it led from the one session to the other, and this is the text of what it printed, with its
-- figures.
pub record IsObeyed (s : SessionState) (c : Command) (next : SessionState) (told : PrintedState) : Type 0 where
  pub output : List Piece
  pub does : Does s c output next
  pub printed : told ≡ printed_of (fabric_of s.world) output

-- A command was obeyed, and this is the text alone of what it printed.
abbrev pub IsObeyedIn : SessionState → Command → SessionState → List ℕ → Type 0
IsObeyedIn s c next text = (told : PrintedState) × IsObeyed s c next told × (text ≡ told.text)
