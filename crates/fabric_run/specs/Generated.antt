-- How a generated run ends.
use Rattle.std.specs.Prelude.{◌≡◌, ℕ, List, ◌++◌, Option, Some, None}
use Rattle.std.specs.Io.KnownBytes.{Appends}
use Rattle.net_defs.specs.Network.{Network}
use Rattle.fab_outer.specs.Whole.{TakesProperPrefix}
use Rattle.run_defs.specs.declared.command.Command.{Command}
use Rattle.run_defs.specs.declared.figure.Figure.{Figure}
use Rattle.run_defs.specs.Output.{Piece, lines}
use Rattle.run_defs.specs.Session.{SessionState}
use Rattle.run_defs.specs.Run.{IsRun, Does}
use Rattle.run_defs.specs.LineText.{output_text}
use Rattle.run_defs.specs.Summary.{figures_in, summary}
use Rattle.fabric_gen.specs.Text.{gen_text}
use Rattle.gen_laws.specs.Summary.{HasSixLines}
use Rattle.fabric_run.specs.declared.status.Status.{Status}
use Rattle.fabric_run.specs.declared.status.Status.TheVariants.{Done, WriteFault, NoMemory}
use Rattle.input_texts.specs.Reading.{AcceptedText, IsAccepted}

-- A command was done, and its figures were put after others.
pub record IsCounted (s : SessionState) (c : Command) (next : SessionState) (before now : List Figure) : Type 0 where
  pub output : List Piece
  pub does : Does s c output next
  pub counted : now ≡ before ++ figures_in output

-- Commands ran over a fabric, one after another from its first world on, led to this session, and printed these
-- figures.
pub record HaveCounted (n : Network) (commands : List Command) (figures : List Figure)
    (last : SessionState) : Type 0 where
  pub output : List Piece
  pub run : IsRun n commands output last
  pub counted : figures ≡ figures_in output

-- The run of the text of so many hosts and a seed: the text is accepted, all its commands ran and led to this session,
-- and this is the summary of what they printed, which has its six lines.
pub record IsGenerated (hosts seed : ℕ) (due : List ℕ) (last : SessionState) : Type 0 where
  pub says : AcceptedText
  pub accepted : IsAccepted (gen_text hosts seed) says
  pub output : List Piece
  pub run : IsRun says.network says.commands output last
  pub told : due ≡ output_text says.network (lines (summary hosts seed says.network (figures_in output)))
  pub six : HasSixLines hosts seed says.network (figures_in output)

-- a text was written: the whole, or a prefix of it, but not all, before a failed write
abbrev pub IsWritten : List ℕ → Option (List ℕ) → Option (List ℕ) → Status → Type 0
IsWritten due taken now Done = Appends taken now due
IsWritten due taken now WriteFault = TakesProperPrefix taken now due
IsWritten due taken now _ = ⊥

-- How a run of the form `gen` may end: the whole summary was taken, or a prefix of it, but not all, before a failed
-- write, and the session after all commands is handed back; or memory ran out, and nothing was written.
abbrev pub GenEnds : ℕ → ℕ → Type 0 → Option (List ℕ) → Option (List ℕ) → Status → Option SessionState → Type 0
GenEnds hosts seed unwritten taken now Done (Some last) =
    (due : List ℕ) × IsGenerated hosts seed due last × Appends taken now due
GenEnds hosts seed unwritten taken now WriteFault (Some last) =
    (due : List ℕ) × IsGenerated hosts seed due last × TakesProperPrefix taken now due
GenEnds hosts seed unwritten taken now NoMemory None = unwritten
GenEnds hosts seed unwritten taken now _ _ = ⊥
