-- Texts are judged yes with the report of their run.
use Rattle.std.specs.Prelude.{◌≡◌, ℕ, true, List, [], ◌∷◌, ◌++◌, drop, Ok}
use Rattle.std.specs.List.{AllByRecursion}
use Rattle.net_defs.specs.Network.{Network, IsFabric}
use Rattle.fabric_file.specs.declared.reading.FabricText.{FabricText}
use Rattle.fabric_file.specs.Reading.{fabric_reading, AreNamed}
use Rattle.fab_script.specs.Ranges.{IsCommandOf}
use Rattle.run_defs.specs.declared.command.Command.{Command}
use Rattle.run_defs.specs.LineText.{output_text}
use Rattle.run_defs.specs.Output.{Piece}
use Rattle.run_defs.specs.Script.{script_reading}
use Rattle.run_defs.specs.Run.{IsRun}
use Rattle.run_defs.specs.Session.{SessionState}
use Rattle.judge_defs.specs.Verdict.{AreJudgedYes}
use Rattle.judge_defs.specs.Text.{IsJudgedYes}
use Rattle.judge_laws.specs.Answers.{lines_at}
use Rattle.judge_laws.specs.Commands.{is_judged, PlansNoPull}

-- Over a fabric with names of the text's form, whatever a run prints is judged yes, where no command is of the two
-- hosts that restart and none plans a pull: of these a report doesn't say enough, and the judge takes no such text.
abbrev pub ReportsAreJudgedYes : Type 0
ReportsAreJudgedYes =
    (n : Network) (commands : List Command) (out : List Piece) (last : SessionState) (past number : ℕ)
    → IsFabric n → AreNamed n → AllByRecursion (IsCommandOf n) commands
    → AllByRecursion (λ c. is_judged c ≡ true) commands → AllByRecursion PlansNoPull commands
    → IsRun n commands out last → AreJudgedYes n past [] commands (lines_at number (output_text n out))

-- So a text of such commands is judged yes with the report of its run, where it ends with LF: else its last line, were
-- it a comment, would swallow the first of the report.
abbrev pub TextsAreJudgedYes : Type 0
TextsAreJudgedYes =
    (text bytes : List ℕ) (t : FabricText) (commands : List Command) (out : List Piece) (last : SessionState)
    → text ≡ bytes ++ 10 ∷ [] → fabric_reading text ≡ Ok t
    → script_reading t.fabric t.line (drop t.next text) ≡ Ok commands
    → AllByRecursion (λ c. is_judged c ≡ true) commands → AllByRecursion PlansNoPull commands
    → IsRun t.fabric commands out last → IsJudgedYes (text ++ output_text t.fabric out)
