-- The verdict on a report after its text, and which texts are judged yes with their own report.
use Rattle.std.specs.Prelude.{◌≡◌, ℕ, true, List, [], ◌∷◌, ◌++◌, length, codes, decimal, nat_lt, if◌then◌else◌}
use Rattle.std.specs.Prelude.{Result, Ok, Err}
use Rattle.std.specs.List.{AllByRecursion}
use Rattle.fab_text.specs.Fault.{FirstFault}
use Rattle.fab_text.specs.Written.{line_text as line_of}
use Rattle.run_defs.specs.LineText.{output_text}
use Rattle.run_defs.specs.Output.{Piece}
use Rattle.run_defs.specs.Session.{SessionState}
use Rattle.run_defs.specs.Run.{IsRun}
use Rattle.answer_defs.specs.declared.why.Why.{Why}
use Rattle.answer_defs.specs.declared.why.Why.TheVariants.{Form, Map, Route, Rank, Message, Token}
use Rattle.judge_defs.specs.Text.{IsJudgedYes, FailsFirstIn, JudgedText, judged_text}
use Rattle.judge_laws.specs.Commands.{is_judged, PlansNoPull}
use Rattle.fab_judge.specs.declared.verdict.Verdict.{Verdict}
use Rattle.fab_judge.specs.declared.verdict.Verdict.TheVariants.{Yes, No}
use Rattle.fabric_run.specs.declared.status.Status.{Status}
use Rattle.fabric_run.specs.declared.status.Status.TheVariants.{Done, Refused, TooLong}
use Rattle.input_texts.specs.Reading.{AcceptedText, input_limit}

-- the word of what fails
abbrev pub why_word : Why → List ℕ
why_word Form = codes "form"
why_word Map = codes "map"
why_word Route = codes "route"
why_word Rank = codes "rank"
why_word Message = codes "message"
why_word Token = codes "token"

-- The line of a verdict: `judge yes`, or `judge no LINE WHY`.
abbrev pub verdict_text : Verdict → List ℕ
verdict_text Yes = line_of (codes "judge" ∷ codes "yes" ∷ [])
verdict_text (No line why) = line_of (codes "judge" ∷ codes "no" ∷ decimal line ∷ why_word why ∷ [])

-- A verdict is right of a text and the report that follows it: all that is judged holds, or this is the first line that
-- fails and what fails there.
abbrev pub IsRightVerdict : List ℕ → Verdict → Type 0
IsRightVerdict text Yes = IsJudgedYes text
IsRightVerdict text (No line why) = FailsFirstIn text line why

-- the answer to what was read where nothing fails
abbrev pub judgement_of : Result JudgedText FirstFault → Status
judgement_of (Ok j) = Done
judgement_of (Err f) = Refused f.line f.kind

-- The answer under `judge` where nothing fails: the input is too long, it is judged, or its text is refused.
abbrev pub own_judgement : List ℕ → Status
own_judgement text = if nat_lt input_limit (length text) then TooLong else judgement_of (judged_text text)

-- A text whose report says enough: it ends with LF, so its report begins a line, and no command is of the two hosts
-- that restart, or plans a pull of a cable.
pub record IsJudgeable (text : List ℕ) (a : AcceptedText) : Type 0 where
  pub bytes : List ℕ
  pub ended : text ≡ bytes ++ 10 ∷ []
  pub known : AllByRecursion (λ c. is_judged c ≡ true) a.commands
  pub unpulled : AllByRecursion PlansNoPull a.commands

-- a text is judged yes with the report of its run
abbrev pub IsJudgedWithReport : List ℕ → AcceptedText → Type 0
IsJudgedWithReport text a = (out : List Piece) (last : SessionState) → IsRun a.network a.commands out last
    → IsJudgedYes (text ++ output_text a.network out)
