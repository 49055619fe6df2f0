-- A text with the report that follows it, and what is judged of them.
use Rattle.std.specs.Prelude.{◌≡◌, ℕ, ◌+◌, List, [], drop, Result, Ok}
use Rattle.net_defs.specs.Network.{Network}
use Rattle.fab_text.specs.Line.{TextLine, lines_left, line_count}
use Rattle.fab_text.specs.Fault.{FirstFault, and_then}
use Rattle.fabric_file.specs.declared.reading.FabricText.{FabricText}
use Rattle.fabric_file.specs.Reading.{fabric_reading}
use Rattle.fab_script.specs.Parts.{ScriptPart, script_part}
use Rattle.run_defs.specs.declared.command.Command.{Command}
use Rattle.answer_defs.specs.declared.why.Why.{Why}
use Rattle.judge_defs.specs.Verdict.{AreJudgedYes, FailsFirst}

-- What is judged: a fabric, the commands up to `end`, the lines after it, and the number of a line that is missing.
pub record JudgedText : Type 0 where
  pub network : Network
  pub commands : List Command
  pub report : List TextLine
  pub past : ℕ

-- a text by its fabric and its commands
abbrev pub judged_of : ℕ → FabricText → ScriptPart → Result JudgedText FirstFault
judged_of past t p = Ok (record { network = t.fabric; commands = p.commands; report = p.after; past = past })

-- a text by its fabric: the lines after `script` are commands up to `end`, and then a report
abbrev pub judged_from : ℕ → List ℕ → FabricText → Result JudgedText FirstFault
judged_from past text t = and_then
    (script_part past t.fabric (lines_left (record { number = t.line + 1; text = drop t.next text })))
    (judged_of past t)

-- What a text says with the report that follows it, or the first fault of the part up to `end`.
abbrev pub judged_text : List ℕ → Result JudgedText FirstFault
judged_text text = and_then (fabric_reading text) (judged_from (line_count text + 1) text)

-- A report is judged yes with its text.
pub record IsJudgedYes (text : List ℕ) : Type 0 where
  pub judged : JudgedText
  pub said : judged_text text ≡ Ok judged
  pub yes : AreJudgedYes judged.network judged.past [] judged.commands judged.report

-- A line of a report is the first that fails, with what fails there.
pub record FailsFirstIn (text : List ℕ) (line : ℕ) (why : Why) : Type 0 where
  pub judged : JudgedText
  pub said : judged_text text ≡ Ok judged
  pub fails : FailsFirst judged.network judged.past [] judged.commands judged.report line why
