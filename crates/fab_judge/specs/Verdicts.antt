-- What the code answers of a text with its report.
use Rattle.std.specs.Prelude.{◌≡◌, ℕ, ◌+◌, false, List, [], ◌++◌, drop, Result, Ok, Err}
use Rattle.net_defs.specs.Network.{Network}
use Rattle.fab_text.specs.declared.fault.TextFault.{TextFault}
use Rattle.fab_text.specs.declared.fault.TextFault.TheVariants.{At, NoMemory}
use Rattle.fab_text.specs.Fault.{FirstFault}
use Rattle.fab_text.specs.Line.{TextLine, lines_left}
use Rattle.fabric_file.specs.declared.reading.FabricText.{FabricText}
use Rattle.fabric_file.specs.Reading.{fabric_reading, sound_lines as sound_of_fabric}
use Rattle.fab_script.specs.Parts.{front_sound}
use Rattle.run_defs.specs.declared.command.Command.{Command}
use Rattle.judge_defs.specs.Verdict.{AreJudgedYes, FailsFirst}
use Rattle.judge_defs.specs.Text.{JudgedText}
use Rattle.fab_judge.specs.declared.verdict.Verdict.{Verdict}
use Rattle.fab_judge.specs.declared.verdict.Verdict.TheVariants.{Yes, No}

-- A text's fabric part says this fabric.
pub record IsFabricOf (text : List ℕ) (n : Network) : Type 0 where
  pub part : FabricText
  pub reading : fabric_reading text ≡ Ok part
  pub fabric : part.fabric ≡ n

-- The answer is exactly the verdict of commands and the lines of a report. Running out of memory may stand in the place
-- of any verdict.
abbrev pub IsVerdict : Network → ℕ → List Command → List TextLine → Result Verdict TextFault → Type 0
IsVerdict n past cs ls (Ok Yes) = AreJudgedYes n past [] cs ls
IsVerdict n past cs ls (Ok (No line why)) = FailsFirst n past [] cs ls line why
IsVerdict n past cs ls (Err (At line kind)) = ⊥
IsVerdict n past cs ls (Err NoMemory) = Unit {0}

-- The answer is exactly the verdict of what a text says, or exactly its fault. Running out of memory may stand in the
-- place of any answer.
abbrev pub GivesVerdict : Result JudgedText FirstFault → Result Verdict TextFault → Type 0
GivesVerdict said (Ok v) = (j : JudgedText) × (said ≡ Ok j) × IsVerdict j.network j.past j.commands j.report (Ok v)
GivesVerdict said (Err (At line kind)) = said ≡ Err (record { line = line; kind = kind })
GivesVerdict said (Err NoMemory) = Unit {0}

-- the sound lines of a script that a report follows, where the fabric part of its text says this: those before `end`,
-- and before the first that has a fault
abbrev pub sound_after : List ℕ → FabricText → List TextLine
sound_after text t = front_sound false t.fabric (lines_left (record { number = t.line + 1; text = drop t.next text }))

-- the same, where the fabric part may have a fault
abbrev pub sound_behind : List ℕ → Result FabricText FirstFault → List TextLine
sound_behind text (Ok t) = sound_after text t
sound_behind text (Err fault) = []

-- The sound lines of a text that a report follows: those before its first fault, of its fabric part and of its script.
abbrev pub sound_lines : List ℕ → List TextLine
sound_lines text = sound_of_fabric text ++ sound_behind text (fabric_reading text)
