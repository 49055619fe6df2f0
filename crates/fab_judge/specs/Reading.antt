-- What is read of the lines of a report, and what a reading in code gives of it.
use Rattle.std.specs.Prelude.{◌≡◌, ◌≤◌, ℕ, List, [], ◌∷◌, ◌++◌, map, length, Option, Some, None, Result, Ok, Err, Vec}
use Rattle.std.specs.declared.alloc.Global.{Global}
use Rattle.net_defs.specs.Network.{Network}
use Rattle.fab_text.specs.Line.{TextLine, words_of}
use Rattle.fab_text.specs.declared.fault.TextFault.{TextFault}
use Rattle.fab_text.specs.declared.fault.TextFault.TheVariants.{At as FaultAt, NoMemory as OutOfMemory}
use Rattle.fab_text.specs.Fault.{FirstFault}
use Rattle.map_defs.specs.NetMap.{NetMap}
use Rattle.map_canon.specs.Reading.{MapPart}
use Rattle.report_lines.specs.declared.line.ReportLine.{ReportLine}
use Rattle.report_lines.specs.Lines.{line_said}
use Rattle.judge_defs.specs.Form.{Reads}
use Rattle.fab_judge.specs.declared.stop.Unread.{Unread}
use Rattle.fab_judge.specs.declared.stop.Unread.TheVariants.{At, NoMemory}

-- What is left of a report, with the number of a line that is missing and the numbers of the lines of one answer that
-- were read.
pub record ReaderState : Type 0 where
  pub past : ℕ
  pub left : List TextLine
  pub numbers : List ℕ

-- where an answer begins
abbrev pub begun : ReaderState → ReaderState
begun s = record { past = s.past; left = s.left; numbers = [] }

-- Lines were read, at least so many: those that are no longer left, and their numbers are kept.
pub record HasRead (before now : ReaderState) (count : ℕ) : Type 0 where
  pub own : List TextLine
  pub lines : before.left ≡ own ++ now.left
  pub numbers : now.numbers ≡ before.numbers ++ map (λ l. l.number) own
  pub past : now.past ≡ before.past
  pub enough : count ≤ length own

-- The numbers of the first lines that were read are kept, at least so many.
pub record AreNumbered (before now : ReaderState) (count : ℕ) : Type 0 where
  pub own : List TextLine
  pub rest : List TextLine
  pub lines : before.left ≡ own ++ rest
  pub numbers : now.numbers ≡ before.numbers ++ map (λ l. l.number) own
  pub past : now.past ≡ before.past
  pub enough : count ≤ length own

-- the number of the first line, if there is one
abbrev pub first_number : List TextLine → Option ℕ
first_number [] = None
first_number (l ∷ ls) = Some l.number

-- a line's number with what it says, and the lines after it
abbrev pub numbered : ℕ → List TextLine → Option ReportLine → Reads (ℕ × ReportLine)
numbered number ls None = Err number
numbered number ls (Some l) = Ok ((number, l), ls)

-- What the next line says, with its number; or the number of the line that is out of form.
abbrev pub next_said : ℕ → Network → List TextLine → Reads (ℕ × ReportLine)
next_said past n [] = Err past
next_said past n (l ∷ ls) = numbered l.number ls (line_said n (words_of l.bytes))

-- The answer is exactly what is read of the lines, and these lines are left. Running out of memory may stand in the
-- place of any answer.
abbrev pub Gives : {X : Type 0} → Reads X → List TextLine → Result X Unread → Type 0
Gives said left (Ok x) = said ≡ Ok (x, left)
Gives said left (Err (At line)) = said ≡ Err line
Gives said left (Err NoMemory) = Unit {0}

-- the same of a map
abbrev pub GivesMap : Result MapPart FirstFault → List TextLine → Result NetMap Unread → Type 0
GivesMap said left (Ok m) = said ≡ Ok (record { made = m; after = left })
GivesMap said left (Err (At line)) = (fault : FirstFault) × (said ≡ Err fault) × (fault.line ≡ line)
GivesMap said left (Err NoMemory) = Unit {0}

-- a map that was read, or the line that is out of form
abbrev pub unread_map : Result NetMap TextFault → Result NetMap Unread
unread_map (Ok m) = Ok m
unread_map (Err (FaultAt line kind)) = Err (At line)
unread_map (Err OutOfMemory) = Err NoMemory

-- the same of a list in memory
abbrev pub GivesItems : {X : Type 0} → Reads (List X) → List TextLine → Result (Vec X Global) Unread → Type 0
GivesItems said left (Ok xs) = said ≡ Ok (xs.items, left)
GivesItems said left (Err (At line)) = said ≡ Err line
GivesItems said left (Err NoMemory) = Unit {0}

-- the same of lines that say items which aren't kept
abbrev pub Passes : {X : Type 0} → Reads (List X) → List TextLine → Result (Unit {0}) Unread → Type 0
Passes {X} said left (Ok done) = (xs : List X) × (said ≡ Ok (xs, left))
Passes said left (Err (At line)) = said ≡ Err line
Passes said left (Err NoMemory) = Unit {0}

-- what was due, or the number of its line, which is out of form
abbrev pub found : {X : Type 0} → ℕ → Option X → Result X Unread
found number None = Err (At number)
found number (Some x) = Ok x
