-- First faults, and what a reader answers against what a definition says.
use Rattle.std.specs.Prelude.{◌≡◌, ℕ, List, Result, Ok, Err, codes}
use Rattle.fab_text.specs.declared.fault.NumFault.{NumFault}
use Rattle.fab_text.specs.declared.fault.NumFault.TheVariants.{NotNumber as NoNumber, TooLarge as AboveRange}
use Rattle.fab_text.specs.declared.fault.FaultKind.{FaultKind}
use Rattle.fab_text.specs.declared.fault.FaultKind.TheVariants.{BadWord, NotNumber, TooLarge, NameTaken, NoVertex}
use Rattle.fab_text.specs.declared.fault.FaultKind.TheVariants.{PortRange, PortUsed, Full, NoEnd, AfterEnd}
use Rattle.fab_text.specs.declared.fault.LineFault.{LineFault}
use Rattle.fab_text.specs.declared.fault.LineFault.TheVariants.{Wrong, NoMemory as NoMemoryInLine}
use Rattle.fab_text.specs.declared.fault.TextFault.{TextFault}
use Rattle.fab_text.specs.declared.fault.TextFault.TheVariants.{At, NoMemory}

-- a kind as a report shows it
abbrev pub kind_word : FaultKind → List ℕ
kind_word BadWord = codes "badword"
kind_word NotNumber = codes "notnumber"
kind_word TooLarge = codes "toolarge"
kind_word NameTaken = codes "nametaken"
kind_word NoVertex = codes "novertex"
kind_word PortRange = codes "portrange"
kind_word PortUsed = codes "portused"
kind_word Full = codes "full"
kind_word NoEnd = codes "noend"
kind_word AfterEnd = codes "afterend"

-- the fault of a number as a kind
abbrev pub kind_of_number : NumFault → FaultKind
kind_of_number NoNumber = NotNumber
kind_of_number AboveRange = TooLarge

-- what was read, with the kind of its fault
abbrev pub as_kind : {X : Type 0} → Result X NumFault → Result X FaultKind
as_kind (Ok x) = Ok x
as_kind (Err e) = Err (kind_of_number e)

-- The first fault of a text has its line and its kind.
pub record FirstFault : Type 0 where
  pub line : ℕ
  pub kind : FaultKind

-- the fault of a text that has this one in a line
abbrev pub fault_at : ℕ → LineFault → TextFault
fault_at line (Wrong kind) = At line kind
fault_at line NoMemoryInLine = NoMemory

-- what is said of a line, at its place in the text
abbrev pub at_line : {X : Type 0} → ℕ → Result X FaultKind → Result X FirstFault
at_line line (Ok x) = Ok x
at_line line (Err kind) = Err (record { line = line; kind = kind })

-- one reading after another, where the first finds no fault
abbrev pub and_then : {X Y E : Type 0} → Result X E → (X → Result Y E) → Result Y E
and_then (Ok x) f = f x
and_then (Err e) f = Err e

-- The answer is exactly what is said of a line. Running out of memory may stand in the place of any answer.
abbrev pub LineGives : {X : Type 0} → Result X FaultKind → Result X LineFault → Type 0
LineGives said (Ok x) = said ≡ Ok x
LineGives said (Err (Wrong kind)) = said ≡ Err kind
LineGives said (Err NoMemoryInLine) = Unit {0}

-- the same where the value is left in a place
abbrev pub LineLeaves : {X T : Type 0} → Result X FaultKind → X → Result T LineFault → Type 0
LineLeaves said left (Ok t) = said ≡ Ok left
LineLeaves said left (Err (Wrong kind)) = said ≡ Err kind
LineLeaves said left (Err NoMemoryInLine) = Unit {0}

-- The answer is exactly what is said of a text. Running out of memory may stand in the place of any answer.
abbrev pub TextGives : {X : Type 0} → Result X FirstFault → Result X TextFault → Type 0
TextGives said (Ok x) = said ≡ Ok x
TextGives said (Err (At line kind)) = said ≡ Err (record { line = line; kind = kind })
TextGives said (Err NoMemory) = Unit {0}
