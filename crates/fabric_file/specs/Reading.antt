-- Which texts have a fabric, which fabric that is, and what the first fault of the others is.
use Rattle.std.specs.Prelude.{◌≡◌, ℕ, ◌+◌, ◌-◌, true, List, [], ◌∷◌, length, if◌then◌else◌, Result, Ok, Err}
use Rattle.std.specs.List.{AllByRecursion}
use Rattle.net_defs.specs.Network.{Network, names, empty_network}
use Rattle.fab_text.specs.declared.fault.FaultKind.{FaultKind}
use Rattle.fab_text.specs.declared.fault.FaultKind.TheVariants.{NoEnd}
use Rattle.fab_text.specs.Word.{name_test}
use Rattle.fab_text.specs.Line.{TextLine, lines_left, line_count, words_of}
use Rattle.fab_text.specs.Fault.{FirstFault, at_line, and_then}
use Rattle.fabric_file.specs.declared.reading.FabricText.{FabricText}
use Rattle.fabric_file.specs.Declaring.{declared, is_script}

-- What the lines up to `script` declare, one after another. `size` is the length of the text, and `past` is one more
-- than the number of its lines.
abbrev pub fabric_from : ℕ → ℕ → Network → List TextLine → Result FabricText FirstFault
fabric_from size past n [] = Err (record { line = past; kind = NoEnd })
fabric_from size past n (l ∷ ls) =
    if is_script (words_of l.bytes)
    then Ok (record { fabric = n; next = size - length l.after; line = l.number })
    else and_then (at_line l.number (declared n (words_of l.bytes))) (λ m. fabric_from size past m ls)

-- A text says a fabric where it is accepted up to its line `script`; else it has a first fault.
abbrev pub fabric_reading : List ℕ → Result FabricText FirstFault
fabric_reading text = fabric_from (length text) (line_count text + 1) empty_network
    (lines_left (record { number = 1; text = text }))

-- a line, where it has no fault, and the lines of those after it
abbrev pub sound_behind : TextLine → Result Network FaultKind → (Network → List TextLine) → List TextLine
sound_behind l (Ok n) behind = l ∷ behind n
sound_behind l (Err kind) behind = []

-- those of some lines that stand before `script`, and before the first that has a fault
abbrev pub sound_from : Network → List TextLine → List TextLine
sound_from n [] = []
sound_from n (l ∷ ls) =
    if is_script (words_of l.bytes) then []
    else sound_behind l (declared n (words_of l.bytes)) (λ m. sound_from m ls)

-- The sound lines of the fabric part: those before `script`, and before the first that has a fault.
abbrev pub sound_lines : List ℕ → List TextLine
sound_lines text = sound_from empty_network (lines_left (record { number = 1; text = text }))

-- each vertex has a name of the text's form
abbrev pub AreNamed : Network → Type 0
AreNamed n = AllByRecursion (λ name. name_test name ≡ true) (names n)
