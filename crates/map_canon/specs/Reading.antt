-- Which texts have a map, which map that is, and what the first fault of the others is.
use Rattle.std.specs.Prelude.{◌≡◌, ℕ, ◌+◌, Bool, false, ◌&&◌, List, [], ◌∷◌, length, nat_eq, if◌then◌else◌, Result, Ok}
use Rattle.std.specs.Prelude.{Err}
use Rattle.net_defs.specs.Network.{Network}
use Rattle.map_defs.specs.NetMap.{NetMap}
use Rattle.fab_text.specs.declared.fault.FaultKind.{FaultKind}
use Rattle.fab_text.specs.declared.fault.FaultKind.TheVariants.{NoEnd, AfterEnd}
use Rattle.fab_text.specs.declared.fault.TextFault.{TextFault}
use Rattle.fab_text.specs.declared.fault.TextFault.TheVariants.{At, NoMemory}
use Rattle.fab_text.specs.Line.{TextLine, lines_left, line_count, words_of}
use Rattle.fab_text.specs.Fault.{FirstFault, at_line, and_then}
use Rattle.fabric_map.specs.Growing.{empty_map}
use Rattle.line_table.specs.declared.kind.MapLineKind.TheVariants.{End as EndLine}
use Rattle.map_canon.specs.Declaring.{begins, args_of, declared}

-- the line `endmap`
abbrev pub is_end : List (List ℕ) → Bool
is_end [] = false
is_end (first ∷ args) = begins EndLine first && nat_eq (length (args_of EndLine)) (length args)

-- a map whose lines ended, where no line follows that says something
abbrev pub ended : NetMap → List TextLine → Result NetMap FirstFault
ended m [] = Ok m
ended m (l ∷ ls) = Err (record { line = l.number; kind = AfterEnd })

-- What the lines up to `endmap` declare, one after another, and what comes of their map and of the lines after it.
-- `past` is the number of the line that is missing where none is `endmap`.
abbrev pub map_until : {X : Type 0} → (NetMap → List TextLine → Result X FirstFault) → ℕ → Network → NetMap
    → List TextLine → Result X FirstFault
map_until end past f m [] = Err (record { line = past; kind = NoEnd })
map_until end past f m (l ∷ ls) =
    if is_end (words_of l.bytes)
    then end m ls
    else and_then (at_line l.number (declared f m (words_of l.bytes))) (λ k. map_until end past f k ls)

-- the map of lines of which `endmap` is the last that says something
abbrev pub map_from : ℕ → Network → NetMap → List TextLine → Result NetMap FirstFault
map_from past f m ls = map_until ended past f m ls

-- A map that other lines may follow, with these lines.
pub record MapPart : Type 0 where
  pub made : NetMap
  pub after : List TextLine

-- a map with the lines after it
abbrev pub part_of : NetMap → List TextLine → Result MapPart FirstFault
part_of m ls = Ok (record { made = m; after = ls })

-- The map of the first lines, up to `endmap`, or their first fault.
abbrev pub map_part : ℕ → Network → List TextLine → Result MapPart FirstFault
map_part past f ls = map_until part_of past f empty_map ls

-- The answer is exactly what is said of the first lines, and these lines are left. Running out of memory may stand in
-- the place of any answer.
abbrev pub PartGives : Result MapPart FirstFault → List TextLine → Result NetMap TextFault → Type 0
PartGives said left (Ok m) = said ≡ Ok (record { made = m; after = left })
PartGives said left (Err (At line kind)) = said ≡ Err (record { line = line; kind = kind })
PartGives said left (Err NoMemory) = Unit {0}

-- a line, where it has no fault, and the lines of those after it
abbrev pub sound_behind : TextLine → Result NetMap FaultKind → (NetMap → List TextLine) → List TextLine
sound_behind l (Ok m) behind = l ∷ behind m
sound_behind l (Err kind) behind = []

-- those of some lines that stand before `endmap`, and before the first that has a fault
abbrev pub sound_from : Network → NetMap → List TextLine → List TextLine
sound_from f m [] = []
sound_from f m (l ∷ ls) =
    if is_end (words_of l.bytes) then []
    else sound_behind l (declared f m (words_of l.bytes)) (λ k. sound_from f k ls)

-- The sound lines of a map: those before `endmap`, and before the first that has a fault.
abbrev pub sound_lines : Network → List ℕ → List TextLine
sound_lines f text = sound_from f empty_map (lines_left (record { number = 1; text = text }))

-- The map of a text, its hosts by their names in a fabric, or the first fault.
abbrev pub map_reading : Network → List ℕ → Result NetMap FirstFault
map_reading f text = map_from (line_count text + 1) f empty_map (lines_left (record { number = 1; text = text }))
