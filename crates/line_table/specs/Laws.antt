-- The laws of forms.
use Rattle.std.specs.Prelude.{◌≡◌, ◌≢◌, true, false, List, Some, None}
use Rattle.net_defs.specs.Network.{Network, IsFabric}
use Rattle.fab_text.specs.Line.{says_nothing}
use Rattle.fabric_file.specs.Plain.{ArePlain}
use Rattle.fabric_file.specs.Reading.{AreNamed}
use Rattle.line_table.specs.declared.kind.LineKind.{LineKind}
use Rattle.line_table.specs.declared.kind.MapLineKind.{MapLineKind}
use Rattle.line_table.specs.Apart.{is_apart}
use Rattle.line_table.specs.Fits.{AreOf}
use Rattle.line_table.specs.Form.{Slot, LineValue, fill}
use Rattle.line_table.specs.Matching.{matched}
use Rattle.line_table.specs.Table.{form_of, map_form}

-- Over a fabric whose names have the form of names, a line that was filled in with values of its form is matched as
-- these values.
abbrev pub FilledIsMatched : Type 0
FilledIsMatched = (n : Network) → IsFabric n → AreNamed n → (ss : List Slot) (vs : List LineValue) → AreOf n ss vs
    → matched n ss (fill n ss vs) ≡ Some vs

-- A line of a form doesn't match a form that is apart from it.
abbrev pub ApartIsUnmatched : Type 0
ApartIsUnmatched = (n : Network) → IsFabric n → AreNamed n → (ss ts : List Slot) (vs : List LineValue) → AreOf n ts vs
    → is_apart ss ts ≡ true → matched n ss (fill n ts vs) ≡ None

-- The words of a line of any kind have no blank in them.
abbrev pub LinesArePlain : Type 0
LinesArePlain = (n : Network) → IsFabric n → AreNamed n → (k : LineKind) (vs : List LineValue) → AreOf n (form_of k) vs
    → ArePlain (fill n (form_of k) vs)

-- And they are no comment.
abbrev pub LinesAreSpoken : Type 0
LinesAreSpoken = (n : Network) (k : LineKind) (vs : List LineValue) → AreOf n (form_of k) vs
    → says_nothing (fill n (form_of k) vs) ≡ false

-- The same of the lines of a map, and a line of one kind has the form of no other.
abbrev pub MapLinesArePlain : Type 0
MapLinesArePlain = (n : Network) → IsFabric n → AreNamed n → (k : MapLineKind) (vs : List LineValue)
    → AreOf n (map_form k) vs → ArePlain (fill n (map_form k) vs)

abbrev pub MapLinesAreSpoken : Type 0
MapLinesAreSpoken = (n : Network) (k : MapLineKind) (vs : List LineValue) → AreOf n (map_form k) vs
    → says_nothing (fill n (map_form k) vs) ≡ false

abbrev pub MapLinesAreApart : Type 0
MapLinesAreApart = (n : Network) → IsFabric n → AreNamed n → (k l : MapLineKind) (vs : List LineValue) → k ≢ l
    → AreOf n (map_form l) vs → matched n (map_form k) (fill n (map_form l) vs) ≡ None
