-- Which values a line of a form may have.
use Rattle.std.specs.Prelude.{◌≡◌, ℕ, ◌<◌, ◌≤◌, ◌^◌, Bool, true, false, List, [], ◌∷◌, if◌then◌else◌}
use Rattle.std.specs.List.{AllByRecursion}
use Rattle.net_defs.specs.declared.vertex.Vertex.TheVariants.{Host}
use Rattle.net_defs.specs.Network.{Network, has_vertex, has_port}
use Rattle.net_defs.specs.Turn.{IsTurn}
use Rattle.map_defs.specs.declared.vertex.MapVertex.TheVariants.{Host as MapHost, Switch as MapSwitch}
use Rattle.fab_text.specs.Word.{is_digit, number_test}
use Rattle.line_table.specs.Form.{WordKind, Digits, NumberTo, HostName, Turn, MapPlace, Hex, OneOf, EntryOr}
use Rattle.line_table.specs.Form.{Slot, Fixed, Of, AnEnd, AnEndBy, Rest}
use Rattle.line_table.specs.Form.{LineValue, Word, Number, HostAt, TurnBy, VertexAt, Bytes, Entry, EndAt}
use Rattle.line_table.specs.Matching.{is_among}

-- a word that no number begins
abbrev pub begins_no_number : List ℕ → Bool
begins_no_number [] = true
begins_no_number (b ∷ bs) = if is_digit b then false else true

-- the value is one that a word of the kind may have
abbrev pub IsOf : Network → WordKind → LineValue → Type 0
IsOf n Digits (Word w) = number_test w ≡ true
IsOf n (NumberTo most) (Number v) = v ≤ most × v < 2 ^ 64
IsOf n HostName (HostAt h) = has_vertex n (Host h) ≡ true
IsOf n Turn (TurnBy t) = IsTurn t
IsOf n MapPlace (VertexAt (MapHost h)) = has_vertex n (Host h) ≡ true
IsOf n MapPlace (VertexAt (MapSwitch s)) = s < 2 ^ 32
IsOf n Hex (Bytes bs) = AllByRecursion (λ b. b < 256) bs
IsOf n (OneOf ws) (Word w) = is_among ws w ≡ true
IsOf n (EntryOr other places) (Word w) = w ≡ other
IsOf n (EntryOr other places) (Entry v place) =
    begins_no_number other ≡ true × (is_among places place ≡ true × v < 2 ^ 64)
IsOf n k v = ⊥

-- The values are those of a line of the form, in their order.
abbrev pub AreOf : Network → List Slot → List LineValue → Type 0
AreOf n [] [] = Unit {0}
AreOf n (Fixed w ∷ ss) vs = AreOf n ss vs
AreOf n (Of k ∷ ss) (v ∷ vs) = IsOf n k v × AreOf n ss vs
AreOf n (AnEnd ∷ ss) (EndAt e ∷ vs) = has_port n e ≡ true × AreOf n ss vs
AreOf n (AnEndBy w ∷ ss) (EndAt e ∷ vs) = has_port n e ≡ true × AreOf n ss vs
AreOf n (Rest k ∷ ss) vs = AllByRecursion (IsOf n k) vs
AreOf n ss vs = ⊥
