-- The values that words of a form say.
use Rattle.std.specs.Prelude.{ℕ, ◌-◌, ◌^◌, Bool, List, [], ◌∷◌, take, drop, position, nat_eq, bytes_eq, if◌then◌else◌}
use Rattle.std.specs.Prelude.{Option, Some, None, option_map, option_and_then}
use Rattle.std.specs.List.{list_any}
use Rattle.net_defs.specs.Network.{Network}
use Rattle.fab_text.specs.Word.{number_test}
use Rattle.line_table.specs.Said.{number_said, turn_said, host_said, end_said, vertex_said, bytes_said}
use Rattle.line_table.specs.Form.{WordKind, Digits, NumberTo, HostName, Turn, MapPlace, Hex, OneOf, EntryOr}
use Rattle.line_table.specs.Form.{Slot, Fixed, Of, AnEnd, AnEndBy, Rest}
use Rattle.line_table.specs.Form.{LineValue, Word, Number, HostAt, TurnBy, VertexAt, Bytes, Entry, EndAt}

-- a word of these
abbrev pub is_among : List (List ℕ) → List ℕ → Bool
is_among ws w = list_any (bytes_eq w) ws

-- a word as a value, where it may stand
abbrev pub where_so : Bool → List ℕ → Option LineValue
where_so is w = if is then Some (Word w) else None

-- a number with its place, where both were said
abbrev pub entry_of : List (List ℕ) → List ℕ → Option ℕ → Option LineValue
entry_of places place None = None
entry_of places place (Some v) = if is_among places place then Some (Entry v place) else None

-- a word cut at this `=`
abbrev pub entry_cut : List (List ℕ) → List ℕ → Option ℕ → Option LineValue
entry_cut places w None = None
entry_cut places w (Some i) = entry_of places (drop 1 (drop i w)) (number_said (2 ^ 64 - 1) (take i w))

-- what a word of a kind says
abbrev pub word_said : Network → WordKind → List ℕ → Option LineValue
word_said n Digits w = where_so (number_test w) w
word_said n (NumberTo most) w = option_map Number (number_said most w)
word_said n HostName w = option_map HostAt (host_said n w)
word_said n Turn w = option_map TurnBy (turn_said w)
word_said n MapPlace w = option_map VertexAt (vertex_said n w)
word_said n Hex w = option_map Bytes (bytes_said w)
word_said n (OneOf ws) w = where_so (is_among ws w) w
word_said n (EntryOr other places) w = if bytes_eq w other then Some (Word w)
    else entry_cut places w (position (nat_eq 61) w)

-- a value before others, where all were said
abbrev pub onto : Option LineValue → Option (List LineValue) → Option (List LineValue)
onto v vs = option_and_then (λ x. option_map (λ xs. x ∷ xs) vs) v

-- what words say that are each of one kind
abbrev pub all_said : Network → WordKind → List (List ℕ) → Option (List LineValue)
all_said n k [] = Some []
all_said n k (w ∷ ws) = onto (word_said n k w) (all_said n k ws)

-- The values that words of this form say; none where they have another form.
abbrev pub matched : Network → List Slot → List (List ℕ) → Option (List LineValue)
matched n [] [] = Some []
matched n [] (w ∷ ws) = None
matched n (Fixed v ∷ ss) [] = None
matched n (Fixed v ∷ ss) (w ∷ ws) = if bytes_eq w v then matched n ss ws else None
matched n (Of k ∷ ss) [] = None
matched n (Of k ∷ ss) (w ∷ ws) = onto (word_said n k w) (matched n ss ws)
matched n (AnEnd ∷ ss) [] = None
matched n (AnEnd ∷ ss) (v ∷ []) = None
matched n (AnEnd ∷ ss) (v ∷ p ∷ ws) = onto (option_map EndAt (end_said n v p)) (matched n ss ws)
matched n (AnEndBy b ∷ ss) (v ∷ w ∷ p ∷ ws) = if bytes_eq w b
    then onto (option_map EndAt (end_said n v p)) (matched n ss ws) else None
matched n (AnEndBy b ∷ ss) ws = None
matched n (Rest k ∷ ss) ws = all_said n k ws
