-- Forms that share no line, forms whose words separate nothing, and forms that begin no comment.
use Rattle.std.specs.Prelude.{ℕ, Bool, true, false, ◌&&◌, ◌||◌, not, List, [], ◌∷◌, bytes_eq}
use Rattle.std.specs.List.{list_all}
use Rattle.fab_text.specs.Line.{says_nothing}
use Rattle.fab_text.specs.Word.{number_test}
use Rattle.fabric_file.specs.Plain.{is_plain_byte, is_plain}
use Rattle.line_table.specs.Form.{WordKind, Digits, NumberTo, OneOf, EntryOr, Slot, Fixed, Of, AnEnd, AnEndBy, Rest}
use Rattle.line_table.specs.Matching.{is_among}

-- a word is none of a kind; it isn't decided for names
abbrev pub is_outside : WordKind → List ℕ → Bool
is_outside Digits w = not (number_test w)
is_outside (NumberTo most) w = not (number_test w)
is_outside (OneOf ws) w = not (is_among ws w)
is_outside k w = false

-- no word of the second kind is of the first
abbrev pub is_disjoint : WordKind → WordKind → Bool
is_disjoint k (OneOf ws) = list_all (is_outside k) ws
is_disjoint k l = false

-- No line of the second form has the first.
abbrev pub is_apart : List Slot → List Slot → Bool
is_apart [] (Fixed w ∷ ts) = true
is_apart [] (Of l ∷ ts) = true
is_apart [] (AnEnd ∷ ts) = true
is_apart [] (AnEndBy w ∷ ts) = true
is_apart (Fixed v ∷ ss) [] = true
is_apart (Of k ∷ ss) [] = true
is_apart (Fixed v ∷ ss) (Fixed w ∷ ts) = not (bytes_eq w v) || is_apart ss ts
is_apart (Fixed v ∷ ss) (Of l ∷ ts) = is_outside l v || is_apart ss ts
is_apart (Of k ∷ ss) (Fixed w ∷ ts) = is_outside k w || is_apart ss ts
is_apart (Of k ∷ ss) (Of l ∷ ts) = is_disjoint k l || is_apart ss ts
is_apart (AnEnd ∷ ss) (AnEnd ∷ ts) = is_apart ss ts
is_apart ss ts = false

-- the words of a kind separate nothing
abbrev pub is_plain_kind : WordKind → Bool
is_plain_kind (OneOf ws) = list_all is_plain ws
is_plain_kind (EntryOr other places) = is_plain other && list_all (list_all is_plain_byte) places
is_plain_kind k = true

-- The words of a form separate nothing.
abbrev pub is_plain_form : List Slot → Bool
is_plain_form [] = true
is_plain_form (Fixed w ∷ ss) = is_plain w && is_plain_form ss
is_plain_form (Of k ∷ ss) = is_plain_kind k && is_plain_form ss
is_plain_form (AnEnd ∷ ss) = is_plain_form ss
is_plain_form (AnEndBy w ∷ ss) = is_plain w && is_plain_form ss
is_plain_form (Rest k ∷ ss) = is_plain_kind k

-- a word that begins no comment
abbrev pub is_spoken : List ℕ → Bool
is_spoken w = not (says_nothing (w ∷ []))

-- The first word of a form is a fixed one, or one of some, and begins no comment.
abbrev pub is_spoken_form : List Slot → Bool
is_spoken_form (Fixed w ∷ ss) = is_spoken w
is_spoken_form (Of (OneOf ws) ∷ ss) = list_all is_spoken ws
is_spoken_form ss = false
