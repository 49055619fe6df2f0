-- A line that begins with another letter than `end`.
use Rattle.std.proofs.Common.{ℕ, ◌≡◌, List, [], ◌∷◌, Bool, true, false, ◌&&◌, get_or, nat_eq, bytes_eq, codes, refl, ap, if◌then◌else◌}
use Rattle.std.specs.List.{onto_first}
use Rattle.fab_text.specs.Line.{is_blank, ends_word, words_of}
use Rattle.run_defs.specs.Script.{is_end}

pub other_word : (line : List ℕ) → (nat_eq (get_or line 0 0) 101 ≡ false) × (is_blank (get_or line 0 0) ≡ false) → is_end (words_of line) ≡ false
other_word [] h = refl
other_word (b ∷ bs) h = by (is_blank b) (ends_word bs) (words_of bs) h.1
  where
    first : (w : List ℕ) (ws : List (List ℕ)) → is_end ((b ∷ w) ∷ ws) ≡ false
    first w [] = ap (λ t. t && bytes_eq w (codes "nd")) h.0
    first w (v ∷ ws) = refl

    by : (t u : Bool) (ws : List (List ℕ)) → t ≡ false → is_end (if t then ws else if u then (b ∷ []) ∷ ws else onto_first b ws) ≡ false
    by true u ws e = cc
    by false true ws e = first [] ws
    by false false [] e = first [] []
    by false false (w ∷ ws) e = first w ws
