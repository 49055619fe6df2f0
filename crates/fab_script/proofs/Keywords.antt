-- A keyword with a space after it is the first word.
use Rattle.std.proofs.Common.{◌≡◌, ℕ, List, [], ◌∷◌, ◌++◌, Bool, true, false, ◌&&◌, not, bytes_eq, refl, ap, ◌∙◌, if◌then◌else◌}
use Rattle.std.specs.List.{list_all, onto_first}
use Rattle.std.proofs.lemmas.Slice.Eq.{bytes_eq-Decides}
use Rattle.fab_text.specs.Line.{is_blank, words_of}
use Rattle.fab_script.specs.Leading.{is_plain}

-- bytes without a blank, with a space after them
plain_leads : (b : ℕ) (w left : List ℕ) → list_all (λ c. not (is_blank c)) (b ∷ w) ≡ true → words_of (b ∷ w ++ 32 ∷ left) ≡ (b ∷ w) ∷ words_of left
plain_leads b [] left h = by (is_blank b) h
  where
    by : (t : Bool) → not t && true ≡ true → (if t then words_of left else (b ∷ []) ∷ words_of left) ≡ (b ∷ []) ∷ words_of left
    by true e = cc
    by false e = refl
plain_leads b (c ∷ w) left h = by (is_blank b) (is_blank c) (list_all (λ d. not (is_blank d)) w) (plain_leads c w left) h
  where
    by : (t u v : Bool) → (not u && v ≡ true → words_of (c ∷ w ++ 32 ∷ left) ≡ (c ∷ w) ∷ words_of left) → not t && (not u && v) ≡ true
        → (if t then words_of (c ∷ w ++ 32 ∷ left) else if u then (b ∷ []) ∷ words_of (c ∷ w ++ 32 ∷ left) else onto_first b (words_of (c ∷ w ++ 32 ∷ left)))
        ≡ (b ∷ c ∷ w) ∷ words_of left
    by true u v f e = cc
    by false true v f e = cc
    by false false v f e = ap (onto_first b) (f e)

-- a word with a space after it
pub leads : (keyword left : List ℕ) → is_plain keyword ≡ true → words_of (keyword ++ 32 ∷ left) ≡ keyword ∷ words_of left
leads [] left h = cc
leads (b ∷ w) left h = plain_leads b w left h

-- what is left begins with a keyword and a space
pub keyword_leads : (line front rest left keyword : List ℕ) → is_plain keyword ≡ true → line ≡ front ++ rest → rest ≡ 32 ∷ left → bytes_eq front keyword ≡ true → words_of line ≡ keyword ∷ words_of left
keyword_leads line front rest left keyword h cut space same =
    let word : front ≡ keyword = (bytes_eq-Decides front keyword).0 same in
    ap words_of (cut ∙ ap (λ r. front ++ r) space ∙ ap (λ w. w ++ 32 ∷ left) word) ∙ leads keyword left h
