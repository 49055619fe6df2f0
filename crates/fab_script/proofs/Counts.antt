-- How many words a line has at most.
use Rattle.std.proofs.Common.{◌≡◌, ◌≤◌, ◌+◌, ◌*◌, ℕ, List, [], ◌∷◌, Bool, true, false, length, nat_le, refl, ap, arith, if◌then◌else◌}
use Rattle.std.specs.List.{onto_first}
use Rattle.std.proofs.lemmas.Bool.Decides.{nat_tests}
use Rattle.fab_text.specs.Line.{is_blank, ends_word, words_of}

-- a blank in front
skipped : (c : ℕ) (cs : List ℕ) → is_blank c ≡ true → words_of (c ∷ cs) ≡ words_of cs
skipped c cs e = ap (λ t. if t then words_of cs else if ends_word cs then (c ∷ []) ∷ words_of cs else onto_first c (words_of cs)) e

-- each word but the last takes two bytes with the blank after it
words-half : (bs : List ℕ) → 2 * length (words_of bs) ≤ length bs + 1
words-half [] = omega arith
words-half (b ∷ []) = by (is_blank b)
  where
    by : (t : Bool) → 2 * length (if t then [] else (b ∷ []) ∷ []) ≤ length (b ∷ []) + 1
    by true = omega arith
    by false = omega arith
words-half (b ∷ c ∷ cs) = by (is_blank b) (is_blank c) (skipped c cs) (words-half (c ∷ cs)) (words-half cs)
  where
    onto : (ws : List (List ℕ)) → 2 * length ws ≤ length (c ∷ cs) + 1 → 2 * length (onto_first b ws) ≤ length (b ∷ c ∷ cs) + 1
    onto [] h = omega arith
    onto (w ∷ ws) h = omega (arith, h)

    by : (t u : Bool) → (u ≡ true → words_of (c ∷ cs) ≡ words_of cs)
        → 2 * length (words_of (c ∷ cs)) ≤ length (c ∷ cs) + 1 → 2 * length (words_of cs) ≤ length cs + 1
        → 2 * length (if t then words_of (c ∷ cs) else if u then (b ∷ []) ∷ words_of (c ∷ cs) else onto_first b (words_of (c ∷ cs))) ≤ length (b ∷ c ∷ cs) + 1
    by true u e h k = omega (arith, h)
    by false true e h k = let same = ap length (e refl) in omega (arith, same, k)
    by false false e h k = onto (words_of (c ∷ cs)) h

-- so few bytes have no more than 64 words
pub few_words : (bs : List ℕ) → length bs ≤ 128 → true ≡ nat_le (length (words_of bs)) 64
few_words bs short = let half = words-half bs in let few : length (words_of bs) ≤ 64 = omega (arith, half, short) in grind (arith, nat_tests, few)
