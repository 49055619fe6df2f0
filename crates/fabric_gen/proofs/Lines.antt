-- Lines that are written one after another.
use Rattle.std.proofs.Common.{◌≡◌, ℕ, ◌+◌, List, [], ◌∷◌, ◌++◌, map, ap, sym, ◌∙◌, append_assoc, arith, refl}
use Rattle.std.specs.Prelude.{flat_map}
use Rattle.std.proofs.lemmas.Grind.{flat_map-append}
use Rattle.std.proofs.lemmas.List.{append-nil}
use Rattle.std.proofs.lemmas.List.FromFn.{map-range_with_len_more}
use Rattle.fab_text.specs.Written.{line_text}
use Rattle.fabric_gen.specs.Text.{below, lines_text}

-- lines after others
pub lines_written : (old first text : List ℕ) (xs ys : List (List (List ℕ))) → first ≡ old ++ lines_text xs → text ≡ first ++ lines_text ys
    → text ≡ old ++ lines_text (xs ++ ys)
lines_written old first text xs ys a b =
    b ∙ ap (λ t. t ++ lines_text ys) a ∙ append_assoc old (lines_text xs) (lines_text ys) ∙ ap (λ t. old ++ t) (sym (flat_map-append line_text xs ys))

-- one line after others
pub line_written : (old first text : List ℕ) (xs : List (List (List ℕ))) (l : List (List ℕ)) → first ≡ old ++ lines_text xs → text ≡ first ++ line_text l
    → text ≡ old ++ lines_text (xs ++ l ∷ [])
line_written old first text xs l a b = lines_written old first text xs (l ∷ []) a (b ∙ ap (λ t. first ++ t) (sym (append-nil (line_text l))))

-- four lines
pub four_written : (old a b c text : List ℕ) (k l m n : List (List ℕ)) → a ≡ old ++ line_text k → b ≡ a ++ line_text l → c ≡ b ++ line_text m
    → text ≡ c ++ line_text n
    → text ≡ old ++ lines_text (k ∷ l ∷ m ∷ n ∷ [])
four_written old a b c text k l m n d e f g =
    line_written old c text (k ∷ l ∷ m ∷ []) n (line_written old b c (k ∷ l ∷ []) m (line_written old a b (k ∷ []) l (line_written old old a [] k (sym (append-nil old)) d) e) f) g

-- the numbers up to one more
below-more : (i : ℕ) → below (i + 1) ≡ below i ++ i ∷ []
below-more i = sym (map-id (below (i + 1))) ∙ map-range_with_len_more (λ k. k) 0 i i (omega arith) ∙ ap (λ l. l ++ i ∷ []) (map-id (below i))
  where
    map-id : (xs : List ℕ) → map (λ k. k) xs ≡ xs
    map-id [] = refl
    map-id (x ∷ xs) = ap (λ t. x ∷ t) (map-id xs)

-- one line more of those that numbers give
pub line_more : (f : ℕ → List (List ℕ)) (i : ℕ) (old loop text : List ℕ) → loop ≡ old ++ lines_text (map f (below i)) → text ≡ loop ++ line_text (f i)
    → text ≡ old ++ lines_text (map f (below (i + 1)))
line_more f i old loop text a b =
    line_written old loop text (map f (below i)) (f i) a b ∙ ap (λ ls. old ++ lines_text ls) (sym (map-range_with_len_more f 0 i i (omega arith)))

-- the lines of one number more
pub lines_more : (f : ℕ → List (List (List ℕ))) (i : ℕ) (old loop text : List ℕ) → loop ≡ old ++ lines_text (flat_map f (below i))
    → text ≡ loop ++ lines_text (f i)
    → text ≡ old ++ lines_text (flat_map f (below (i + 1)))
lines_more f i old loop text a b =
    lines_written old loop text (flat_map f (below i)) (f i) a b
    ∙ ap (λ ls. old ++ lines_text ls)
    (ap (λ l. flat_map f (below i) ++ l) (sym (append-nil (f i))) ∙ sym (flat_map-append f (below i) (i ∷ [])) ∙ ap (λ ns. flat_map f ns) (sym (below-more i)))
