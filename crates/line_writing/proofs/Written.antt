-- Words with one space between them: the first, and the others after it.
use Rattle.std.proofs.Common.{ℕ, ◌≡◌, List, [], ◌∷◌, ◌++◌, map, ap, sym, ◌∙◌, append_assoc}
use Rattle.std.specs.Prelude.{flat_map}
use Rattle.std.proofs.lemmas.List.{append-nil}
use Rattle.std.proofs.lemmas.List.Folds.{flat_map-map}
use Rattle.fab_text.specs.Written.{spaced}
use Rattle.line_writing.specs.declared.word.Word.{Word}
use Rattle.line_writing.specs.Words.{word_text}

-- words with one space between them are the first, and the others with a space before each
pub spaced_behind : (w : List ℕ) (ws : List (List ℕ)) → spaced (w ∷ ws) ≡ w ++ flat_map (λ v. 32 ∷ v) ws
spaced_behind w [] = sym (append-nil w)
spaced_behind w (v ∷ vs) = ap (λ t. w ++ 32 ∷ t) (spaced_behind v vs)

-- a first word and the others were written
pub spaced_written : (old first text : List ℕ) (w : Word) (ws : List Word) → first ≡ old ++ word_text w → text ≡ first ++ flat_map (λ v. 32 ∷ word_text v) ws
    → text ≡ old ++ spaced (map word_text (w ∷ ws))
spaced_written old first text w ws a b =
    b
    ∙ ap (λ t. t ++ flat_map (λ v. 32 ∷ word_text v) ws) a
    ∙ append_assoc old (word_text w) (flat_map (λ v. 32 ∷ word_text v) ws)
    ∙ ap (λ t. old ++ t)
    (ap (λ t. word_text w ++ t) (sym (flat_map-map (λ v. 32 ∷ v) word_text ws)) ∙ sym (spaced_behind (word_text w) (map word_text ws)))
