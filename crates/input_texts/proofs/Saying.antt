-- Lines of a script that say commands, read one after another.
use Rattle.std.proofs.Common.{◌≡◌, ◌<◌, ◌≤◌, ℕ, zero, suc, ◌+◌, List, [], ◌∷◌, ◌++◌, false, Result, Ok, refl, ap, ◌∙◌, append_assoc, arith, if◌then◌else◌}
use Rattle.std.specs.Prelude.{codes, flat_map}
use Rattle.std.specs.List.{range_with_len}
use Rattle.net_defs.specs.Network.{Network}
use Rattle.fab_text.specs.Line.{TextLine, lines_left, says_nothing}
use Rattle.fab_text.specs.Fault.{FirstFault, and_then, at_line}
use Rattle.fab_text.specs.Written.{line_text}
use Rattle.run_defs.specs.declared.command.Command.{Command}
use Rattle.run_defs.specs.declared.command.Command.TheVariants.{Finish}
use Rattle.run_defs.specs.Script.{command_of, ended, is_end, script_from}
use Rattle.fabric_file.specs.Plain.{ArePlain}
use Rattle.fabric_file.proofs.PlainLines.{left-printed, words-spaced}
use Rattle.fabric_gen.specs.Text.{lines_text}

-- A line of these words says this command.
pub record IsSaid (f : Network) (ws : List (List ℕ)) (c : Command) : Type 0 where
  pub plain : ArePlain ws
  pub speaks : says_nothing ws ≡ false
  pub goes_on : is_end ws ≡ false
  pub means : command_of f ws ≡ Ok c

-- lines say commands, one each
abbrev pub Says : Network → List (List (List ℕ)) → List Command → Type 0
Says f [] [] = Unit {0}
Says f (l ∷ ls) (c ∷ cs) = IsSaid f l c × Says f ls cs
Says f _ _ = ⊥

-- what the lines from a line of these words on say
abbrev from_words : ℕ → Network → ℕ → List TextLine → List (List ℕ) → Result (List Command) FirstFault
from_words past f k ls ws =
    if is_end ws then ended ls else and_then (at_line k (command_of f ws)) (λ c. and_then (script_from past f ls) (λ cs. Ok (c ∷ cs)))

read-line : (past k : ℕ) (f : Network) (w : List ℕ) (ws : List (List ℕ)) (rest : List ℕ) (c : Command) → IsSaid f (w ∷ ws) c
    → script_from past f (lines_left (record { number = k; text = line_text (w ∷ ws) ++ rest }))
    ≡ and_then (script_from past f (lines_left (record { number = k + 1; text = rest }))) (λ cs. Ok (c ∷ cs))
read-line past k f w ws rest c s =
    let ls = lines_left (record { number = k + 1; text = rest }) in
    ap (script_from past f) (left-printed k w ws rest s.plain s.speaks)
    ∙ ap (from_words past f k ls) (words-spaced (w ∷ ws) s.plain)
    ∙ (λ i. if s.goes_on i then ended ls else and_then (at_line k (s.means i)) (λ c. and_then (script_from past f ls) (λ cs. Ok (c ∷ cs))))

-- lines that say commands before a text that says others
pub read-lines : (past k : ℕ) (f : Network) (ls : List (List (List ℕ))) (cs : List Command) (rest : List ℕ) (last : List Command) → Says f ls cs
    → ((j : ℕ) → script_from past f (lines_left (record { number = j; text = rest })) ≡ Ok last)
    → script_from past f (lines_left (record { number = k; text = lines_text ls ++ rest })) ≡ Ok (cs ++ last)
read-lines past k f [] [] rest last says end = end k
read-lines past k f [] (c ∷ cs) rest last says end = absurd says
read-lines past k f (l ∷ ls) [] rest last says end = absurd says
read-lines past k f ([] ∷ ls) (c ∷ cs) rest last says end = let means = says.0.means in cc
read-lines past k f ((w ∷ ws) ∷ ls) (c ∷ cs) rest last says end =
    ap (λ t. script_from past f (lines_left (record { number = k; text = t }))) (append_assoc (line_text (w ∷ ws)) (lines_text ls) rest)
    ∙ read-line past k f w ws (lines_text ls ++ rest) c says.0
    ∙ ap (λ r. and_then r (λ ds. Ok (c ∷ ds))) (read-lines past (k + 1) f ls cs rest last says.1 end)

-- the last line
pub read-end : (past k : ℕ) (f : Network) → script_from past f (lines_left (record { number = k; text = line_text (codes "end" ∷ []) })) ≡ Ok (Finish ∷ [])
read-end past k f = refl

-- lines after lines
pub says-both : (f : Network) (ls ms : List (List (List ℕ))) (cs ds : List Command) → Says f ls cs → Says f ms ds → Says f (ls ++ ms) (cs ++ ds)
says-both f [] ms [] ds a b = b
says-both f [] ms (c ∷ cs) ds a b = absurd a
says-both f (l ∷ ls) ms [] ds a b = absurd a
says-both f (l ∷ ls) ms (c ∷ cs) ds a b = (a.0, says-both f ls ms cs ds a.1 b)

-- lines that each number of a range gives
pub says-range : (f : Network) (g : ℕ → List (List (List ℕ))) (h : ℕ → List Command) (a k : ℕ) → ((i : ℕ) → a ≤ i → i < a + k → Says f (g i) (h i))
    → Says f (flat_map g (range_with_len a k)) (flat_map h (range_with_len a k))
says-range f g h a zero each = tt
says-range f g h a (suc k) each =
    says-both f (g a) (flat_map g (range_with_len (a + 1) k)) (h a) (flat_map h (range_with_len (a + 1) k)) (each a (omega arith) (omega arith))
    (says-range f g h (a + 1) k (λ i low high. each i (omega arith) (omega arith)))
