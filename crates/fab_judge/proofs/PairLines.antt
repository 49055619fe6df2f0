-- The lines of broken routes.
use Rattle.std.proofs.Common.{◌≡◌, ℕ, List, [], ◌∷◌, ◌++◌, Bool, true, false, Option, Some, None, Result, Ok, Err, refl, ap, sym, subst, ◌∙◌, if◌then◌else◌}
use Rattle.net_defs.specs.Network.{Network}
use Rattle.fab_text.specs.Line.{TextLine, words_of}
use Rattle.fab_text.specs.Fault.{and_then}
use Rattle.report_lines.specs.declared.line.ReportLine.{ReportLine}
use Rattle.report_lines.specs.Lines.{line_said}
use Rattle.judge_defs.specs.Form.{Reads, broken_lines, pair_due, pairs_from, is_end_of_broken}
use Rattle.fab_judge.specs.declared.stop.Unread.{Unread}
use Rattle.fab_judge.specs.declared.stop.Unread.TheVariants.{At, NoMemory}
use Rattle.fab_judge.specs.Reading.{Gives, Passes, next_said, numbered}
use Rattle.fab_judge.specs.Blocks.{pair_or_none, pair_of_line, next_pair}
use Rattle.fab_judge.proofs.Next.{IsTaken, next-taken}
use Rattle.fab_judge.proofs.Blocks.{after, after-one, onto, block-end, ArePassed}

-- one pair

pair-taken : (before : Option (ℕ × ℕ)) (past : ℕ) (n : Network) (ls left : List TextLine) (number : ℕ) (said : ReportLine)
    → IsTaken n ls number said left → next_pair before past n ls ≡ pair_of_line n before number left (Some said)
pair-taken before past n ls left number said t =
    ap (next_pair before past n) t.lines
    ∙ ap (λ o. pair_of_line n before t.line.number left o) t.says
    ∙ ap (λ k. pair_of_line n before k left (Some said)) t.at

-- the next pair by what the line says
pub pair-by : (before : Option (ℕ × ℕ)) (past : ℕ) (n : Network) (ls left : List TextLine) (number : ℕ) (said : ReportLine) (r : Result (Option (ℕ × ℕ)) Unread)
    → next_said past n ls ≡ Ok ((number, said), left) → Gives (pair_of_line n before number left (Some said)) left r → Gives (next_pair before past n ls) left r
pair-by before past n ls left number said r e g =
    subst (λ s. Gives s left r) (sym (pair-taken before past n ls left number said (next-taken past n ls number said left e))) g

pub pair-end : (before : Option (ℕ × ℕ)) (n : Network) (left : List TextLine) (number : ℕ) (said : ReportLine)
    → is_end_of_broken (Some said) ≡ true → pair_of_line n before number left (Some said) ≡ Ok (None, left)
pair-end before n left number said t = ap (λ b. if b then Ok (None, left) else pair_or_none number left (pair_due n before (Some said))) t

pub pair-said : (before : Option (ℕ × ℕ)) (n : Network) (left : List TextLine) (number : ℕ) (said : ReportLine) (o : Option (ℕ × ℕ))
    → is_end_of_broken (Some said) ≡ false → pair_due n before (Some said) ≡ o → pair_of_line n before number left (Some said) ≡ pair_or_none number left o
pair-said before n left number said o t d =
    ap (λ b. if b then Ok (None, left) else pair_or_none number left (pair_due n before (Some said))) t ∙ ap (pair_or_none number left) d

err-same : {X E : Type 0} (r : Result X E) (x y : E) → r ≡ Err x → r ≡ Err y → x ≡ y
err-same r x y e f = cc

pair-fault : (before : Option (ℕ × ℕ)) (past : ℕ) (n : Network) (ls : List TextLine) (line : ℕ) → next_said past n ls ≡ Err line → next_pair before past n ls ≡ Err line
pair-fault before past n [] line e = ap (λ k. Err k) (err-same (next_said past n []) past line refl e)
pair-fault before past n (l ∷ ls) line e = by (line_said n (words_of l.bytes)) e
  where
    by : (o : Option ReportLine) → numbered l.number ls o ≡ Err line → pair_of_line n before l.number ls o ≡ Err line
    by None g = ap (λ k. Err k) (err-same (numbered l.number ls None) l.number line refl g)
    by (Some x) g = cc

pub pair-stopped : (before : Option (ℕ × ℕ)) (past : ℕ) (n : Network) (ls left : List TextLine) (stop : Unread)
    → Gives (next_said past n ls) left (Err stop) → Gives (next_pair before past n ls) left (let s : Result (Option (ℕ × ℕ)) Unread = Err stop in s)
pair-stopped before past n ls left (At line) g = pair-fault before past n ls line g
pair-stopped before past n ls left NoMemory g = tt

-- all pairs by the first

-- a pair with those after it, or none
abbrev pairs_then : ℕ → Network → Option (ℕ × ℕ) → List TextLine → Reads (List (ℕ × ℕ))
pairs_then past n None ls = Ok ([], ls)
pairs_then past n (Some p) ls = onto p (broken_lines (Some p) past n ls)

pairs-by : (before : Option (ℕ × ℕ)) (past : ℕ) (n : Network) (ls : List TextLine)
    → broken_lines before past n ls ≡ and_then (next_pair before past n ls) (λ r. pairs_then past n r.0 r.1)
pairs-by before past n [] = refl
pairs-by before past n (l ∷ ls) = by (is_end_of_broken (line_said n (words_of l.bytes))) (pair_due n before (line_said n (words_of l.bytes)))
  where
    by : (b : Bool) (o : Option (ℕ × ℕ))
        → (if b then Ok ([], ls) else pairs_from l.number o (λ p. broken_lines (Some p) past n ls))
        ≡ and_then (if b then Ok (None, ls) else pair_or_none l.number ls o) (λ r. pairs_then past n r.0 r.1)
    by true o = refl
    by false None = refl
    by false (Some p) = refl

pub pairs-more : (before : Option (ℕ × ℕ)) (past : ℕ) (n : Network) (ls left : List TextLine) (p : ℕ × ℕ) (all : Reads (List (ℕ × ℕ)))
    → ArePassed all (broken_lines before past n ls) → next_pair before past n ls ≡ Ok (Some p, left) → ArePassed all (broken_lines (Some p) past n left)
pairs-more before past n ls left p all t e = record {
  done = t.done ++ p ∷ [];
  same = t.same
      ∙ ap (after t.done) (pairs-by before past n ls ∙ ap (λ r. and_then r (λ r. pairs_then past n r.0 r.1)) e)
      ∙ after-one t.done p (broken_lines (Some p) past n left);
}

pub pairs-end : (before : Option (ℕ × ℕ)) (past : ℕ) (n : Network) (ls left : List TextLine) (all : Reads (List (ℕ × ℕ)))
    → ArePassed all (broken_lines before past n ls) → next_pair before past n ls ≡ Ok (None, left) → (ps : List (ℕ × ℕ)) × (all ≡ Ok (ps, left))
pairs-end before past n ls left all t e =
    (t.done, block-end all t.done left (t.same ∙ ap (after t.done) (pairs-by before past n ls ∙ ap (λ r. and_then r (λ r. pairs_then past n r.0 r.1)) e)))

pub pairs-stopped : (before : Option (ℕ × ℕ)) (past : ℕ) (n : Network) (ls left : List TextLine) (all : Reads (List (ℕ × ℕ))) (stop : Unread)
    → ArePassed all (broken_lines before past n ls) → Gives (next_pair before past n ls) left (let s : Result (Option (ℕ × ℕ)) Unread = Err stop in s) → Passes all left (Err stop)
pairs-stopped before past n ls left all (At line) t g =
    t.same ∙ ap (after t.done) (pairs-by before past n ls ∙ ap (λ r. and_then r (λ r. pairs_then past n r.0 r.1)) g)
pairs-stopped before past n ls left all NoMemory t g = tt
