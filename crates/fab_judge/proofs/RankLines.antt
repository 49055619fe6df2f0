-- The lines of ranks.
use Rattle.std.proofs.Common.{◌≡◌, ℕ, List, [], ◌∷◌, ◌++◌, Bool, true, false, Option, Some, None, Result, Ok, Err, refl, ap, sym, subst, ◌∙◌, if◌then◌else◌}
use Rattle.std.specs.Prelude.{option_and_then}
use Rattle.net_defs.specs.Network.{Network}
use Rattle.map_defs.specs.declared.rank.RankEntry.{RankEntry}
use Rattle.map_defs.specs.NetMap.{NetMap}
use Rattle.fab_text.specs.Line.{TextLine, words_of}
use Rattle.fab_text.specs.Fault.{and_then}
use Rattle.report_lines.specs.declared.line.ReportLine.{ReportLine}
use Rattle.report_lines.specs.Lines.{line_said}
use Rattle.judge_defs.specs.Form.{Reads, rank_lines, rank_due, ranks_from, is_end_of_routes}
use Rattle.fab_judge.specs.declared.stop.Unread.{Unread}
use Rattle.fab_judge.specs.declared.stop.Unread.TheVariants.{At, NoMemory}
use Rattle.fab_judge.specs.Reading.{Gives, GivesItems, next_said, numbered}
use Rattle.fab_judge.specs.Blocks.{rank_or_none, rank_of_line, next_rank}
use Rattle.fab_judge.proofs.Next.{IsTaken, next-taken}
use Rattle.fab_judge.proofs.Blocks.{after, after-one, onto, block-end}

-- one rank

rank-taken : (shown : Option NetMap) (before : Option RankEntry) (past : ℕ) (n : Network) (ls left : List TextLine) (number : ℕ) (said : ReportLine)
    → IsTaken n ls number said left → next_rank shown before past n ls ≡ rank_of_line shown before number left (Some said)
rank-taken shown before past n ls left number said t =
    ap (next_rank shown before past n) t.lines
    ∙ ap (λ o. rank_of_line shown before t.line.number left o) t.says
    ∙ ap (λ k. rank_of_line shown before k left (Some said)) t.at

-- the next rank by what the line says
pub rank-by : (shown : Option NetMap) (before : Option RankEntry) (past : ℕ) (n : Network) (ls left : List TextLine) (number : ℕ) (said : ReportLine) (r : Result (Option RankEntry) Unread)
    → next_said past n ls ≡ Ok ((number, said), left) → Gives (rank_of_line shown before number left (Some said)) left r → Gives (next_rank shown before past n ls) left r
rank-by shown before past n ls left number said r e g =
    subst (λ s. Gives s left r) (sym (rank-taken shown before past n ls left number said (next-taken past n ls number said left e))) g

pub rank-end : (shown : Option NetMap) (before : Option RankEntry) (left : List TextLine) (number : ℕ) (said : ReportLine)
    → is_end_of_routes (Some said) ≡ true → rank_of_line shown before number left (Some said) ≡ Ok (None, left)
rank-end shown before left number said t = ap (λ b. if b then Ok (None, left) else rank_or_none number left (rank_due shown before said)) t

pub rank-said : (shown : Option NetMap) (before : Option RankEntry) (left : List TextLine) (number : ℕ) (said : ReportLine) (o : Option RankEntry)
    → is_end_of_routes (Some said) ≡ false → rank_due shown before said ≡ o → rank_of_line shown before number left (Some said) ≡ rank_or_none number left o
rank-said shown before left number said o t d =
    ap (λ b. if b then Ok (None, left) else rank_or_none number left (rank_due shown before said)) t ∙ ap (rank_or_none number left) d

err-same : {X E : Type 0} (r : Result X E) (x y : E) → r ≡ Err x → r ≡ Err y → x ≡ y
err-same r x y e f = cc

rank-fault : (shown : Option NetMap) (before : Option RankEntry) (past : ℕ) (n : Network) (ls : List TextLine) (line : ℕ) → next_said past n ls ≡ Err line → next_rank shown before past n ls ≡ Err line
rank-fault shown before past n [] line e = ap (λ k. Err k) (err-same (next_said past n []) past line refl e)
rank-fault shown before past n (l ∷ ls) line e = by (line_said n (words_of l.bytes)) e
  where
    by : (o : Option ReportLine) → numbered l.number ls o ≡ Err line → rank_of_line shown before l.number ls o ≡ Err line
    by None g = ap (λ k. Err k) (err-same (numbered l.number ls None) l.number line refl g)
    by (Some x) g = cc

pub rank-stopped : (shown : Option NetMap) (before : Option RankEntry) (past : ℕ) (n : Network) (ls left : List TextLine) (stop : Unread)
    → Gives (next_said past n ls) left (Err stop) → Gives (next_rank shown before past n ls) left (let s : Result (Option RankEntry) Unread = Err stop in s)
rank-stopped shown before past n ls left (At line) g = rank-fault shown before past n ls line g
rank-stopped shown before past n ls left NoMemory g = tt

-- all ranks by the first

-- a rank with those after it, or none
abbrev ranks_then : Option NetMap → ℕ → Network → Option RankEntry → List TextLine → Reads (List RankEntry)
ranks_then shown past n None ls = Ok ([], ls)
ranks_then shown past n (Some k) ls = onto k (rank_lines shown (Some k) past n ls)

ranks-by : (shown : Option NetMap) (before : Option RankEntry) (past : ℕ) (n : Network) (ls : List TextLine)
    → rank_lines shown before past n ls ≡ and_then (next_rank shown before past n ls) (λ r. ranks_then shown past n r.0 r.1)
ranks-by shown before past n [] = refl
ranks-by shown before past n (l ∷ ls) = by (is_end_of_routes (line_said n (words_of l.bytes))) (option_and_then (rank_due shown before) (line_said n (words_of l.bytes)))
  where
    by : (b : Bool) (o : Option RankEntry)
        → (if b then Ok ([], ls) else ranks_from l.number o (λ k. rank_lines shown (Some k) past n ls))
        ≡ and_then (if b then Ok (None, ls) else rank_or_none l.number ls o) (λ r. ranks_then shown past n r.0 r.1)
    by true o = refl
    by false None = refl
    by false (Some k) = refl

pub ranks-end : (shown : Option NetMap) (before : Option RankEntry) (past : ℕ) (n : Network) (ls left : List TextLine) (all : Reads (List RankEntry)) (done : List RankEntry)
    → all ≡ after done (rank_lines shown before past n ls) → next_rank shown before past n ls ≡ Ok (None, left) → all ≡ Ok (done, left)
ranks-end shown before past n ls left all done a e =
    block-end all done left (a ∙ ap (after done) (ranks-by shown before past n ls ∙ ap (λ r. and_then r (λ r. ranks_then shown past n r.0 r.1)) e))

pub ranks-more : (shown : Option NetMap) (before now : Option RankEntry) (past : ℕ) (n : Network) (ls left : List TextLine) (k : RankEntry) (all : Reads (List RankEntry)) (done ks : List RankEntry)
    → all ≡ after done (rank_lines shown before past n ls) → next_rank shown before past n ls ≡ Ok (Some k, left) → ks ≡ done ++ k ∷ [] → now ≡ Some k
    → all ≡ after ks (rank_lines shown now past n left)
ranks-more shown before now past n ls left k all done ks a e p s =
    a ∙ ap (after done) (ranks-by shown before past n ls ∙ ap (λ r. and_then r (λ r. ranks_then shown past n r.0 r.1)) e)
    ∙ after-one done k (rank_lines shown (Some k) past n left)
    ∙ ap (λ d. after d (rank_lines shown (Some k) past n left)) (sym p)
    ∙ ap (λ b. after ks (rank_lines shown b past n left)) (sym s)

pub ranks-stopped : (shown : Option NetMap) (before : Option RankEntry) (past : ℕ) (n : Network) (ls left : List TextLine) (all : Reads (List RankEntry)) (done : List RankEntry) (stop : Unread)
    → all ≡ after done (rank_lines shown before past n ls) → Gives (next_rank shown before past n ls) left (let s : Result (Option RankEntry) Unread = Err stop in s) → GivesItems all left (Err stop)
ranks-stopped shown before past n ls left all done (At line) a g =
    a ∙ ap (after done) (ranks-by shown before past n ls ∙ ap (λ r. and_then r (λ r. ranks_then shown past n r.0 r.1)) g)
ranks-stopped shown before past n ls left all done NoMemory a g = tt
