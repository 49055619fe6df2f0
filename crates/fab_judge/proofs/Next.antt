-- The next line, by what it says and what is due.
use Rattle.std.proofs.Common.{◌≡◌, ℕ, List, [], ◌∷◌, Option, Some, None, Result, Ok, Err, IfOk, refl, ap, sym, ◌∙◌, subst}
use Rattle.std.specs.Prelude.{option_and_then}
use Rattle.net_defs.specs.Network.{Network}
use Rattle.fab_text.specs.Line.{TextLine, words_of}
use Rattle.report_lines.specs.declared.line.ReportLine.{ReportLine}
use Rattle.report_lines.specs.Lines.{line_said}
use Rattle.judge_defs.specs.Form.{where_due, next_due}
use Rattle.fab_judge.specs.Reading.{Gives, numbered, next_said, found}
use Rattle.fab_judge.specs.declared.stop.Unread.{Unread}
use Rattle.fab_judge.proofs.Lists.{ok-same}

-- what a line says that was found
pub next-kept : (past : ℕ) (n : Network) (ls left now : List TextLine) (l : TextLine) (r : Result (ℕ × ReportLine) Unread)
    → ls ≡ l ∷ left → now ≡ left → Gives (numbered l.number left (line_said n (words_of l.bytes))) now r → Gives (next_said past n ls) now r
next-kept past n ls left now l r e s g = subst (λ k. Gives (next_said past n k) now r) (sym e) g

pub next-none : (past : ℕ) (n : Network) (ls : List TextLine) → ls ≡ [] → next_said past n ls ≡ Err past
next-none past n ls e = ap (next_said past n) e

-- the next line, which has this number, says this, and these lines follow
pub record IsTaken (n : Network) (ls : List TextLine) (number : ℕ) (said : ReportLine) (left : List TextLine) : Type 0 where
  pub line : TextLine
  pub lines : ls ≡ line ∷ left
  pub at : line.number ≡ number
  pub says : line_said n (words_of line.bytes) ≡ Some said

pub next-taken : (past : ℕ) (n : Network) (ls : List TextLine) (number : ℕ) (said : ReportLine) (left : List TextLine)
    → next_said past n ls ≡ Ok ((number, said), left) → IsTaken n ls number said left
next-taken past n [] number said left e = cc
next-taken past n (l ∷ ls) number said left e = by (line_said n (words_of l.bytes)) refl e
  where
    by : (o : Option ReportLine) → line_said n (words_of l.bytes) ≡ o → numbered l.number ls o ≡ Ok ((number, said), left) → IsTaken n (l ∷ ls) number said left
    by None f g = cc
    by (Some x) f g =
        let p = ok-same (numbered l.number ls (Some x)) ((l.number, x), ls) ((number, said), left) refl g in
        record { line = l; lines = ap (λ q. l ∷ q.1) p; at = ap (λ q. q.0.0) p; says = f ∙ ap (λ q. Some q.0.1) p }

taken-due : {X : Type 0} (due : ReportLine → Option X) (past : ℕ) (n : Network) (ls left : List TextLine) (number : ℕ) (said : ReportLine)
    → IsTaken n ls number said left → next_due due past n ls ≡ where_due number left (due said)
taken-due due past n ls left number said t =
    ap (next_due due past n) t.lines
    ∙ ap (λ o. where_due t.line.number left (option_and_then due o)) t.says
    ∙ ap (λ k. where_due k left (due said)) t.at

-- the next line says what is due
pub due-found : {X : Type 0} (due : ReportLine → Option X) (past : ℕ) (n : Network) (ls left : List TextLine) (number : ℕ) (said : ReportLine) (x : X)
    → next_said past n ls ≡ Ok ((number, said), left) → due said ≡ Some x → next_due due past n ls ≡ Ok (x, left)
due-found due past n ls left number said x e d =
    taken-due due past n ls left number said (next-taken past n ls number said left e) ∙ ap (where_due number left) d

-- it says something else
pub due-wrong : {X : Type 0} (due : ReportLine → Option X) (past : ℕ) (n : Network) (ls left : List TextLine) (number : ℕ) (said : ReportLine)
    → next_said past n ls ≡ Ok ((number, said), left) → due said ≡ None → next_due due past n ls ≡ Err number
due-wrong due past n ls left number said e d =
    taken-due due past n ls left number said (next-taken past n ls number said left e) ∙ ap (where_due number left) d

err-same : {X E : Type 0} (r : Result X E) (x y : E) → r ≡ Err x → r ≡ Err y → x ≡ y
err-same r x y e f = cc

-- it is out of form, or missing
pub due-fault : {X : Type 0} (due : ReportLine → Option X) (past : ℕ) (n : Network) (ls : List TextLine) (line : ℕ)
    → next_said past n ls ≡ Err line → next_due due past n ls ≡ Err line
due-fault due past n [] line e = ap (λ k. Err k) (err-same (next_said past n []) past line refl e)
due-fault due past n (l ∷ ls) line e = by (line_said n (words_of l.bytes)) e
  where
    by : (o : Option ReportLine) → numbered l.number ls o ≡ Err line → where_due l.number ls (option_and_then due o) ≡ Err line
    by None g = ap (λ k. Err k) (err-same (numbered l.number ls None) l.number line refl g)
    by (Some x) g = cc

-- so the answer is what is due
pub due-either : {X : Type 0} (due : ReportLine → Option X) (past : ℕ) (n : Network) (ls left : List TextLine) (number : ℕ) (said : ReportLine) (o : Option X) (r : Result X Unread)
    → next_said past n ls ≡ Ok ((number, said), left) → o ≡ due said → r ≡ found number o → Gives (next_due due past n ls) left r
due-either due past n ls left number said None r e d f = subst (λ q. Gives (next_due due past n ls) left q) (sym f) (due-wrong due past n ls left number said e (sym d))
due-either due past n ls left number said (Some x) r e d f = subst (λ q. Gives (next_due due past n ls) left q) (sym f) (due-found due past n ls left number said x e (sym d))

-- what holds in any case does where something was read
pub any-ok : {X E : Type 0} (r : Result X E) (P : Type 0) → P → IfOk r (λ x. P)
any-ok (Ok x) P p = p
any-ok (Err e) P p = tt
