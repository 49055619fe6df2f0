-- What the verdicts say.
use Rattle.std.proofs.Common.{◌≡◌, List, ℕ, Result, Ok, Err, IfOk, refl, ap, ◌∙◌}
use Rattle.std.specs.Prelude.{◌↔◌}
use Rattle.fab_text.specs.declared.fault.TextFault.{TextFault}
use Rattle.answer_defs.specs.declared.why.Why.{Why}
use Rattle.judge_defs.specs.Text.{judged_text, IsJudgedYes, FailsFirstIn}
use Rattle.judge_defs.proofs.Excluding.{text_yes_no, text_first_once}
use Rattle.fab_judge.specs.declared.verdict.Verdict.{Verdict}
use Rattle.fab_judge.specs.declared.verdict.Verdict.TheVariants.{Yes, No}
use Rattle.fab_judge.specs.Verdicts.{GivesVerdict}

pub verdict-yes : (text : List ℕ) (r : Result Verdict TextFault) → GivesVerdict (judged_text text) r → IfOk r (λ v. (v ≡ Yes) ↔ IsJudgedYes text)
verdict-yes text (Ok Yes) g = (λ e. record { judged = g.0; said = g.1; yes = g.2 }, λ y. refl)
verdict-yes text (Ok (No line why)) g = (λ e. cc, λ y. absurd (text_yes_no text line why y (record { judged = g.0; said = g.1; fails = g.2 })))
verdict-yes text (Err e) g = tt

-- what the verdict is where a line is the first that fails
pub verdict-named : (text : List ℕ) (r : Result Verdict TextFault) (line : ℕ) (why : Why) → GivesVerdict (judged_text text) r → FailsFirstIn text line why → IfOk r (λ v. v ≡ No line why)
verdict-named text (Ok Yes) line why g f = absurd (text_yes_no text line why (record { judged = g.0; said = g.1; yes = g.2 }) f)
verdict-named text (Ok (No other what)) line why g f =
    let same = text_first_once text other line what why (record { judged = g.0; said = g.1; fails = g.2 }) f in
    ap (λ k. No k what) same.0 ∙ ap (λ w. No line w) same.1
verdict-named text (Err e) line why g f = tt
