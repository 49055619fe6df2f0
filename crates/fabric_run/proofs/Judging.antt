-- What a judge answers is right, and ends the work on its text.
use Rattle.std.proofs.Common.{◌≡◌, ℕ, List, Option, None, Result, Ok, Err, true≢false, refl, sym, subst}
use Rattle.std.specs.Prelude.{◌↔◌, IsOk}
use Rattle.fab_text.specs.Fault.{FirstFault}
use Rattle.answer_defs.specs.declared.why.Why.{Why}
use Rattle.judge_defs.specs.Text.{IsJudgedYes, FailsFirstIn, JudgedText}
use Rattle.fab_judge.specs.declared.verdict.Verdict.{Verdict}
use Rattle.fab_judge.specs.declared.verdict.Verdict.TheVariants.{Yes, No}
use Rattle.run_defs.specs.Session.{SessionState}
use Rattle.fabric_run.specs.declared.status.Status.{Status}
use Rattle.fabric_run.specs.declared.status.Status.TheVariants.{NoMemory}
use Rattle.fabric_run.specs.Ends.{JudgedEnds}
use Rattle.fabric_run.specs.Judged.{IsRightVerdict}

-- what a judge answers is right
pub right-verdict : (text : List ℕ) (v : Verdict) → (v ≡ Yes) ↔ IsJudgedYes text → ((line : ℕ) (why : Why) → v ≡ No line why → FailsFirstIn text line why) → IsRightVerdict text v
right-verdict text Yes is-yes is-no = is-yes.0 refl
right-verdict text (No line why) is-yes is-no = is-no line why refl

-- a verdict that was written, or not, ends the work on a text that is accepted
pub verdict-ends : (text : List ℕ) (r : Result JudgedText FirstFault) (unwritten : Type 0) (taken now : Option (List ℕ)) (s : Status) (held : Option SessionState) → IsOk r
    → ((j : JudgedText) → JudgedEnds text (Ok j) unwritten taken now s held) → JudgedEnds text r unwritten taken now s held
verdict-ends text (Ok j) unwritten taken now s held ok ends = ends j
verdict-ends text (Err f) unwritten taken now s held ok ends = absurd (true≢false (sym ok))

-- where memory ran out for a judge, and nothing was written
pub judged-nothing : (text : List ℕ) (r : Result JudgedText FirstFault) (unwritten : Type 0) (taken now : Option (List ℕ)) (s : Status) (held : Option SessionState) → s ≡ NoMemory → held ≡ None → unwritten
    → JudgedEnds text r unwritten taken now s held
judged-nothing text r unwritten taken now s held e h is =
    subst (λ t. JudgedEnds text r unwritten taken now t held) (sym e) (subst (JudgedEnds text r unwritten taken now NoMemory) (sym h) (by r))
  where
    by : (r : Result JudgedText FirstFault) → JudgedEnds text r unwritten taken now NoMemory None
    by (Ok j) = is
    by (Err f) = is
