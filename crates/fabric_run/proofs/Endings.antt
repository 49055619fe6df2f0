-- How a run ends, from how its parts end.
use Rattle.std.proofs.Common.{◌≡◌, ℕ, List, Option, Result, sym, subst}
use Rattle.fab_text.specs.Fault.{FirstFault}
use Rattle.run_defs.specs.Session.{SessionState}
use Rattle.fabric_run.specs.declared.status.Status.{Status}
use Rattle.input_texts.specs.Reading.{AcceptedText}
use Rattle.fabric_run.specs.Ends.{SaidEnds}

-- the work on what a text says ended so, by the answer's two parts
pub said-so : (r : Result AcceptedText FirstFault) (unwritten : Type 0) (taken now : Option (List ℕ)) (s t : Status) (held back : Option SessionState) → t ≡ s → back ≡ held
    → SaidEnds r unwritten taken now s held → SaidEnds r unwritten taken now t back
said-so r unwritten taken now s t held back e h k = subst (λ x. SaidEnds r unwritten taken now x back) (sym e) (subst (SaidEnds r unwritten taken now s) (sym h) k)
