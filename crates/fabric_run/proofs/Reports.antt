-- Every accepted text whose report says enough is judged yes with it.
use Rattle.std.proofs.Common.{◌≡◌, ℕ, true, List, drop, Result, Ok, Err, refl, subst}
use Rattle.std.specs.List.{AllByRecursion}
use Rattle.fab_text.specs.Fault.{FirstFault, and_then}
use Rattle.fabric_file.specs.declared.reading.FabricText.{FabricText}
use Rattle.fabric_file.specs.Reading.{fabric_reading}
use Rattle.run_defs.specs.declared.command.Command.{Command}
use Rattle.run_defs.specs.Script.{script_reading}
use Rattle.judge_laws.specs.Commands.{is_judged, PlansNoPull}
use Rattle.judge_laws.proofs.TextReports.{texts_are_judged_yes}
use Rattle.input_texts.specs.Reading.{AcceptedText, reading_from, reading}
use Rattle.fabric_run.specs.Judged.{IsJudgeable, IsJudgedWithReport}

-- what the law says of what a text says
abbrev IsYes : List ℕ → AcceptedText → Type 0
IsYes text a = AllByRecursion (λ c. is_judged c ≡ true) a.commands → AllByRecursion PlansNoPull a.commands → IsJudgedWithReport text a

pub text_judged : (text : List ℕ) (a : AcceptedText) → reading text ≡ Ok a → IsJudgeable text a → IsJudgedWithReport text a
text_judged text a e can = by (fabric_reading text) refl e can.known can.unpulled
  where
    of : (t : FabricText) → fabric_reading text ≡ Ok t → (r : Result (List Command) FirstFault) → script_reading t.fabric t.line (drop t.next text) ≡ r
        → and_then r (λ cs. Ok (record { network = t.fabric; commands = cs })) ≡ Ok a → IsYes text a
    of t f (Ok cs) g e =
        let same : record { network = t.fabric; commands = cs } ≡ a = cc in
        subst (IsYes text) same (λ known unpulled out last run. texts_are_judged_yes text can.bytes t cs out last can.ended f g known unpulled run)
    of t f (Err k) g e = cc

    by : (r : Result FabricText FirstFault) → fabric_reading text ≡ r → and_then r (reading_from text) ≡ Ok a → IsYes text a
    by (Ok t) f e = of t f (script_reading t.fabric t.line (drop t.next text)) refl e
    by (Err k) f e = cc
