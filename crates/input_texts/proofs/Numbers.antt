-- Numbers as they are printed, read as words of a script.
use Rattle.std.proofs.Common.{◌≡◌, ◌≤◌, ◌<◌, ℕ, ◌^◌, false, nat_lt, Ok, Err, ◌∙◌, arith, if◌then◌else◌}
use Rattle.std.specs.Prelude.{decimal}
use Rattle.std.proofs.lemmas.Bool.Decides.{nat_tests}
use Rattle.fab_text.specs.declared.fault.FaultKind.TheVariants.{TooLarge}
use Rattle.fab_text.specs.Fault.{as_kind, and_then}
use Rattle.run_defs.specs.Script.{OfNumber, Number, from_least, value_of}
use Rattle.fabric_file.proofs.PlainWords.{number-read}

-- a printed number is read as what it is, at a place whose range has it
pub number-value : (least most p : ℕ) → least ≤ p → p ≤ most → p < 2 ^ 64 → value_of (OfNumber least most) (decimal p) ≡ Ok (Number p)
number-value least most p low high h =
    let read = number-read most p high h in
    let above : nat_lt p least ≡ false = grind (arith, nat_tests) in
    (λ i. and_then (as_kind (read i)) (from_least least)) ∙ (λ i. if above i then Err TooLarge else Ok (Number p))
