use Rattle.std.proofs.Common.{◌≡◌, true, get_or, arith}
use Rattle.std.proofs.lemmas.Bool.Decides.{nat_tests}
use Rattle.fab_text.specs.Word.{is_digit}
use Rattle.fab_script.proofs.Numbers.{digits-more}
use Rattle.fab_script.proofs.plain.leading_digits.Goals as goal

pub digits-preserved : goal.digits-preserved
digits-preserved c =
    let digit : is_digit (get_or c.args.bytes.now c.digits.count 0) ≡ true = cc in
    let more = digits-more c.args.bytes.now c.digits.count c.digits.value (omega arith) c.digits.invariant.digits digit c.digits.invariant.value in
    record { within = omega arith; digits = more.0; value = omega (arith, more.1); small = grind (arith, nat_tests, digit) }
