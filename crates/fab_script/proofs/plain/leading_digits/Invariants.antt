use Rattle.std.proofs.Common.{◌≡◌, ◌≤◌, ◌-◌, true, length, take}
use Rattle.std.specs.List.{list_all}
use Rattle.std.specs.Str.Parse.{digits_value}
use Rattle.fab_text.specs.Word.{is_digit}
use Rattle.fab_script.proofs.plain.leading_digits.Given as goal

abbrev pub invariant-digits : goal.invariant-digits
invariant-digits l = record {
  within : l.count ≤ length l.bytes;
  digits : list_all is_digit (take l.count l.bytes) ≡ true;
  value : l.value ≡ digits_value 10 (take l.count l.bytes);
  small : l.value ≤ 999999999;
}

abbrev pub decreases-digits : goal.decreases-digits
decreases-digits l = length l.bytes - l.count
