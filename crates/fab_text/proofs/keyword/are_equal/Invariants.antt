use Rattle.std.proofs.Common.{◌≡◌, take}
use Rattle.fab_text.proofs.keyword.are_equal.Given as goal

abbrev pub invariant-bytes : goal.invariant-bytes
invariant-bytes l = take l.i l.word ≡ take l.i l.keyword
