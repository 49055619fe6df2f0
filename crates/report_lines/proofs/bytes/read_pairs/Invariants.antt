use Rattle.std.proofs.Common.{◌≡◌, length}
use Rattle.line_table.specs.Said.{pairs_said}
use Rattle.report_lines.proofs.Pairs.{after_bytes}
use Rattle.report_lines.proofs.bytes.read_pairs.Given as goal

abbrev pub invariant-pairs : goal.invariant-pairs
invariant-pairs l = pairs_said l.word ≡ after_bytes l.bytes.items (pairs_said l.left)

abbrev pub decreases-pairs : goal.decreases-pairs
decreases-pairs l = length l.left
