-- The bytes from this place on count up exactly where all do.
use Rattle.std.proofs.Common.{◌≡◌, ◌+◌, drop}
use Rattle.port_ledgers.specs.Bytes.{counts_up}
use Rattle.port_ledgers.proofs.bytes.counts_up.Given as goal

abbrev pub invariant-loop-i : goal.invariant-loop-i
invariant-loop-i l = counts_up (l.first + l.i) (drop l.i l.bytes) ≡ counts_up l.first l.bytes
