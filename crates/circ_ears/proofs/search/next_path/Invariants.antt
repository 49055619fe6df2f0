use Rattle.std.proofs.Common.{◌<◌, ℕ}
use Rattle.circ_ears.specs.Search.{HasNoPathOver}
use Rattle.circ_ears.proofs.search.next_path.Given as goal

abbrev pub invariant-loop-k : goal.invariant-loop-k
invariant-loop-k l = (i : ℕ) → i < l.k → HasNoPathOver l.f l.old i
