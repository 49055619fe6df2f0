use Rattle.std.proofs.Common.{◌≡◌, drop}
use Rattle.map_defs.specs.Ranks.{rank_of}
use Rattle.rank_cert.proofs.ranks.found_one_by_one.Given as goal

abbrev pub invariant-loop-entry : goal.invariant-loop-entry
invariant-loop-entry l = rank_of (drop l.entry-index l.entries) (record { v = l.v; p = l.p }) ≡ rank_of l.entries (record { v = l.v; p = l.p })
