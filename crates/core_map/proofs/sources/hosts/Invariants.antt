use Rattle.std.proofs.Common.{◌≡◌, map}
use Rattle.journal_defs.specs.Counting.{numbers_below}
use Rattle.core_map.specs.Walking.{host_number}
use Rattle.core_map.proofs.sources.hosts.Given as goal

abbrev pub invariant-loop-v : goal.invariant-loop-v
invariant-loop-v l = l.numbers.items ≡ map (host_number l.m) (numbers_below l.v)
