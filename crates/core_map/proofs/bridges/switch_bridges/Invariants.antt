use Rattle.std.proofs.Common.{◌≡◌}
use Rattle.std.specs.List.{filter}
use Rattle.journal_defs.specs.Counting.{numbers_below}
use Rattle.map_defs.specs.Core.{is_switch_bridge}
use Rattle.core_map.proofs.bridges.switch_bridges.Given as goal

abbrev pub invariant-loop-k : goal.invariant-loop-k
invariant-loop-k l = l.bridges.items ≡ filter (is_switch_bridge l.m) (numbers_below l.k)
