use Rattle.std.proofs.Common.{◌≡◌, ◌<◌, ◌≤◌, ℕ, Some}
use Rattle.map_defs.specs.NetMap.{host_of_vertex}
use Rattle.route_calc.proofs.pairs.greatest_address.Given as goal

abbrev pub invariant-loop-v : goal.invariant-loop-v
invariant-loop-v l = (v h : ℕ) → v < l.v-index → host_of_vertex l.fn.m v ≡ Some h → h ≤ l.greatest
