use Rattle.std.proofs.Common.{◌≡◌, ◌<◌, ℕ, get_or, true, false, is_some}
use Rattle.map_defs.specs.NetMap.{host_of_vertex}
use Rattle.core_map.proofs.bridges.is_hostless.Given as goal

abbrev pub invariant-loop-v : goal.invariant-loop-v
invariant-loop-v l = (u : ℕ) → u < l.v → get_or l.marks u false ≡ true → is_some (host_of_vertex l.m u) ≡ false
