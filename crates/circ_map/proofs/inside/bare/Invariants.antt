use Rattle.std.proofs.Common.{◌≡◌, take}
use Rattle.circ_map.specs.Inside.{bare}
use Rattle.circ_map.proofs.inside.bare.Given as goal

abbrev pub invariant-loop-v : goal.invariant-loop-v
invariant-loop-v l = l.map ≡ bare l.m (take l.v-index l.kept)
