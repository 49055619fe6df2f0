use Rattle.std.proofs.Common.{List, drop}
use Rattle.std.specs.Prelude.{pos}
use Rattle.map_defs.specs.declared.rank.RankEntry.{RankEntry}
use Rattle.map_defs.specs.NetMap.{NetMap}
use Rattle.rank_cert.specs.Crossing.{AreCrossings, IsCrossing}
use Rattle.rank_cert.proofs.Crossed.{IsRisen}
use Rattle.rank_cert.proofs.rising.crossed_from.Given as goal

abbrev pub invariant-loop-turn : goal.invariant-loop-turn
invariant-loop-turn l = (m : NetMap) (ks : List RankEntry) → AreCrossings m ks l.table → IsCrossing m ks (record { v = l.v; p = pos 0 }) l.fn.first → IsRisen m ks (record { v = l.v; p = pos 0 }) l.turns (drop l.turn-index l.turns) l.last
