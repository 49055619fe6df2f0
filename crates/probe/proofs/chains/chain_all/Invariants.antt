use Rattle.std.proofs.Common.{◌≡◌, length, take, vec_capacity}
use Rattle.probe.specs.Chained.{IsChained}
use Rattle.probe.proofs.chains.chain_all.Given as goal

abbrev pub invariant-loop-at : goal.invariant-loop-at
invariant-loop-at g l = (length l.chains.latest.items ≡ length l.initial.chains.latest.items) × (vec_capacity l.chains.before ≡ vec_capacity l.initial.chains.before) × IsChained (take l.at (g.W.WalkList.list l.walks)) l.chains.latest.items l.chains.before.items
