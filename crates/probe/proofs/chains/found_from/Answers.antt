use Rattle.std.proofs.Common.{◌≡◌, arith}
use Rattle.probe.proofs.Chaining.{next-in-chain}
use Rattle.probe.proofs.Indexing.{walk-missing}
use Rattle.probe.proofs.chains.found_from.Goals as goal

pub searching-smaller : goal.searching-smaller
searching-smaller g c =
    (next-in-chain (g.W.WalkList.list c.args.walks.now) c.args.chains.now.latest.items c.args.chains.now.before.items c.args.turns.now c.searching.next c.index-next.result.now
    c.requires.chained c.searching.invariant (c.is_other.ensures.other c.searching-test.true) c.index-next.ensures).1

pub searching-preserved : goal.searching-preserved
searching-preserved g c =
    (next-in-chain (g.W.WalkList.list c.args.walks.now) c.args.chains.now.latest.items c.args.chains.now.before.items c.args.turns.now c.searching.next c.index-next.result.now
    c.requires.chained c.searching.invariant (c.is_other.ensures.other c.searching-test.true) c.index-next.ensures).0

pub returns-clause-missing : goal.returns-clause-missing
returns-clause-missing g c e = walk-missing (g.W.WalkList.list c.args.walks.now) c.args.turns.now (λ at. c.searching.invariant.passed at (let none : c.searching.next ≡ 0 = e in omega arith))
