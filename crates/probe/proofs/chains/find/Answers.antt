use Rattle.std.proofs.Common.{◌≡◌, ◌+◌, ◌-◌, sym, arith}
use Rattle.probe.proofs.Chaining.{hash-start}
use Rattle.probe.proofs.Indexing.{walk-there}
use Rattle.probe.proofs.chains.find.Goals as goal

pub found_from-next-requires-clause-in_chain : goal.found_from-next-requires-clause-in_chain
found_from-next-requires-clause-in_chain g c =
    hash-start (g.W.WalkList.list c.args.walks.now) c.args.chains.now.latest.items c.args.chains.now.before.items c.args.turns.now c.args.hash c.len-buckets.result c.index-latest.result.now c.requires.chained c.requires.hash (let n = c.len-buckets.ensures in omega arith) (let n = c.if-buckets-eq0.false in omega arith) c.index-latest.ensures

pub returns-else-next-eq0-clause-found : goal.returns-else-next-eq0-clause-found
returns-else-next-eq0-clause-found g c =
    let next = c.found_from-next.result in
    let one : next ≡ (next - 1) + 1 = (let n = c.if-next-eq0.false in omega arith) in
    sym (walk-there (g.W.WalkList.list c.args.walks.now) (next - 1) c.args.turns.now (c.found_from-next.ensures.found (next - 1) one))
