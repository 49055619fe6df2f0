use Rattle.std.proofs.Common.{◌<◌, arith}
use Rattle.probe.proofs.Chaining.{other-is, this-is}
use Rattle.probe.proofs.chains.is_other.Goals as goal

pub returns-then-place-ne0-clause-other : goal.returns-then-place-ne0-clause-other
returns-then-place-ne0-clause-other g c e =
    let some : 0 < c.args.place = (let n = c.if-place-ne0.true in omega arith) in
    other-is (g.W.WalkList.list c.args.walks.now) c.args.place c.args.turns.now c.turns_at.result.now c.is_same.result some c.turns_at.ensures c.is_same.ensures e

pub returns-then-place-ne0-clause-none_or_this : goal.returns-then-place-ne0-clause-none_or_this
returns-then-place-ne0-clause-none_or_this g c e at is =
    this-is (g.W.WalkList.list c.args.walks.now) c.args.place at c.args.turns.now c.turns_at.result.now c.is_same.result c.turns_at.ensures c.is_same.ensures e is
