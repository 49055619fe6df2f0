use Rattle.std.proofs.Common.{length, ap, arith}
use Rattle.probe.proofs.FlatParts.{count-walks}
use Rattle.probe.proofs.flat_walks.FlatWalksWalkList.count.Goals as goal

pub returns : goal.returns
returns c =
    let seen = ap length c.self.view_is in
    let all = count-walks c.self.inside.turns.items 0 c.self.inside.ends.items in
    let n = c.len.ensures in omega arith
