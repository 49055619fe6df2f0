use Rattle.std.proofs.Common.{◌<◌, length, subst}
use Rattle.gm_conn.proofs.Forgotten.{forgotten-next}
use Rattle.gm_conn.proofs.lanes.Lanes.forget.Goals as goal

pub loop-lane-preserved : goal.loop-lane-preserved
loop-lane-preserved c =
    let low : c.loop-lane.lane < length c.args.self.now.lanes = subst (λ n. c.loop-lane.lane < n) c.count-lane-end.ensures c.loop-lane-test.true in
    forgotten-next c.args.self.now c.loop-lane.self c.forget_one.new.self c.loop-lane.lane low c.loop-lane.invariant c.forget_one.ensures
