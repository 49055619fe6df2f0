use Rattle.std.proofs.Common.{◌∙◌, sym}
use Rattle.gm_conn.proofs.Places.{counted-is}
use Rattle.gm_conn.proofs.lanes.Lanes.count.Goals as goal

pub returns : goal.returns
returns c =
    c.lane_count.ensures.number
    ∙ sym (counted-is c.args.self.now c.self.inside.host c.self.inside.hosts c.self.inside.lanes.items c.self.view_is c.self.invariant.lanes)
