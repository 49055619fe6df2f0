use Rattle.std.proofs.Common.{refl}
use Rattle.gm_conn.proofs.Places.{lane-is}
use Rattle.gm_conn.proofs.lanes.Lanes.at.Goals as goal

pub returns : goal.returns
returns c =
    lane-is c.args.self.now c.self.inside.host c.self.inside.hosts c.self.inside.lanes.items c.args.lane c.args.lane c.index.result.now c.self.view_is c.self.invariant.lanes c.requires refl c.index.ensures
