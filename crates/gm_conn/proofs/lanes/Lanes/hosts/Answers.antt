use Rattle.gm_conn.proofs.Places.{counted-is}
use Rattle.gm_conn.proofs.lanes.Lanes.hosts.Goals as goal

pub returns-clause-lanes : goal.returns-clause-lanes
returns-clause-lanes c = counted-is c.args.self.now c.self.inside.host c.self.inside.hosts c.self.inside.lanes.items c.self.view_is c.self.invariant.lanes
