use Rattle.std.proofs.Common.{◌∙◌, ap}
use Rattle.world_defs.specs.Node.{lane_count}
use Rattle.gm_conn.proofs.Places.{counted-is}
use Rattle.gm_conn.proofs.Noted.{numbered-all}
use Rattle.gm_conn.proofs.lanes.Lanes.in_order.Goals as goal

pub returns-clause-numbers : goal.returns-clause-numbers
returns-clause-numbers c = numbered-all c.args.self.now c.self.inside.host c.self.inside.hosts c.self.inside.lanes.items c.self.view_is c.self.invariant.numbered

pub returns-clause-count : goal.returns-clause-count
returns-clause-count c =
    counted-is c.args.self.now c.self.inside.host c.self.inside.hosts c.self.inside.lanes.items c.self.view_is c.self.invariant.lanes ∙ ap (λ h. lane_count h.hosts) c.self.view_is
