use Rattle.std.proofs.Common.{◌<◌, length, sym, subst}
use Rattle.gm_conn.proofs.Places.{number-below}
use Rattle.gm_conn.proofs.lanes.Lanes.number.Goals as goal

pub returns-clause-within : goal.returns-clause-within
returns-clause-within c =
    subst (λ k. k < length c.args.self.now.lanes) (sym c.lane_of.ensures)
    (number-below c.args.self.now c.self.inside.host c.self.inside.hosts c.self.inside.lanes.items c.args.peer c.args.prio c.self.view_is c.self.invariant.lanes c.requires)
