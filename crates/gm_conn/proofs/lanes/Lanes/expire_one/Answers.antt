use Rattle.world_defs.specs.Lane.{lane_expired}
use Rattle.world_defs.specs.Node.{lane_of}
use Rattle.gm_conn.proofs.Places.{changed-lanes, number-below}
use Rattle.std.proofs.Common.{ap}
use Rattle.gm_conn.proofs.Noted.{told-after}
use Rattle.gm_conn.proofs.lanes.Lanes.expire_one.Goals as goal

pub returns : goal.returns
returns c =
    changed-lanes c.args.self.now c.self.inside.host c.self.inside.hosts c.self.inside.lanes.items (lane_of c.args.peer c.args.prio) c.number-lane.result c.index_mut-at.result.now c.expire.new.self lane_expired
    c.self.view_is c.self.invariant.lanes (number-below c.args.self.now c.self.inside.host c.self.inside.hosts c.self.inside.lanes.items c.args.peer c.args.prio c.self.view_is c.self.invariant.lanes c.requires)
    c.number-lane.ensures.number c.index_mut-at.ensures.value c.expire.ensures

pub invariant_of-self : goal.invariant_of-self
invariant_of-self c =
    told-after c.args.self.now c.self.inside.host c.self.inside.hosts c.self.inside.lanes.items c.number-lane.result c.index_mut-at.result.now c.expire.new.self c.self.inside.sets c.note.new.self
    c.self.view_is c.self.invariant c.number-lane.ensures.within c.index_mut-at.ensures.value (ap (λ p. p.key) c.expire.ensures) c.note.ensures
