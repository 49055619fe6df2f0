use Rattle.world_defs.specs.Lane.{lane_acknowledged}
use Rattle.world_defs.specs.Hearing.{ack_lane}
use Rattle.gm_conn.proofs.Places.{changed-lanes, number-below}
use Rattle.std.proofs.Common.{ap}
use Rattle.gm_conn.proofs.Noted.{told-after}
use Rattle.gm_conn.proofs.lanes.Lanes.on_ack.Goals as goal

pub returns : goal.returns
returns c =
    changed-lanes c.args.self.now c.self.inside.host c.self.inside.hosts c.self.inside.lanes.items (ack_lane c.args.a.now) c.number-lane.result c.index_mut-at.result.now c.on_ack.new.self (λ p. lane_acknowledged p c.args.a.now.next)
    c.self.view_is c.self.invariant.lanes (number-below c.args.self.now c.self.inside.host c.self.inside.hosts c.self.inside.lanes.items c.args.a.now.src c.args.a.now.prio c.self.view_is c.self.invariant.lanes c.requires)
    c.number-lane.ensures.number c.index_mut-at.ensures.value c.on_ack.ensures

pub invariant_of-self : goal.invariant_of-self
invariant_of-self c =
    told-after c.args.self.now c.self.inside.host c.self.inside.hosts c.self.inside.lanes.items c.number-lane.result c.index_mut-at.result.now c.on_ack.new.self c.self.inside.sets c.note.new.self
    c.self.view_is c.self.invariant c.number-lane.ensures.within c.index_mut-at.ensures.value (ap (λ p. p.key) c.on_ack.ensures) c.note.ensures
