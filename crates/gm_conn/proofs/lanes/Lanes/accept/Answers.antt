use Rattle.world_defs.specs.Lane.{with_message}
use Rattle.world_defs.specs.Node.{lane_of}
use Rattle.gm_conn.specs.Lane.{message_in}
use Rattle.gm_conn.proofs.Places.{changed-lanes, number-below, of-prio, on-ok}
use Rattle.std.proofs.Common.{take, subst}
use Rattle.net_defs.specs.Refusal.{Refuses}
use Rattle.gm_conn.specs.declared.refusal.OfferRefusal.TheVariants.{NoMemory}
use Rattle.gm_conn.specs.Lane.{accept_refusal}
use Rattle.gm_conn.proofs.Places.{lane-is}
use Rattle.gm_conn.proofs.Noted.{told-after, key-ok}
use Rattle.gm_conn.proofs.lanes.Lanes.accept.Goals as goal

pub accept-accepted-requires-clause-lane : goal.accept-accepted-requires-clause-lane
accept-accepted-requires-clause-lane c =
    of-prio c.args.self.now c.self.inside.host c.self.inside.hosts c.self.inside.lanes.items c.args.peer c.args.e.prio c.number-lane.result c.index_mut-at.result.now
    c.self.view_is c.self.invariant.lanes c.requires.peer c.requires.prio c.number-lane.ensures.number c.index_mut-at.ensures.value

pub returns-clause-ok : goal.returns-clause-ok
returns-clause-ok c =
    on-ok c.accept-accepted.result
    (changed-lanes c.args.self.now c.self.inside.host c.self.inside.hosts c.self.inside.lanes.items (lane_of c.args.peer c.args.e.prio) c.number-lane.result c.index_mut-at.result.now c.accept-accepted.new.self
    (λ p. with_message p (message_in c.args.e (take c.args.len c.args.b.now)) (record { port = c.args.e.sport; token = c.args.token }))
    c.self.view_is c.self.invariant.lanes (number-below c.args.self.now c.self.inside.host c.self.inside.hosts c.self.inside.lanes.items c.args.peer c.args.e.prio c.self.view_is c.self.invariant.lanes c.requires.peer)
    c.number-lane.ensures.number c.index_mut-at.ensures.value)
    c.accept-accepted.ensures.ok

pub invariant_of-self : goal.invariant_of-self
invariant_of-self c =
    told-after c.args.self.now c.self.inside.host c.self.inside.hosts c.self.inside.lanes.items c.number-lane.result c.index_mut-at.result.now c.accept-accepted.new.self c.self.inside.sets c.note.new.self
    c.self.view_is c.self.invariant c.number-lane.ensures.within c.index_mut-at.ensures.value (key-ok c.accept-accepted.result c.index_mut-at.result.now c.accept-accepted.new.self _ c.accept-accepted.ensures.ok c.accept-accepted.ensures.err) c.note.ensures

pub returns-clause-refused : goal.returns-clause-refused
returns-clause-refused c =
    subst (λ p. Refuses (accept_refusal p.state c.args.len) NoMemory c.accept-accepted.result)
    (lane-is c.args.self.now c.self.inside.host c.self.inside.hosts c.self.inside.lanes.items (lane_of c.args.peer c.args.e.prio) c.number-lane.result c.index_mut-at.result.now c.self.view_is c.self.invariant.lanes
    (number-below c.args.self.now c.self.inside.host c.self.inside.hosts c.self.inside.lanes.items c.args.peer c.args.e.prio c.self.view_is c.self.invariant.lanes c.requires.peer) c.number-lane.ensures.number c.index_mut-at.ensures.value)
    c.accept-accepted.ensures.refused
