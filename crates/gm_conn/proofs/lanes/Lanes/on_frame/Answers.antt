use Rattle.world_defs.specs.Lane.{lane_after}
use Rattle.world_defs.specs.Hearing.{message_of, frame_lane}
use Rattle.gm_conn.proofs.Places.{changed-lanes, number-below, if-ok}
use Rattle.std.proofs.Common.{◌≡◌, subst}
use Rattle.std.specs.Prelude.{IfOk}
use Rattle.gm_defs.specs.Body.{is_last}
use Rattle.gm_defs.specs.Connection.{took}
use Rattle.gm_conn.proofs.Places.{lane-is}
use Rattle.gm_conn.proofs.Noted.{told-after, key-if-ok}
use Rattle.gm_conn.proofs.lanes.Lanes.on_frame.Goals as goal

pub returns-clause-ok : goal.returns-clause-ok
returns-clause-ok c =
    if-ok c.on_frame-took.result
    (λ t. changed-lanes c.args.self.now c.self.inside.host c.self.inside.hosts c.self.inside.lanes.items (frame_lane c.args.h.now) c.number-lane.result c.index_mut-at.result.now c.on_frame-took.new.self
    (λ p. lane_after p t (message_of c.args.h.now c.args.part.now))
    c.self.view_is c.self.invariant.lanes (number-below c.args.self.now c.self.inside.host c.self.inside.hosts c.self.inside.lanes.items c.args.h.now.src c.args.h.now.prio c.self.view_is c.self.invariant.lanes c.requires.peer)
    c.number-lane.ensures.number c.index_mut-at.ensures.value)
    c.on_frame-took.ensures.ok

pub invariant_of-self : goal.invariant_of-self
invariant_of-self c =
    told-after c.args.self.now c.self.inside.host c.self.inside.hosts c.self.inside.lanes.items c.number-lane.result c.index_mut-at.result.now c.on_frame-took.new.self c.self.inside.sets c.note.new.self
    c.self.view_is c.self.invariant c.number-lane.ensures.within c.index_mut-at.ensures.value (key-if-ok c.on_frame-took.result c.index_mut-at.result.now c.on_frame-took.new.self _ c.on_frame-took.ensures.ok c.on_frame-took.ensures.err) c.note.ensures

pub returns-clause-took : goal.returns-clause-took
returns-clause-took c =
    subst (λ p. IfOk c.on_frame-took.result (λ t. t ≡ took p.state.taken c.args.h.now.seq c.args.fits (is_last c.args.h.now.total c.args.h.now.offset)))
    (lane-is c.args.self.now c.self.inside.host c.self.inside.hosts c.self.inside.lanes.items (frame_lane c.args.h.now) c.number-lane.result c.index_mut-at.result.now c.self.view_is c.self.invariant.lanes
    (number-below c.args.self.now c.self.inside.host c.self.inside.hosts c.self.inside.lanes.items c.args.h.now.src c.args.h.now.prio c.self.view_is c.self.invariant.lanes c.requires.peer) c.number-lane.ensures.number c.index_mut-at.ensures.value)
    c.on_frame-took.ensures.took
