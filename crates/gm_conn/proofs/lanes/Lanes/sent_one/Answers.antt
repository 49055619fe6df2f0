use Rattle.std.proofs.Common.{refl, ap}
use Rattle.world_defs.specs.Lane.{lane_sent_one}
use Rattle.gm_conn.proofs.Places.{changed-lanes}
use Rattle.gm_conn.proofs.Noted.{told-after}
use Rattle.gm_conn.proofs.lanes.Lanes.sent_one.Goals as goal

pub returns : goal.returns
returns c =
    changed-lanes c.args.self.now c.self.inside.host c.self.inside.hosts c.self.inside.lanes.items c.args.lane c.args.lane c.index_mut-at.result.now c.sent_one.new.self lane_sent_one
    c.self.view_is c.self.invariant.lanes c.requires.within refl c.index_mut-at.ensures.value c.sent_one.ensures

pub invariant_of-self : goal.invariant_of-self
invariant_of-self c =
    told-after c.args.self.now c.self.inside.host c.self.inside.hosts c.self.inside.lanes.items c.args.lane c.index_mut-at.result.now c.sent_one.new.self c.self.inside.sets c.note.new.self
    c.self.view_is c.self.invariant c.requires.within c.index_mut-at.ensures.value (ap (λ p. p.key) c.sent_one.ensures) c.note.ensures
