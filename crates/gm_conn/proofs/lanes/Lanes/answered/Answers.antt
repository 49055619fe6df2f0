use Rattle.std.proofs.Common.{refl, ap}
use Rattle.world_defs.specs.Lane.{lane_answered}
use Rattle.gm_conn.proofs.Places.{changed-lanes}
use Rattle.gm_conn.proofs.Noted.{told-after}
use Rattle.gm_conn.proofs.lanes.Lanes.answered.Goals as goal

pub returns : goal.returns
returns c =
    changed-lanes c.args.self.now c.self.inside.host c.self.inside.hosts c.self.inside.lanes.items c.args.lane c.args.lane c.index_mut-at.result.now c.answered.new.self lane_answered
    c.self.view_is c.self.invariant.lanes c.requires refl c.index_mut-at.ensures.value c.answered.ensures

pub invariant_of-self : goal.invariant_of-self
invariant_of-self c =
    told-after c.args.self.now c.self.inside.host c.self.inside.hosts c.self.inside.lanes.items c.args.lane c.index_mut-at.result.now c.answered.new.self c.self.inside.sets c.note.new.self
    c.self.view_is c.self.invariant c.requires c.index_mut-at.ensures.value (ap (λ p. p.key) c.answered.ensures) c.note.ensures
