use Rattle.std.proofs.Common.{refl, ap}
use Rattle.world_defs.specs.Lane.{new_lane}
use Rattle.gm_conn.proofs.Places.{changed-lanes}
use Rattle.gm_conn.proofs.Noted.{told-after}
use Rattle.gm_conn.proofs.lanes.Lanes.forget_one.Goals as goal

pub invariant_of-self : goal.invariant_of-self
invariant_of-self c =
    told-after c.args.self.now c.self.inside.host c.self.inside.hosts c.self.inside.lanes.items c.args.lane c.index_mut-at.result.now c.forget.new.self c.self.inside.sets c.note.new.self
    c.self.view_is c.self.invariant c.requires c.index_mut-at.ensures.value (ap (λ p. p.key) c.forget.ensures.unused) c.note.ensures

pub returns-then-forget : goal.returns-then-forget
returns-then-forget c =
    changed-lanes c.args.self.now c.self.inside.host c.self.inside.hosts c.self.inside.lanes.items c.args.lane c.args.lane c.index_mut-at.result.now c.forget.new.self (λ s. new_lane)
    c.self.view_is c.self.invariant.lanes c.requires refl c.index_mut-at.ensures.value c.forget.ensures.unused

pub returns-else-forget : goal.returns-else-forget
returns-else-forget c =
    changed-lanes c.args.self.now c.self.inside.host c.self.inside.hosts c.self.inside.lanes.items c.args.lane c.args.lane c.index_mut-at.result.now c.forget.new.self (λ s. new_lane)
    c.self.view_is c.self.invariant.lanes c.requires refl c.index_mut-at.ensures.value c.forget.ensures.unused
