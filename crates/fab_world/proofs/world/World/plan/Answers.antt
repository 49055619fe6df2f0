use Rattle.std.proofs.Common.{sym, ◌∙◌}
use Rattle.world_defs.specs.World.{WorldState}
use Rattle.fab_world.proofs.Moments.{plan-later}
use Rattle.fab_world.proofs.Reaching.{plan-reached}
use Rattle.fab_world.proofs.world.World.plan.Goals as goal

pub invariant_of-self : goal.invariant_of-self
invariant_of-self c =
    let w : WorldState = c.self.inside.machine in
    let next = plan-later w c.plan.new.self c.args.ahead c.args.fault c.plan.result c.pattern_is_a_byte.ensures c.self.invariant.0 c.plan.ensures.ok c.plan.ensures.err in (
      next.0,
      c.self.invariant.1 ∙ sym next.1,
      plan-reached w c.plan.new.self c.args.ahead c.args.fault c.plan.result c.requires c.pattern_is_a_byte.ensures c.self.invariant.2 c.plan.ensures.ok c.plan.ensures.err,
    )
