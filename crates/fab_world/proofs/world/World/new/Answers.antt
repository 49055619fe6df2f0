use Rattle.std.proofs.Common.{ap, sym, subst, ◌∙◌}
use Rattle.world_defs.specs.History.{fabric_at}
use Rattle.world_defs.proofs.First.{first_stands}
use Rattle.world_defs.specs.World.{WorldState, fabric_of, new_world}
use Rattle.fab_world.specs.Held.{IsMoment}
use Rattle.world_defs.specs.Acts.{IsReached}
use Rattle.world_defs.proofs.Reaching.{reached-new}
use Rattle.fab_world.proofs.Moments.{new-moment}
use Rattle.fab_world.proofs.world.World.new.Goals as goal

pub invariant_of-result : goal.invariant_of-result
invariant_of-result c = (
  subst IsMoment (sym c.in-Ok.ensures.new) (new-moment c.args.fabric c.in-Ok.ensures.fabric),
  sym (ap fabric_of c.in-Ok.ensures.new ∙ (first_stands c.args.fabric 0).0),
  subst (λ (w : WorldState). IsReached (fabric_at w.links.cables 0) w) (sym c.in-Ok.ensures.new)
      (subst (λ n. IsReached n (new_world c.args.fabric)) (sym (first_stands c.args.fabric 0).1) (reached-new c.args.fabric c.in-Ok.ensures.fabric)),
)

pub returns-in-Ok-clause-fabric : goal.returns-in-Ok-clause-fabric
returns-in-Ok-clause-fabric c = ap fabric_of c.in-Ok.ensures.new ∙ (first_stands c.args.fabric 0).0
