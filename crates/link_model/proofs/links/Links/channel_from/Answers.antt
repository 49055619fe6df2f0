use Rattle.std.proofs.Common.{ap, ◌∙◌, sym, subst, ◌<◌, length}
use Rattle.std.specs.Option.{IfSome}
use Rattle.world_defs.specs.Crossed.{leaving}
use Rattle.world_defs.specs.Shape.{IsLinks}
use Rattle.link_model.proofs.Stepping.{from-below}
use Rattle.link_model.proofs.links.Links.channel_from.Goals as goal

pub returns-clause-there : goal.returns-clause-there
returns-clause-there c =
    subst (λ o. IfSome o (λ x. x < length c.args.self.now.channels)) (sym (c.channel_from.ensures.channel ∙ ap (λ s. leaving s.cables c.args.e) c.self.view_is)) (from-below c.args.self.now c.args.e (subst IsLinks c.self.view_is c.self.invariant))
