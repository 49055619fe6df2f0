use Rattle.std.proofs.Common.{sym, subst, ap, ◌∙◌, ◌++◌, ◌∷◌, [], ◌<◌}
use Rattle.std.specs.List.{AllByRecursion}
use Rattle.world_defs.proofs.InOrder.{insert-last}
use Rattle.link_model.proofs.limbo.Limbo.push.Goals as goal

pub returns-in-Ok-clause-ok : goal.returns-in-Ok-clause-ok
returns-in-Ok-clause-ok c =
    c.in-Ok.ensures.entries
    ∙ insert-last c.self.inside.kept.entries c.args.serial (record { channel = c.args.channel; held = c.args.slot }) (subst (AllByRecursion (λ e. e.0 < c.args.serial)) (sym c.self.view_is) c.requires)
    ∙ ap (λ l. l ++ (c.args.serial, record { channel = c.args.channel; held = c.args.slot }) ∷ []) c.self.view_is
