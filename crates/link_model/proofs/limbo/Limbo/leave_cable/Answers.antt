use Rattle.std.proofs.Common.{rules, ◌/◌, not, nat_eq, ap, ◌∙◌}
use Rattle.std.proofs.lemmas.Map.Made.{filter_same_pairs}
use Rattle.world_defs.specs.Fault.{without_cable}
use Rattle.link_model.proofs.limbo.Limbo.leave_cable.Goals as goal

pub returns : goal.returns
returns c =
    filter_same_pairs _ (λ e. not (nat_eq (e.1.channel / 2) c.args.k)) _ (λ k v b w f t. search rules) c.self.inside.kept.entries _ c.retain.ensures.filtered
    ∙ ap (without_cable c.args.k) c.self.view_is
