use Rattle.std.proofs.Common.{ap, ◌∙◌, sym, ◌≡◌}
use Rattle.world_defs.specs.Fault.{reset}
use Rattle.world_defs.specs.declared.effect.Effect.TheVariants.{Reset}
use Rattle.world_defs.specs.Step.{was_reset}
use Rattle.faulty_links.specs.Held.{LinksAndPlan, part_of}
use Rattle.faulty_links.proofs.Parts.{told, so, reset_part}
use Rattle.faulty_links.proofs.faulty.FaultyLinks.reset.Goals as goal
use Rattle.faulty_links.proofs.faulty.FaultyLinks.reset.Goals.{then-reset, else-reset}

pub returns : goal.returns
returns c =
    let p : LinksAndPlan = part_of c.self.inside.links c.self.inside.plan c.self.inside.counts in
    let effect : c.if-reset.result ≡ told (reset p.links c.args.c).0 Reset =
    elim c.if-reset.branch [
      | then-reset w ↦ w.result-is ∙ ap (λ t. told t Reset) (sym w.if-reset.true ∙ c.reset.ensures.reset)
      | else-reset w ↦ w.result-is ∙ ap (λ t. told t Reset) (sym w.if-reset.false ∙ c.reset.ensures.reset)
    ] in
    so (λ u. was_reset u c.args.c) c.args.self.now p _ _ _ c.reset.new.self c.self.view_is effect c.reset.ensures.links (λ w. reset_part w p c.args.c)
