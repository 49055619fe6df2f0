use Rattle.std.proofs.Common.{ap, ◌∙◌, sym, ◌≡◌}
use Rattle.world_defs.specs.Fault.{pull}
use Rattle.world_defs.specs.declared.effect.Effect.TheVariants.{Said}
use Rattle.world_defs.specs.declared.effect.Said.TheVariants.{Done}
use Rattle.world_defs.specs.Step.{pulled}
use Rattle.faulty_links.specs.Held.{LinksAndPlan, part_of}
use Rattle.faulty_links.proofs.Parts.{told, so, pulled_part}
use Rattle.faulty_links.proofs.faulty.FaultyLinks.pull.Goals as goal
use Rattle.faulty_links.proofs.faulty.FaultyLinks.pull.Goals.{then-pull, else-pull}

pub returns : goal.returns
returns c =
    let p : LinksAndPlan = part_of c.self.inside.links c.self.inside.plan c.self.inside.counts in
    let effect : c.if-pull.result ≡ told (pull p.links c.args.e).0 (Said Done) =
    elim c.if-pull.branch [
      | then-pull w ↦ w.result-is ∙ ap (λ t. told t (Said Done)) (sym w.if-pull.true ∙ c.pull.ensures.pulled)
      | else-pull w ↦ w.result-is ∙ ap (λ t. told t (Said Done)) (sym w.if-pull.false ∙ c.pull.ensures.pulled)
    ] in
    so (λ u. pulled u c.args.e) c.args.self.now p _ _ _ c.pull.new.self c.self.view_is effect c.pull.ensures.links (λ w. pulled_part w p c.args.e)
