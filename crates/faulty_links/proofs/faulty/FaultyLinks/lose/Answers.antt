use Rattle.std.proofs.Common.{ap, ◌∙◌, sym, ◌≡◌}
use Rattle.world_defs.specs.Fault.{lose}
use Rattle.world_defs.specs.declared.effect.Effect.TheVariants.{Lost}
use Rattle.world_defs.specs.Step.{lost}
use Rattle.faulty_links.specs.Held.{LinksAndPlan, part_of}
use Rattle.faulty_links.proofs.Parts.{told, so, lost_part}
use Rattle.faulty_links.proofs.faulty.FaultyLinks.lose.Goals as goal
use Rattle.faulty_links.proofs.faulty.FaultyLinks.lose.Goals.{then-lose, else-lose}

pub returns : goal.returns
returns c =
    let p : LinksAndPlan = part_of c.self.inside.links c.self.inside.plan c.self.inside.counts in
    let effect : c.if-lose.result ≡ told (lose p.links c.args.c).0 Lost =
    elim c.if-lose.branch [
      | then-lose w ↦ w.result-is ∙ ap (λ t. told t Lost) (sym w.if-lose.true ∙ c.lose.ensures.lost)
      | else-lose w ↦ w.result-is ∙ ap (λ t. told t Lost) (sym w.if-lose.false ∙ c.lose.ensures.lost)
    ] in
    so (λ u. lost u c.args.c) c.args.self.now p _ _ _ c.lose.new.self c.self.view_is effect c.lose.ensures.links (λ w. lost_part w p c.args.c)
