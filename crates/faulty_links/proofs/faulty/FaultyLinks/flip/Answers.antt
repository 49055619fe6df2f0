use Rattle.std.proofs.Common.{ap, ◌∙◌, sym, ◌≡◌, true, false}
use Rattle.world_defs.specs.declared.effect.Effect.TheVariants.{Flipped}
use Rattle.world_defs.specs.Step.{flipped}
use Rattle.faulty_links.specs.Held.{LinksAndPlan, part_of}
use Rattle.faulty_links.proofs.Parts.{told, so, flipped_part}
use Rattle.faulty_links.proofs.faulty.FaultyLinks.flip.Goals as goal

pub returns-then-not-branch-clause-ok : goal.returns-then-not-branch-clause-ok
returns-then-not-branch-clause-ok c =
    let p : LinksAndPlan = part_of c.self.inside.links c.self.inside.plan c.self.inside.counts in
    let missed : c.in_ok-flip.field-0 ≡ false = search c.if-not-branch.true in
    so (λ u. flipped u c.args.c c.args.bit c.args.pattern) c.args.self.now p _ _ _ c.flip.new.self c.self.view_is (ap (λ t. told t Flipped) (sym missed ∙ c.in_ok-flip.ensures.flipped)) c.in_ok-flip.ensures.links (λ w. flipped_part w p c.args.c c.args.bit c.args.pattern)

pub returns-clause-ok : goal.returns-clause-ok
returns-clause-ok c =
    let p : LinksAndPlan = part_of c.self.inside.links c.self.inside.plan c.self.inside.counts in
    let met : c.in_ok-flip.field-0 ≡ true = search c.if-not-branch.false in
    so (λ u. flipped u c.args.c c.args.bit c.args.pattern) c.args.self.now p _ _ _ c.flip.new.self c.self.view_is (ap (λ t. told t Flipped) (sym met ∙ c.in_ok-flip.ensures.flipped)) c.in_ok-flip.ensures.links (λ w. flipped_part w p c.args.c c.args.bit c.args.pattern)
