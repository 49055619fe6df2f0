use Rattle.std.proofs.Common.{ap, ◌∙◌, sym, ◌≡◌, true, false}
use Rattle.world_defs.specs.declared.effect.Effect.TheVariants.{Said}
use Rattle.world_defs.specs.declared.effect.Said.TheVariants.{Done}
use Rattle.world_defs.specs.Step.{plugged}
use Rattle.faulty_links.specs.Held.{LinksAndPlan, part_of}
use Rattle.faulty_links.proofs.Parts.{told, so, plugged_part}
use Rattle.faulty_links.proofs.faulty.FaultyLinks.plug.Goals as goal

pub returns-then-not-branch-clause-ok : goal.returns-then-not-branch-clause-ok
returns-then-not-branch-clause-ok c =
    let p : LinksAndPlan = part_of c.self.inside.links c.self.inside.plan c.self.inside.counts in
    let refused : c.in_ok-plug.field-0 ≡ false = search c.if-not-branch.true in
    so (λ u. plugged u c.args.a c.args.b) c.args.self.now p _ _ _ c.plug.new.self c.self.view_is (ap (λ t. told t (Said Done)) (sym refused ∙ c.in_ok-plug.ensures.plugged)) c.in_ok-plug.ensures.links (λ w. plugged_part w p c.args.a c.args.b)

pub returns-clause-ok : goal.returns-clause-ok
returns-clause-ok c =
    let p : LinksAndPlan = part_of c.self.inside.links c.self.inside.plan c.self.inside.counts in
    let joined : c.in_ok-plug.field-0 ≡ true = search c.if-not-branch.false in
    so (λ u. plugged u c.args.a c.args.b) c.args.self.now p _ _ _ c.plug.new.self c.self.view_is (ap (λ t. told t (Said Done)) (sym joined ∙ c.in_ok-plug.ensures.plugged)) c.in_ok-plug.ensures.links (λ w. plugged_part w p c.args.a c.args.b)
