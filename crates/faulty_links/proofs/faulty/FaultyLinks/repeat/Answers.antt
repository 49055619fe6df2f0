use Rattle.std.proofs.Common.{ap, ◌∙◌, sym, ◌≡◌, None}
use Rattle.world_defs.specs.declared.effect.Effect.TheVariants.{Repeated}
use Rattle.world_defs.specs.Step.{repeated}
use Rattle.faulty_links.specs.Held.{LinksAndPlan, part_of}
use Rattle.faulty_links.proofs.Parts.{told_serial, so, repeated_part}
use Rattle.faulty_links.proofs.faulty.FaultyLinks.repeat.Goals as goal

pub returns-in_default-clause-ok : goal.returns-in_default-clause-ok
returns-in_default-clause-ok c =
    let p : LinksAndPlan = part_of c.self.inside.links c.self.inside.plan c.self.inside.counts in
    let none : c.in_ok-serial.field-0 ≡ None = c.in_default.is in
    so (λ u. repeated u c.args.c) c.args.self.now p _ _ _ c.repeat.new.self c.self.view_is (ap (told_serial Repeated) (sym none ∙ c.in_ok-serial.ensures.serial)) c.in_ok-serial.ensures.links (λ w. repeated_part w p c.args.c)

pub returns-clause-ok : goal.returns-clause-ok
returns-clause-ok c =
    let p : LinksAndPlan = part_of c.self.inside.links c.self.inside.plan c.self.inside.counts in
    so (λ u. repeated u c.args.c) c.args.self.now p _ _ _ c.repeat.new.self c.self.view_is (ap (told_serial Repeated) (sym c.in-Some.is ∙ c.in_ok-serial.ensures.serial)) c.in_ok-serial.ensures.links (λ w. repeated_part w p c.args.c)
