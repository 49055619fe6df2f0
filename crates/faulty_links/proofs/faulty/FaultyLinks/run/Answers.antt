use Rattle.std.proofs.Common.{refl, subst}
use Rattle.faulty_links.specs.Held.{LinksAndPlan, part_of, IsRunOf}
use Rattle.faulty_links.proofs.faulty.FaultyLinks.run.Goals as goal

pub returns-clause-run : goal.returns-clause-run
returns-clause-run c =
    let after : LinksAndPlan = part_of c.run.new.self c.self.inside.plan c.self.inside.counts in
    subst (λ p. IsRunOf p c.args.c c.run.result.hops c.run.result.at after) c.self.view_is (c.run.ensures.run, refl)
