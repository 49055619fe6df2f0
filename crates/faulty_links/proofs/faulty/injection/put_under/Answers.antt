use Rattle.std.proofs.Common.{ap, ◌∙◌}
use Rattle.world_defs.specs.Fault.{lose}
use Rattle.faulty_links.proofs.Parts.{put_and_lost}
use Rattle.faulty_links.proofs.faulty.injection.put_under.Goals as goal

pub returns-in-Err-strike-clause-err : goal.returns-in-Err-strike-clause-err
returns-in-Err-strike-clause-err c =
    c.lose.ensures.links
    ∙ ap (λ s. (lose s c.args.c).1) (c.in-Err-strike.ensures.err ∙ c.put.ensures.links)
    ∙ put_and_lost c.args.links.now c.args.c c.args.p c.requires.empty
