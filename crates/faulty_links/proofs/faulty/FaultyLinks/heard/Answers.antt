use Rattle.std.proofs.Common.{ap, ◌∙◌}
use Rattle.world_defs.specs.Step.{arrived}
use Rattle.faulty_links.proofs.faulty.FaultyLinks.heard.Goals as goal

pub returns : goal.returns
returns c = λ w n. ap (λ r. arrived r.1 c.args.host (c.args.arrival, n)) (c.lose.ensures w) ∙ c.tell.ensures w n
