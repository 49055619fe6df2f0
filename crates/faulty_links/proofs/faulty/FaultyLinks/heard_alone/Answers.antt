use Rattle.std.proofs.Common.{ap, sym, ◌∙◌}
use Rattle.world_defs.specs.Step.{arrived}
use Rattle.faulty_links.specs.Held.{with_part}
use Rattle.faulty_links.proofs.faulty.FaultyLinks.heard_alone.Goals as goal

pub returns : goal.returns
returns c = λ w n. ap (λ p. arrived (with_part w p) c.args.host (c.args.arrival, n)) (sym c.count_injection.ensures) ∙ c.tell.ensures w n
