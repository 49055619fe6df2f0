use Rattle.std.proofs.Common.{ap, ◌∙◌}
use Rattle.std.specs.Prelude.{is_some}
use Rattle.fab_judge.proofs.Below.{found-any}
use Rattle.fab_judge.proofs.hosts.has_host.Goals as goal

pub returns : goal.returns
returns c = c.is_some.ensures ∙ ap is_some c.vertex_of_host.ensures.vertex ∙ found-any c.args.map.now c.args.h
