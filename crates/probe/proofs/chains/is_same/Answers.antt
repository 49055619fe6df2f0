use Rattle.std.proofs.Common.{◌∙◌}
use Rattle.probe.proofs.Indexing.{turns-agree}
use Rattle.probe.proofs.chains.is_same.Goals as goal

pub returns : goal.returns
returns c = c.eq.ensures ∙ turns-agree c.args.walk.now c.args.other.now
