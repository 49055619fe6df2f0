use Rattle.probe.proofs.FlatParts.{start-read}
use Rattle.probe.proofs.flat_walks.start_of.Goals as goal

pub returns-else-at-eq0 : goal.returns-else-at-eq0
returns-else-at-eq0 c = start-read 0 c.args.ends.now c.args.at c.if-at-eq0.false
