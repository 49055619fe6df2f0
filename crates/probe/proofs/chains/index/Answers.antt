use Rattle.std.proofs.Common.{arith}
use Rattle.probe.proofs.chains.index.Goals as goal

pub returns-else-chained-eq0-clause-indexed : goal.returns-else-chained-eq0-clause-indexed
returns-else-chained-eq0-clause-indexed g c = c.requires.kept (let n = c.len-chained.ensures in let some = c.if-chained-eq0.false in omega arith)
