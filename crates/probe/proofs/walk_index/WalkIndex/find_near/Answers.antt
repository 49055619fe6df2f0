use Rattle.std.proofs.Common.{sym}
use Rattle.probe.proofs.Indexing.{walk-there}
use Rattle.probe.proofs.walk_index.WalkIndex.find_near.Goals as goal

pub returns-then-is_at-clause-found : goal.returns-then-is_at-clause-found
returns-then-is_at-clause-found c = sym (walk-there c.args.self.now c.args.likely c.args.turns.now (c.is_at.ensures c.if-is_at.true))
