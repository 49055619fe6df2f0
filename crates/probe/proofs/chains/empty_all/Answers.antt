use Rattle.std.proofs.Common.{rules}
use Rattle.probe.proofs.chains.empty_all.Goals as goal

pub returns-clause-latest : goal.returns-clause-latest
returns-clause-latest c = c.fill.ensures.items (λ y k. search rules)
