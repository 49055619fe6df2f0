-- the order of walks
use Rattle.journal_defs.proofs.Order.{strict_order}
use Rattle.journal_defs.proofs.laws.walks_are_ordered.Goals as goal

pub returns : goal.returns
returns c = strict_order
