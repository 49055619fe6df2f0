use Rattle.std.proofs.Common.{subst}
use Rattle.std.specs.Prelude.{OnOk}
use Rattle.replicate_merge.specs.Next.{StandsForNext}
use Rattle.replicate_merge.specs.Table.{ClassTable}
use Rattle.replicate_merge.proofs.classes.Classes.push_at.Goals as goal

pub returns-clause-pushed : goal.returns-clause-pushed
returns-clause-pushed c = subst (λ (t : ClassTable). OnOk c.go_on.result (StandsForNext t c.args.e.now c.go_on.new.self)) c.index_at.ensures c.go_on.ensures.pushed
