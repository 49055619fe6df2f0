use Rattle.std.proofs.Common.{sym, subst}
use Rattle.map_defs.specs.NetMap.{NetMap}
use Rattle.map_defs.specs.Quotient.{IsQuotient}
use Rattle.map_quotient.proofs.of_journal.merged_quotient.Goals as goal

pub returns : goal.returns
returns c = subst (λ (m : NetMap). IsQuotient c.args.j.now.host c.args.j.now.entries m) (sym c.in_ok-put_in_order.ensures.ordered) c.in_ok-map.ensures
