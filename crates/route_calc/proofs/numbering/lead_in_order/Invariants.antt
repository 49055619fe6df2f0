use Rattle.std.proofs.Common.{◌≡◌, drop}
use Rattle.std.specs.List.{list_all}
use Rattle.route_calc.specs.Lowering.{leads_in_order}
use Rattle.route_calc.proofs.numbering.lead_in_order.Given as goal

abbrev pub invariant-loop-exit : goal.invariant-loop-exit
invariant-loop-exit l = list_all (leads_in_order l.m l.v) (drop l.exit-index l.exits) ≡ list_all (leads_in_order l.m l.v) l.exits
