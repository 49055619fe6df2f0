use Rattle.std.proofs.Common.{sym, ap, ◌∙◌}
use Rattle.map_defs.specs.NetMap.{NetMap, map_far}
use Rattle.fabric_map.specs.Table.{port_at}
use Rattle.fabric_map.proofs.map.FabricMap.span.Goals as goal

pub returns-clause-outside : goal.returns-clause-outside
returns-clause-outside c = λ i l out. ap (λ (m : NetMap). map_far m (port_at c.args.v i)) (sym c.self.view_is) ∙ c.span.ensures.outside i l out
