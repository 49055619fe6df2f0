use Rattle.std.proofs.Common.{◌≡◌, None, subst}
use Rattle.map_defs.specs.NetMap.{far_port}
use Rattle.fabric_map.specs.Table.{port_at}
use Rattle.fabric_map.proofs.Tables.{place-none}
use Rattle.fabric_map.proofs.cabling.Cabling.span.Goals as goal

pub returns-clause-outside : goal.returns-clause-outside
returns-clause-outside c = λ i l out.
    subst (λ cs. far_port cs (port_at c.args.v i) ≡ None) c.self.view_is (place-none c.self.inside.cables.items c.self.inside.far.items c.args.v i c.self.invariant l (c.span.ensures.outside i l out))
