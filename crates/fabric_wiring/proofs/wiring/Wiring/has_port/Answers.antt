use Rattle.std.proofs.Common.{get_or, nat_lt, sym, ap, ◌∙◌}
use Rattle.net_defs.specs.Network.{has_port}
use Rattle.world_defs.specs.History.{CableHistory, fabric_now}
use Rattle.fabric_wiring.specs.Tables.{history_of}
use Rattle.fabric_wiring.proofs.Wirings.{switch-port-there}
use Rattle.fabric_wiring.proofs.wiring.Wiring.has_port.Goals as goal

pub returns-in-Switch : goal.returns-in-Switch
returns-in-Switch c =
    let h : CableHistory = history_of c.self.inside.first.value c.self.inside.wires.items c.self.inside.changes c.self.inside.accepted in
    let p = c.args.e.p in
    ap (nat_lt p) (c.port_count.ensures ∙ (λ i. get_or (c.deref.ensures.value i) (c.from.ensures i) 0))
    ∙ switch-port-there h c.in-Switch.s p c.self.inside.ports.items c.self.invariant.same_ports
    ∙ ap (λ v. has_port (fabric_now h) (record { v = v; p = p })) (sym c.in-Switch.is)
    ∙ ap (λ m. has_port (fabric_now m) c.args.e) c.self.view_is
