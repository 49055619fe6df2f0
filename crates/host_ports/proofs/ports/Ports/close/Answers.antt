use Rattle.std.proofs.Common.{◌≡◌, ◌∙◌, map, ap}
use Rattle.gm_port.specs.Held.{receive_at}
use Rattle.host_ports.specs.Held.{open_at, with_open, state_at}
use Rattle.host_ports.proofs.Places.{with-is, own-is, slot-is, answered, on-ok}
use Rattle.host_ports.proofs.ports.Ports.close.Goals as goal

pub returns-clause-closed : goal.returns-clause-closed
returns-clause-closed c =
    on-ok c.close.result
    (λ none. with-is c.args.self.now c.self.inside.host c.self.inside.ports.items c.args.port c.from.result c.close.new.slot c.self.view_is c.from.ensures
    ∙ ap (λ s. with_open c.args.self.now c.args.port (state_at s)) none)
    c.close.ensures.closed

pub returns-clause-provided : goal.returns-clause-provided
returns-clause-provided c =
    answered c.args.self.now.host c.args.port c.index_mut.result.now (open_at c.args.self.now c.args.port) c.close.result (λ v host port s. v.items ≡ map (receive_at host port) s.provided)
    (slot-is c.args.self.now c.self.inside.host c.self.inside.ports.items c.args.port c.from.result c.index_mut.result.now c.self.view_is c.self.invariant c.requires c.from.ensures c.index_mut.ensures.value)
    (λ p e. let o = own-is c.self.inside.host c.self.inside.ports.items c.args.port c.from.result c.index_mut.result.now p c.self.invariant c.requires c.from.ensures c.index_mut.ensures.value e in
    (o.0 ∙ ap (λ h. h.host) c.self.view_is, o.1))
    c.close.ensures.provided
