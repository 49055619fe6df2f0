use Rattle.std.proofs.Common.{◌≡◌, ◌∙◌, map, sym, ap}
use Rattle.gm_port.specs.Held.{send_at, receive_at, event_at}
use Rattle.host_ports.specs.Held.{open_at, with_open, state_at}
use Rattle.host_ports.proofs.Places.{with-is, own-is, slot-is, given}
use Rattle.host_ports.proofs.ports.Ports.abandon.Goals as goal
use Rattle.host_ports.proofs.ports.Ports.abandon.Goals.{in-Some, in-None}

pub returns-clause-sending : goal.returns-clause-sending
returns-clause-sending c =
    given c.args.self.now.host c.args.port c.index_mut.result.now (open_at c.args.self.now c.args.port) c.match-take.result (λ w host port s. w.sending.items ≡ map (send_at host port) s.queue)
    (slot-is c.args.self.now c.self.inside.host c.self.inside.ports.items c.args.port c.from.result c.index_mut.result.now c.self.view_is c.self.invariant c.requires c.from.ensures c.index_mut.ensures.value)
    (λ p e. let o = own-is c.self.inside.host c.self.inside.ports.items c.args.port c.from.result c.index_mut.result.now p c.self.invariant c.requires c.from.ensures c.index_mut.ensures.value e in
    (o.0 ∙ ap (λ h. h.host) c.self.view_is, o.1))
    (elim c.match-take.branch [
      | in-Some w ↦ rw w.result-is (rw (sym c.take.ensures.value ∙ w.in-Some.is) w.abandon.ensures.sending)
      | in-None w ↦ rw w.result-is tt
    ])

pub returns-clause-provided : goal.returns-clause-provided
returns-clause-provided c =
    given c.args.self.now.host c.args.port c.index_mut.result.now (open_at c.args.self.now c.args.port) c.match-take.result (λ w host port s. w.provided.items ≡ map (receive_at host port) s.provided)
    (slot-is c.args.self.now c.self.inside.host c.self.inside.ports.items c.args.port c.from.result c.index_mut.result.now c.self.view_is c.self.invariant c.requires c.from.ensures c.index_mut.ensures.value)
    (λ p e. let o = own-is c.self.inside.host c.self.inside.ports.items c.args.port c.from.result c.index_mut.result.now p c.self.invariant c.requires c.from.ensures c.index_mut.ensures.value e in
    (o.0 ∙ ap (λ h. h.host) c.self.view_is, o.1))
    (elim c.match-take.branch [
      | in-Some w ↦ rw w.result-is (rw (sym c.take.ensures.value ∙ w.in-Some.is) w.abandon.ensures.provided)
      | in-None w ↦ rw w.result-is tt
    ])

pub returns-clause-events : goal.returns-clause-events
returns-clause-events c =
    given c.args.self.now.host c.args.port c.index_mut.result.now (open_at c.args.self.now c.args.port) c.match-take.result (λ w host port s. w.events.items ≡ map (event_at host port) s.events)
    (slot-is c.args.self.now c.self.inside.host c.self.inside.ports.items c.args.port c.from.result c.index_mut.result.now c.self.view_is c.self.invariant c.requires c.from.ensures c.index_mut.ensures.value)
    (λ p e. let o = own-is c.self.inside.host c.self.inside.ports.items c.args.port c.from.result c.index_mut.result.now p c.self.invariant c.requires c.from.ensures c.index_mut.ensures.value e in
    (o.0 ∙ ap (λ h. h.host) c.self.view_is, o.1))
    (elim c.match-take.branch [
      | in-Some w ↦ rw w.result-is (rw (sym c.take.ensures.value ∙ w.in-Some.is) w.abandon.ensures.events)
      | in-None w ↦ rw w.result-is tt
    ])

pub returns-clause-ended : goal.returns-clause-ended
returns-clause-ended c =
    with-is c.args.self.now c.self.inside.host c.self.inside.ports.items c.args.port c.from.result c.take.new.self c.self.view_is c.from.ensures
    ∙ ap (λ s. with_open c.args.self.now c.args.port (state_at s)) c.take.ensures.after
