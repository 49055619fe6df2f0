use Rattle.std.proofs.Common.{◌≡◌, ◌∙◌, option_map, sym, ap}
use Rattle.gm_defs.specs.Port.{polled, next_event}
use Rattle.gm_port.specs.Held.{event_at}
use Rattle.host_ports.specs.Held.{open_at, changed_port}
use Rattle.host_ports.proofs.Places.{changed-ports, open-changed, own-is, slot-is, answered}
use Rattle.host_ports.proofs.ports.Ports.poll.Goals as goal
use Rattle.host_ports.proofs.ports.Ports.poll.Goals.{in-Some, in-None}

pub returns-clause-first : goal.returns-clause-first
returns-clause-first c =
    answered c.args.self.now.host c.args.port c.index_mut.result.now (open_at c.args.self.now c.args.port) c.match-index_mut.result (λ e host port s. e ≡ option_map (event_at host port) (next_event s))
    (slot-is c.args.self.now c.self.inside.host c.self.inside.ports.items c.args.port c.from.result c.index_mut.result.now c.self.view_is c.self.invariant c.requires c.from.ensures c.index_mut.ensures.value)
    (λ p e. let o = own-is c.self.inside.host c.self.inside.ports.items c.args.port c.from.result c.index_mut.result.now p c.self.invariant c.requires c.from.ensures c.index_mut.ensures.value e in
    (o.0 ∙ ap (λ h. h.host) c.self.view_is, o.1))
    (elim c.match-index_mut.branch [
      | in-Some w ↦ rw w.result-is (rw w.in-Some.is w.poll.ensures.first)
      | in-None w ↦ rw w.result-is tt
    ])

pub returns-clause-rest : goal.returns-clause-rest
returns-clause-rest c = elim c.match-index_mut.branch [
  | in-Some w ↦
      rw w.self-inside-is (open-changed c.args.self.now c.self.inside.host c.self.inside.ports.items c.args.port c.from.result c.index_mut.result.now w.in-Some.open w.poll.new.self (λ s. polled s)
      c.self.view_is c.self.invariant c.requires c.from.ensures c.index_mut.ensures.value w.in-Some.is w.poll.ensures.rest)
  | in-None w ↦
      rw w.self-inside-is (changed-ports c.args.self.now c.self.inside.host c.self.inside.ports.items c.args.port c.from.result c.index_mut.result.now c.index_mut.result.now (λ s. polled s)
      c.self.view_is c.self.invariant c.requires c.from.ensures c.index_mut.ensures.value (w.in-None.is ∙ ap (λ z. changed_port z (λ s. polled s)) (sym w.in-None.is)))
]
