use Rattle.std.proofs.Common.{◌≡◌, ◌∙◌, Some, None, refl, sym, ap}
use Rattle.gm_defs.specs.Port.{provided_with}
use Rattle.gm_tokens.specs.Token.{token_at}
use Rattle.host_ports.specs.Held.{state_at}
use Rattle.host_ports.proofs.Places.{open-changed, kept-open, kept-same, own-is, slot-is}
use Rattle.host_ports.proofs.ports.Ports.provide.Goals as goal
use Rattle.host_ports.proofs.ports.Ports.provide.Goals.{in-Some+in-Ok, in-Some+in-Err, in-None}

pub provide-requires-clause-own : goal.provide-requires-clause-own
provide-requires-clause-own c =
    let o = own-is c.self.inside.host c.self.inside.ports.items c.args.port c.from.result c.index_mut.result.now c.in-Some.open c.self.invariant c.requires.port c.from.ensures c.index_mut.ensures.value c.in-Some.is in
    let host : c.args.self.now.host ≡ c.in-Some.open.host = ap (λ h. h.host) (sym c.self.view_is) ∙ sym o.0 in
    let port : c.args.port ≡ c.in-Some.open.port = sym o.1 in
    c.requires.own ∙ (λ i. token_at (host i) (port i) c.args.t.number)

pub provide-requires-clause-minted : goal.provide-requires-clause-minted
provide-requires-clause-minted c =
    c.requires.minted c.in-Some.open.state
    (sym (slot-is c.args.self.now c.self.inside.host c.self.inside.ports.items c.args.port c.from.result c.index_mut.result.now c.self.view_is c.self.invariant c.requires.port c.from.ensures c.index_mut.ensures.value) ∙ ap state_at c.in-Some.is)

pub invariant_of-self : goal.invariant_of-self
invariant_of-self c = elim c.match-index_mut.branch [
  | in-Some+in-Ok w ↦
      rw w.self-inside-is (kept-open c.self.inside.host c.self.inside.ports.items c.args.port c.from.result c.index_mut.result.now w.in-Some.open w.provide.new.self
      (λ s. provided_with s (record { token = c.args.t.number; size = c.args.size; prio = c.args.prio; filling = None; buffer = c.args.b }))
      c.self.invariant c.requires.port c.from.ensures c.index_mut.ensures.value w.in-Some.is w.in-Ok.ensures.provided)
  | in-Some+in-Err w ↦
      rw w.self-inside-is (kept-same c.self.inside.host c.self.inside.ports.items c.args.port c.from.result c.index_mut.result.now (Some w.provide.new.self) c.self.invariant c.requires.port c.from.ensures c.index_mut.ensures.value
      (ap Some w.in-Err.ensures.unchanged ∙ sym w.in-Some.is))
  | in-None w ↦ rw w.self-inside-is (kept-same c.self.inside.host c.self.inside.ports.items c.args.port c.from.result c.index_mut.result.now c.index_mut.result.now c.self.invariant c.requires.port c.from.ensures c.index_mut.ensures.value refl)
]

pub returns-clause-provided : goal.returns-clause-provided
returns-clause-provided c = elim c.match-index_mut.branch [
  | in-Some+in-Ok w ↦
      rw w.result-is (rw w.self-inside-is (open-changed c.args.self.now c.self.inside.host c.self.inside.ports.items c.args.port c.from.result c.index_mut.result.now w.in-Some.open w.provide.new.self
      (λ s. provided_with s (record { token = c.args.t.number; size = c.args.size; prio = c.args.prio; filling = None; buffer = c.args.b }))
      c.self.view_is c.self.invariant c.requires.port c.from.ensures c.index_mut.ensures.value w.in-Some.is w.in-Ok.ensures.provided))
  | in-Some+in-Err w ↦ rw w.result-is tt
  | in-None w ↦ rw w.result-is tt
]
