use Rattle.std.proofs.Common.{◌∙◌, sym, ap, take}
use Rattle.gm_defs.specs.Port.{finished}
use Rattle.host_ports.specs.Held.{changed}
use Rattle.nic_node.proofs.Within.{finished-next, finished-none, finished-host}
use Rattle.nic_node.proofs.messages.finish.Goals as goal
use Rattle.nic_node.proofs.messages.finish.Goals.{in-Some, in_default}

pub loop-place-preserved : goal.loop-place-preserved
loop-place-preserved c =
    elim c.match-pending.branch [
      | in-Some w ↦
          w.ports-is ∙ w.finish.ensures ∙ (λ i. changed c.loop-place.ports (w.port.ensures i) (λ s. finished s (w.token.ensures i)))
          ∙ finished-next c.args.ports.now c.loop-place.ports c.args.lane.now.state.pending c.loop-place.place w.in-Some.ticket
          (sym c.pending.ensures ∙ w.in-Some.is) c.loop-place.invariant
      | in_default w ↦
          w.ports-is
          ∙ finished-none c.args.ports.now c.loop-place.ports c.args.lane.now.state.pending c.loop-place.place
          (sym c.pending.ensures ∙ w.in_default.is) c.loop-place.invariant
    ]

pub returns-clause-host : goal.returns-clause-host
returns-clause-host c =
    ap (λ p. p.host) c.loop-place.invariant ∙ finished-host c.args.ports.now (take c.loop-place.place c.args.lane.now.state.pending)
