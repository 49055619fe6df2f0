use Rattle.std.proofs.Common.{◌<◌, ◌∙◌, sym, ap, arith}
use Rattle.gm_defs.specs.Port.{finished}
use Rattle.host_ports.specs.Held.{changed_port}
use Rattle.host_ports.proofs.Places.{changed-ports, open-changed}
use Rattle.host_ports.proofs.ports.Ports.finish.Goals as goal
use Rattle.host_ports.proofs.ports.Ports.finish.Goals.{in-Some, in_default}

pub returns : goal.returns
returns c =
    let below = c.if-place-ge-PORTS.false in
    let at = c.from-place.ensures in
    let few : c.args.port < 8 = omega (arith, below, at) in
    elim c.match-index_mut.branch [
      | in-Some w ↦
          rw w.self-inside-is (open-changed c.args.self.now c.self.inside.host c.self.inside.ports.items c.args.port c.from-place.result c.index_mut.result.now w.in-Some.open w.finish_open.new.port
          (λ s. finished s c.args.token) c.self.view_is c.self.invariant few at c.index_mut.ensures.value w.in-Some.is w.finish_open.ensures)
      | in_default w ↦
          rw w.self-inside-is (changed-ports c.args.self.now c.self.inside.host c.self.inside.ports.items c.args.port c.from-place.result c.index_mut.result.now c.index_mut.result.now
          (λ s. finished s c.args.token) c.self.view_is c.self.invariant few at c.index_mut.ensures.value (w.in_default.is ∙ ap (λ z. changed_port z (λ s. finished s c.args.token)) (sym w.in_default.is)))
    ]
