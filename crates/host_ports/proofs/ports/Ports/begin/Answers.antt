use Rattle.std.proofs.Common.{◌∙◌, Some, ap}
use Rattle.host_ports.specs.Held.{with_open, state_at}
use Rattle.host_ports.proofs.Places.{with-is}
use Rattle.host_ports.proofs.ports.Ports.begin.Goals as goal

pub returns-in-Ok-clause-begun : goal.returns-in-Ok-clause-begun
returns-in-Ok-clause-begun c =
    with-is c.args.self.now c.self.inside.host c.self.inside.ports.items c.args.port c.from-place.result c.put_back.new.slot c.self.view_is c.from-place.ensures
    ∙ ap (λ s. with_open c.args.self.now c.args.port s) (ap state_at c.put_back.ensures ∙ ap (λ p. Some p.state) c.in-Ok.ensures)
