use Rattle.std.proofs.Common.{◌∙◌, ap}
use Rattle.host_ports.proofs.Places.{none-open}
use Rattle.host_ports.proofs.ports.Ports.end.Goals as goal

pub loop-port-init : goal.loop-port-init
loop-port-init c = none-open c.self.inside.ports.items 8 (ap (λ h. h.ports) (c.self.view_is ∙ c.requires))
