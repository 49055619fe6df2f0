use Rattle.std.proofs.Common.{refl}
use Rattle.host_ports.proofs.Sends.{queue-asked}
use Rattle.host_ports.proofs.ports.is_unfinished.Goals as goal

pub returns : goal.returns
returns c =
    queue-asked _ c.place.result c.eq.result c.args.port.now.state c.args.number c.eq.ensures c.place.ensures.place refl refl
