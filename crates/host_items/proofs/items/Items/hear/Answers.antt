use Rattle.std.proofs.Common.{◌∙◌, ap}
use Rattle.world_defs.specs.Hearing.{OfMapper, hear_body}
use Rattle.probe.specs.Body.{said}
use Rattle.host_items.specs.Held.{with_items}
use Rattle.host_items.proofs.items.Items.hear.Goals as goal

pub returns-in-HostProbe : goal.returns-in-HostProbe
returns-in-HostProbe c = λ n.
    ap (λ b. hear_body c.args.host c.args.hosts (with_items n c.args.self.now) (OfMapper (said b))) c.in-HostProbe.is ∙ c.hear_host_probe.ensures c.args.host n
