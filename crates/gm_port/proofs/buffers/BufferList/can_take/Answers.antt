use Rattle.std.proofs.Common.{ap, ◌∙◌}
use Rattle.std.specs.Prelude.{find, is_some}
use Rattle.gm_port.specs.Held.{Buffers}
use Rattle.gm_port.specs.Lists.{taking}
use Rattle.gm_port.proofs.Listed.{can-take}
use Rattle.gm_port.proofs.buffers.BufferList.can_take.Goals as goal

pub returns : goal.returns
returns c =
    c.is_some.ensures ∙ ap is_some c.first_taking.ensures ∙ can-take c.args.h.now c.self.inside.provided.items
    ∙ ap (λ (b : Buffers). is_some (find (taking c.args.h.now b.provided) b.provided)) c.self.view_is
