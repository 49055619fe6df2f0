use Rattle.std.proofs.Common.{List, is_some, count_by, ap, ◌∙◌}
use Rattle.gm_port.specs.Table.{Place}
use Rattle.gm_port.proofs.Keyed.{count-places}
use Rattle.gm_port.proofs.slots.SendSlots.len.Goals as goal

pub returns : goal.returns
returns c =
    c.len.ensures ∙ count-places c.self.inside.slots c.self.inside.keys.items c.self.inside.held.items c.self.invariant
    ∙ ap (λ (ps : List Place). count_by is_some ps) c.self.view_is
