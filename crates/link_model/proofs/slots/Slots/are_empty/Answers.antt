use Rattle.std.proofs.Common.{ap, ◌∙◌, nat_eq, is_none}
use Rattle.std.specs.List.{list_all}
use Rattle.link_model.proofs.Counting.{count-idle}
use Rattle.link_model.proofs.slots.Slots.are_empty.Goals as goal

pub returns : goal.returns
returns c = ap (λ n. nat_eq n 0) c.self.invariant.counted ∙ count-idle c.self.inside.slots.items ∙ ap (list_all is_none) c.self.view_is
