use Rattle.std.proofs.Common.{length, is_some, sym, ap, ◌∙◌, arith}
use Rattle.std.specs.List.{filter}
use Rattle.std.proofs.lemmas.List.Sums.{length-filter, count_by-le-length}
use Rattle.gm_port.specs.Held.{Buffers}
use Rattle.gm_port.proofs.Listed.{filling-counted}
use Rattle.gm_port.proofs.buffers.BufferList.filling.Goals as goal

pub overflow_cast-result : goal.overflow_cast-result
overflow_cast-result c =
    let is = c.count_filling.ensures in
    let most = count_by-le-length (λ r. is_some r.filling) c.self.inside.provided.items in
    let few = c.self.invariant.0.few in
    omega (arith, is, most, few)

pub returns : goal.returns
returns c =
    c.count_filling.ensures ∙ sym (length-filter (λ r. is_some r.filling) c.self.inside.provided.items) ∙ filling-counted c.self.inside.provided.items
    ∙ ap (λ (b : Buffers). length (filter (λ r. is_some r.filling) b.provided)) c.self.view_is
