use Rattle.std.proofs.Common.{ap, ◌∙◌, sym, length, get_or, None, arith}
use Rattle.link_model.specs.FullSlots.{full_of, full_count}
use Rattle.link_model.proofs.Counting.{count-nones}
use Rattle.link_model.proofs.Fullness.{none-full}
use Rattle.link_model.proofs.slots.Slots.new.Goals as goal

pub invariant_of-result : goal.invariant_of-result
invariant_of-result c =
    let items = c.loop-slots.slots.items in
    let size = c.in_ok-bare.ensures.size in
    record {
      counted = count-nones (length items) ∙ sym (ap full_count c.loop-slots.invariant.0);
      room = omega (arith, size, c.loop-slots.invariant.1);
      few = omega (arith, size);
      marks = λ k. c.in_ok-bare.ensures.bare k ∙ sym (ap (λ l. full_of (get_or l k None)) c.loop-slots.invariant.0 ∙ none-full (length items) k);
    }
