use Rattle.std.proofs.Common.{ap, ◌∙◌, sym, subst, ◌<◌, ◌≡◌, true, length, is_some, get_or, None, arith}
use Rattle.link_model.proofs.Counting.{count-take}
use Rattle.link_model.proofs.Fullness.{indexed-take}
use Rattle.link_model.proofs.slots.Slots.take.Goals as goal

pub overflow_sub-self : goal.overflow_sub-self
overflow_sub-self c =
    let there : is_some (get_or c.self.inside.slots.items c.args.c None) ≡ true = ap is_some (sym c.replace_at-slot.ensures.was) ∙ sym c.is_some.ensures ∙ c.if-is_some.true in
    let less = count-take c.self.inside.slots.items c.args.c there in
    let same = c.self.invariant.counted in
    omega (arith, less, same)

pub invariant_of-self : goal.invariant_of-self
invariant_of-self c =
    let ps = c.self.inside.slots.items in
    let low : c.args.c < length ps = subst (λ l. c.args.c < length l) (sym c.self.view_is) c.requires in
    let there : is_some (get_or ps c.args.c None) ≡ true = ap is_some (sym c.replace_at-slot.ensures.was) ∙ sym c.is_some.ensures ∙ c.if-is_some.true in
    indexed-take ps c.replace_at-slot.new.slots.items c.self.inside.full c.self.inside.marks.items c.unmark.new.words.items c.args.c low there c.self.invariant c.replace_at-slot.ensures.slots c.unmark.ensures
