use Rattle.std.proofs.Common.{sym, subst, ◌<◌, ◌≡◌, length, get_or, None, rules}
use Rattle.link_model.proofs.Counting.{count-le}
use Rattle.link_model.proofs.Fullness.{indexed-put}
use Rattle.link_model.proofs.slots.Slots.put.Goals as goal

pub overflow_add-self : goal.overflow_add-self
overflow_add-self c =
    let few = count-le c.self.inside.slots.items in
    let same = c.self.invariant.counted in
    let small = c.self.inside.slots.small in
    let long = c.self.inside.slots.ok in
    search (rules, few, same, small, long)

pub invariant_of-self : goal.invariant_of-self
invariant_of-self c =
    let ps = c.self.inside.slots.items in
    let low : c.args.c < length ps = subst (λ l. c.args.c < length l) (sym c.self.view_is) c.requires.there in
    let empty : get_or ps c.args.c None ≡ None = subst (λ l. get_or l c.args.c None ≡ None) (sym c.self.view_is) c.requires.empty in
    indexed-put ps c.replace_at.new.slots.items c.self.inside.full c.self.inside.marks.items c.mark.new.words.items c.args.c c.args.slot low empty c.self.invariant c.replace_at.ensures.slots c.mark.ensures
