use Rattle.std.proofs.Common.{◌≡◌, ◌∙◌, sym, subst}
use Rattle.link_model.specs.FullSlots.{IsIndexed}
use Rattle.link_model.proofs.SlotCables.{indexed-others, two-off, with_two}
use Rattle.link_model.proofs.slots.Slots.pop_cable.Goals as goal

pub invariant_of-self : goal.invariant_of-self
invariant_of-self c =
    let items = c.self.inside.slots.items in
    let others = c.requires.0 in
    let is : items ≡ with_two others = c.self.view_is ∙ c.requires.1 in
    let left : c.pop-2.new.self.items ≡ others = two-off items others _ _ c.pop.new.self.items c.pop-2.new.self.items c.self.inside.slots.ok.0 is c.pop.ensures.rest c.pop.new.self.ok.0 c.pop-2.ensures.rest in
    subst (λ l. IsIndexed l c.self.inside.full c.self.inside.marks.items) (sym left)
    (indexed-others others c.self.inside.full c.self.inside.marks.items (subst (λ l. IsIndexed l c.self.inside.full c.self.inside.marks.items) is c.self.invariant))

pub returns : goal.returns
returns c = λ others is. two-off c.self.inside.slots.items others _ _ c.pop.new.self.items c.pop-2.new.self.items c.self.inside.slots.ok.0 (c.self.view_is ∙ is) c.pop.ensures.rest c.pop.new.self.ok.0 c.pop-2.ensures.rest
