use Rattle.std.proofs.Common.{◌≡◌, ◌≤◌, ◌+◌, ◌++◌, ◌∷◌, [], ◌∙◌, sym, ap, subst, None, length, arith}
use Rattle.link_model.specs.FullSlots.{IsIndexed}
use Rattle.link_model.proofs.SlotCables.{indexed-two, indexed-word, room-for-two, with_two, append-two}
use Rattle.link_model.proofs.slots.Slots.push_cable.Goals as goal
use Rattle.link_model.proofs.slots.Slots.push_cable.Goals.{then-len+in_ok-push, else-len}

pub invariant_of-self-2 : goal.invariant_of-self-2
invariant_of-self-2 c =
    let ps = c.self.inside.slots.items in
    let words = c.self.inside.marks.items in
    let full = c.self.inside.full in
    let channels = c.len.ensures ∙ c.in_ok-reserve.ensures.len ∙ c.self.inside.slots.ok.0 in
    let count = c.len-2.ensures ∙ c.self.inside.marks.ok.0 in
    let most : length ps + 2 ≤ 8192 = let view = ap length c.self.view_is in let few = c.requires in omega (arith, view, few) in
    let pushed : c.push_reserved-2.new.self.items ≡ (c.if-len.self-inside.slots.items ++ None ∷ []) ++ None ∷ [] = c.push_reserved-2.ensures.items ∙ ap (λ l. l ++ None ∷ []) c.push_reserved.ensures.items in
    elim c.if-len.branch [
      | then-len+in_ok-push w ↦
          let slots : c.push_reserved-2.new.self.items ≡ with_two ps =
          pushed ∙ ap (λ i. (i.slots.items ++ None ∷ []) ++ None ∷ []) w.self-inside-is ∙ ap (λ l. (l ++ None ∷ []) ++ None ∷ []) c.in_ok-reserve.ensures.items ∙ sym (append-two ps None None) in
          let above = w.if-len.true in
          let less : length words ≤ 128 = omega (arith, above, channels, count, most) in
          let more : w.push.new.self.items ≡ words ++ 0 ∷ [] = w.in_ok-push.ensures.items in
          subst (λ i. IsIndexed c.push_reserved-2.new.self.items i.full i.marks.items) (sym w.self-inside-is)
          (indexed-two ps c.push_reserved-2.new.self.items full w.push.new.self.items slots (room-for-two (length ps) words w.push.new.self.items more c.self.invariant.room) (indexed-word ps full words w.push.new.self.items more less c.self.invariant))
      | else-len w ↦
          let slots : c.push_reserved-2.new.self.items ≡ with_two ps =
          pushed ∙ ap (λ i. (i.slots.items ++ None ∷ []) ++ None ∷ []) w.self-inside-is ∙ ap (λ l. (l ++ None ∷ []) ++ None ∷ []) c.in_ok-reserve.ensures.items ∙ sym (append-two ps None None) in
          let room = w.if-len.false in
          subst (λ i. IsIndexed c.push_reserved-2.new.self.items i.full i.marks.items) (sym w.self-inside-is)
          (indexed-two ps c.push_reserved-2.new.self.items full words slots (omega (arith, room, channels, count)) c.self.invariant)
    ]
