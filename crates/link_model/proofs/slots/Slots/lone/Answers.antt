use Rattle.std.proofs.Common.{◌≡◌, ◌≢◌, ◌≤◌, ℕ, ◌∙◌, sym, ap, subst, true, is_some, get_or, None}
use Rattle.std.specs.Option.{IfSome, IfNone}
use Rattle.number_marks.specs.Marks.{mark_at, IsNextMark}
use Rattle.link_model.specs.FullSlots.{full_count, IsLone}
use Rattle.link_model.proofs.Fullness.{lone-at, lone-next, lone-none}
use Rattle.link_model.proofs.slots.Slots.lone.Goals as goal

pub returns-then-is_full_at-clause-lone : goal.returns-then-is_full_at-clause-lone
returns-then-is_full_at-clause-lone c =
    let items = c.self.inside.slots.items in
    let full : is_some (get_or items c.self.inside.last None) ≡ true =
    ap (λ l. is_some (get_or l c.self.inside.last None)) (sym c.deref.ensures.value) ∙ sym c.is_full_at.ensures ∙ c.if-is_full_at.true in
    subst (λ l. IsLone l c.self.inside.last) c.self.view_is (lone-at items c.self.inside.marks.items c.self.inside.full c.self.inside.last c.self.invariant c.if-self-ne1.false full)

pub returns-else-is_full_at-clause-lone : goal.returns-else-is_full_at-clause-lone
returns-else-is_full_at-clause-lone c =
    subst (λ l. IfSome c.next_marked.result (IsLone l)) c.self.view_is
    (lone-next c.self.inside.slots.items c.self.inside.marks.items c.self.inside.full c.next_marked.result c.self.invariant c.if-self-ne1.false
    (subst (λ w. IfSome c.next_marked.result (IsNextMark w 0)) c.deref-else-is_full_at.ensures.value c.next_marked.ensures.next))

pub returns-else-is_full_at-clause-none : goal.returns-else-is_full_at-clause-none
returns-else-is_full_at-clause-none c =
    subst (λ l. IfNone c.next_marked.result (full_count l ≢ 1)) c.self.view_is
    (lone-none c.self.inside.slots.items c.self.inside.marks.items c.self.inside.full c.next_marked.result c.self.invariant
    (subst (λ w. IfNone c.next_marked.result ((k : ℕ) → 0 ≤ k → mark_at w k ≡ 0)) c.deref-else-is_full_at.ensures.value c.next_marked.ensures.none))

pub returns-then-self-ne1-clause-none : goal.returns-then-self-ne1-clause-none
returns-then-self-ne1-clause-none c =
    subst (λ l. full_count l ≢ 1) c.self.view_is (λ one. let counted = c.self.invariant.counted in let more = c.if-self-ne1.true in absurd (more (counted ∙ one)))
