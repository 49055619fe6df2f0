use Rattle.std.proofs.Common.{ap, ◌∙◌, subst, ◌≡◌, ◌≤◌, ℕ}
use Rattle.std.specs.Option.{IfSome, IfNone}
use Rattle.number_marks.specs.Marks.{mark_at, IsNextMark}
use Rattle.link_model.specs.FullSlots.{full_from}
use Rattle.link_model.proofs.Fullness.{full-next, full-idle}
use Rattle.link_model.proofs.slots.Slots.next_full.Goals as goal

pub returns-then-self-eq0-clause-next : goal.returns-then-self-eq0-clause-next
returns-then-self-eq0-clause-next c =
    full-idle c.self.inside.slots.items c.self.inside.full c.args.from c.self.invariant.counted c.if-self-eq0.true ∙ ap (λ l. full_from l c.args.from) c.self.view_is

pub returns-else-self-eq0-clause-next : goal.returns-else-self-eq0-clause-next
returns-else-self-eq0-clause-next c =
    full-next c.self.inside.slots.items c.self.inside.marks.items c.args.from c.next_marked.result c.self.invariant.marks
    (subst (λ w. IfSome c.next_marked.result (IsNextMark w c.args.from)) c.deref.ensures.value c.next_marked.ensures.next)
    (subst (λ w. IfNone c.next_marked.result ((k : ℕ) → c.args.from ≤ k → mark_at w k ≡ 0)) c.deref.ensures.value c.next_marked.ensures.none)
    ∙ ap (λ l. full_from l c.args.from) c.self.view_is
