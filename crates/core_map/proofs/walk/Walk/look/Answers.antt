use Rattle.std.proofs.Common.{◌≡◌, ◌≢◌, ◌≤◌, ◌∷◌, ◌⊎◌, inl, inr, ap, sym, subst, ◌∙◌}
use Rattle.core_map.specs.declared.walk.Step.{Step}
use Rattle.core_map.specs.Lasting.{IsJoinedBy}
use Rattle.core_map.specs.Walking.{IsWalk, with_path, number_in}
use Rattle.core_map.proofs.Stepping.{other-joined, joined-back, positive}
use Rattle.core_map.proofs.Passing.{passed-walk}
use Rattle.core_map.proofs.walk.Walk.look.Goals as goal
use Rattle.core_map.proofs.walk.Walk.look.Goals.{then-i-step, else-i-step}

pub enter-requires-clause-joined : goal.enter-requires-clause-joined
enter-requires-clause-joined c =
    let m = c.args.m.now in
    let s = c.args.step in
    let i = c.args.i in
    let w = c.other_end-w.result in
    let joined : IsJoinedBy m i s.vertex w = subst (λ x. IsJoinedBy m i s.vertex x) (sym c.other_end-w.ensures) (other-joined m i s.vertex c.cable_at.result c.cable_at.ensures.there (c.requires.walk.steps.0.ends i c.requires.cable)) in
    joined-back m i s.vertex w joined

pub returns-in_ok-push-2-clause-walk : goal.returns-in_ok-push-2-clause-walk
returns-in_ok-push-2-clause-walk c =
    let m = c.args.m.now in
    let t = c.args.self.now in
    let s = c.args.step in
    let i = c.args.i in
    let w = c.other_end-w.result in
    let low = c.if-i-step.low in
    let joined : IsJoinedBy m i s.vertex w = subst (λ x. IsJoinedBy m i s.vertex x) (sym c.other_end-w.ensures) (other-joined m i s.vertex c.cable_at.result c.cable_at.ensures.there (c.requires.walk.steps.0.ends i c.requires.cable)) in
    let met : 1 ≤ number_in t w = subst (λ n. 1 ≤ n) c.number-number.ensures (positive c.number-number.result c.if-number-eq0.false) in
    let read : ((i ≡ s.entry) × (low ≡ s.low)) ⊎ ((i ≢ s.entry) × ((low ≡ number_in t w) × (1 ≤ number_in t w))) =
    elim c.if-i-step.branch [
      | then-i-step x ↦ inl (x.if-i-step.true, x.low-is)
      | else-i-step x ↦ inr (x.if-i-step.false, (x.low-is ∙ c.number-number.ensures, met))
    ] in
    subst (IsWalk m) (sym (c.in_ok-push-2.ensures ∙ ap (λ (r : Step). with_path t (r ∷ t.path)) c.lowered.ensures))
    (passed-walk m t s i c.before-next.result w low c.requires.walk c.requires.cable c.before-next.ensures joined read)
