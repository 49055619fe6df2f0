use Rattle.std.proofs.Common.{◌≡◌, Some, refl, sym, ap, ◌∙◌, true≢false}
use Rattle.std.specs.Prelude.{slice_get}
use Rattle.std.proofs.lemmas.Bool.{false≢true}
use Rattle.std.proofs.lemmas.Option.{slice_get-get_or}
use Rattle.map_quotient.proofs.Expanding.{expanded-none, expanded-next, expanded-all, entry-answered}
use Rattle.map_quotient.proofs.closing.closed.Goals.{else-is_switch-via-then-is_switch+else-not-has_expanded, else-is_switch-via-else-is_switch}
use Rattle.map_quotient.proofs.closing.closed.Goals as goal

pub loop-e-init : goal.loop-e-init
loop-e-init c = expanded-none c.args.j.now.host c.args.j.now.entries c.entries-entries.result.now

pub returns-then-not-has_expanded : goal.returns-then-not-has_expanded
returns-then-not-has_expanded c = (
  (λ e. absurd (false≢true e)),
  (
      λ closed.
      let e = c.e-item.result in
      let at : slice_get c.args.j.now.entries c.loop-e.e-index ≡ Some e = ap (λ es. slice_get es c.loop-e.e-index) (sym c.entries-entries.ensures.list) ∙ slice_get-get_or c.entries-entries.result.now c.loop-e.e-index e c.loop-e-test.true ∙ ap Some (sym c.e-item.is) in
      let switch = c.is_switch.ensures.0 c.if-is_switch.true in
      let told = entry-answered c.args.j.now.entries c.loop-e.e-index e c.entries-entries.ensures.once at ∙ ap Some switch in
      sym c.if-not-has_expanded.true ∙ c.has_expanded.ensures.1 (closed.expanded e.walk told)
      ),
)

pub loop-e-preserved : goal.loop-e-preserved
loop-e-preserved c =
    let e = c.e-item.result in
    let at : slice_get c.entries-entries.result.now c.loop-e.e-index ≡ Some e = slice_get-get_or c.entries-entries.result.now c.loop-e.e-index e c.loop-e-test.true ∙ ap Some (sym c.e-item.is) in
    expanded-next c.args.j.now.host c.args.j.now.entries c.entries-entries.result.now c.loop-e.e-index e at
    (
    λ switch.
    elim c.else-is_switch.branch [
      | else-is_switch-via-then-is_switch+else-not-has_expanded w ↦ w.has_expanded.ensures.0 w.if-not-has_expanded.false
      | else-is_switch-via-else-is_switch w ↦ absurd (true≢false (sym (c.is_switch.ensures.1 switch) ∙ w.if-is_switch.false))
    ]
    )
    c.loop-e.invariant

pub returns : goal.returns
returns c = (
  (λ e. expanded-all c.args.j.now.host c.args.j.now.entries c.entries-entries.result.now c.loop-e.e-index c.entries-entries.ensures.list c.loop-e-test.false c.loop-e.invariant),
  (λ closed. refl),
)
