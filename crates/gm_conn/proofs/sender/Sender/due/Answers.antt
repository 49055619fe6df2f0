use Rattle.std.proofs.Common.{◌≤◌, sym, ap, ◌∙◌, subst, arith}
use Rattle.std.specs.Option.{option_copied}
use Rattle.gm_conn.specs.Halves.{first, due_frame, place_below, first_below}
use Rattle.gm_conn.proofs.Waiting.{first-low, held-there, waits-rules, due-head, due-offset}
use Rattle.gm_conn.proofs.sender.Sender.due.Goals as goal

pub below-place-requires : goal.below-place-requires
below-place-requires c = subst (λ w. first w ≤ c.self.inside.cursor) c.self.view_is (first-low _ c.self.invariant.kept)

pub unreachable-requires : goal.unreachable-requires
unreachable-requires c =
    held-there _ c.below-place.result.0 c.self.invariant.kept (grind arith) (c.below-place.ensures.place ∙ ap (λ x. place_below x c.self.inside.cursor) (sym c.self.view_is))
    (sym c.get.ensures ∙ ap option_copied c.in-None.is)

pub head_for-requires-clause-desc : goal.head_for-requires-clause-desc
head_for-requires-clause-desc c = waits-rules _ c.below-place.result.0 c.in-Some.d.now c.self.invariant.kept (sym c.get.ensures ∙ ap option_copied c.in-Some.is)

pub head_for-requires-clause-offset : goal.head_for-requires-clause-offset
head_for-requires-clause-offset c =
    (due-offset _ c.below-place.result.0 c.below-place.result.1 _ c.self.invariant.kept (grind arith)
    (c.below-place.ensures.place ∙ ap (λ x. place_below x c.self.inside.cursor) (sym c.self.view_is))
    (c.below-place.ensures.first ∙ ap (λ x. first_below x c.self.inside.cursor) (sym c.self.view_is)) (sym c.get.ensures ∙ ap option_copied c.in-Some.is)).0

pub returns-in-Some-clause-exact : goal.returns-in-Some-clause-exact
returns-in-Some-clause-exact c =
    (due-head _ c.below-place.result.0 c.below-place.result.1 _ c.head_for.result c.self.invariant.kept (grind arith) (grind arith)
    (c.below-place.ensures.place ∙ ap (λ x. place_below x c.self.inside.cursor) (sym c.self.view_is))
    (c.below-place.ensures.first ∙ ap (λ x. first_below x c.self.inside.cursor) (sym c.self.view_is)) (sym c.get.ensures ∙ ap option_copied c.in-Some.is) c.head_for.ensures).exact
    ∙ ap due_frame c.self.view_is

pub returns-in-Some-clause-by_rules : goal.returns-in-Some-clause-by_rules
returns-in-Some-clause-by_rules c =
    (due-head _ c.below-place.result.0 c.below-place.result.1 _ c.head_for.result c.self.invariant.kept (grind arith) (grind arith)
    (c.below-place.ensures.place ∙ ap (λ x. place_below x c.self.inside.cursor) (sym c.self.view_is))
    (c.below-place.ensures.first ∙ ap (λ x. first_below x c.self.inside.cursor) (sym c.self.view_is)) (sym c.get.ensures ∙ ap option_copied c.in-Some.is) c.head_for.ensures).by_rules

pub returns-in-Some-clause-connection : goal.returns-in-Some-clause-connection
returns-in-Some-clause-connection c =
    (due-head _ c.below-place.result.0 c.below-place.result.1 _ c.head_for.result c.self.invariant.kept (grind arith) (grind arith)
    (c.below-place.ensures.place ∙ ap (λ x. place_below x c.self.inside.cursor) (sym c.self.view_is))
    (c.below-place.ensures.first ∙ ap (λ x. first_below x c.self.inside.cursor) (sym c.self.view_is)) (sym c.get.ensures ∙ ap option_copied c.in-Some.is) c.head_for.ensures).connection
    ∙ ap (λ x. x.key) c.self.view_is

pub overflow_mul-self-inside : goal.overflow_mul-self-inside
overflow_mul-self-inside c =
    let small = (due-offset _ c.below-place.result.0 c.below-place.result.1 _ c.self.invariant.kept (grind arith)
    (c.below-place.ensures.place ∙ ap (λ x. place_below x c.self.inside.cursor) (sym c.self.view_is))
    (c.below-place.ensures.first ∙ ap (λ x. first_below x c.self.inside.cursor) (sym c.self.view_is)) (sym c.get.ensures ∙ ap option_copied c.in-Some.is)).1 in
    omega (arith, small)
