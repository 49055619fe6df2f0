use Rattle.std.proofs.Common.{◌≡◌, ◌∙◌, false, Ok, ap, subst, sym, true≢false, nat_eq}
use Rattle.std.specs.List.{list_any}
use Rattle.circ_defs.specs.Ways.{IsOneOf, IsStep, Step}
use Rattle.circ_defs.specs.Ways.Joins.{forth, back}
use Rattle.circ_defs.proofs.Numbers.{any-of}
use Rattle.circ_ears.specs.Search.{HasNoPathBy}
use Rattle.circ_ears.proofs.Finding.{over-both, over-old}
use Rattle.circ_ears.proofs.search.path_over.Goals as goal

pub returns-then-is_one_of-clause-none : goal.returns-then-is_one_of-clause-none
returns-then-is_one_of-clause-none c e =
    over-old c.args.f.now c.args.old.now c.args.k (sym c.is_one_of.ensures ∙ c.if-is_one_of.true)

pub path_by-requires-clause-step : goal.path_by-requires-clause-step
path_by-requires-clause-step c = subst (IsStep c.args.f.now) (sym c.new.ensures) (forth c.cable-c.ensures)

pub path_by-requires-clause-new : goal.path_by-requires-clause-new
path_by-requires-clause-new c =
    let new : list_any (nat_eq c.args.k) c.args.old.now ≡ false = sym c.is_one_of.ensures ∙ c.if-is_one_of.false in
    subst (λ (s : Step). ¬ IsOneOf s.cable c.args.old.now) (sym c.new.ensures) (λ m. true≢false (sym (any-of c.args.k c.args.old.now m) ∙ new))

pub path_by-requires-in-None-clause-step : goal.path_by-requires-in-None-clause-step
path_by-requires-in-None-clause-step c = subst (IsStep c.args.f.now) (sym c.new-in-None.ensures) (back c.cable-c.ensures)

pub path_by-requires-in-None-clause-new : goal.path_by-requires-in-None-clause-new
path_by-requires-in-None-clause-new c =
    let new : list_any (nat_eq c.args.k) c.args.old.now ≡ false = sym c.is_one_of.ensures ∙ c.if-is_one_of.false in
    subst (λ (s : Step). ¬ IsOneOf s.cable c.args.old.now) (sym c.new-in-None.ensures) (λ m. true≢false (sym (any-of c.args.k c.args.old.now m) ∙ new))

pub returns-in-None-clause-none : goal.returns-in-None-clause-none
returns-in-None-clause-none c e =
    over-both c.args.f.now c.args.old.now c.args.k c.cable-c.result c.cable-c.ensures
    (subst (HasNoPathBy c.args.f.now c.args.old.now) c.new.ensures (c.path_by.ensures.none (c.in_ok-path.was ∙ ap Ok c.in-None.is)))
    (subst (HasNoPathBy c.args.f.now c.args.old.now) c.new-in-None.ensures (c.path_by-in-None.ensures.none e))
