use Rattle.std.proofs.Common.{refl, sym, ap, ◌∙◌}
use Rattle.std.specs.List.{list_all}
use Rattle.std.proofs.lemmas.Bool.{false≢true}
use Rattle.fab_judge.specs.Checks.{is_between}
use Rattle.fab_judge.proofs.Astray.{accepted, refused, not-between}
use Rattle.fab_judge.proofs.route_checks.are_right.Goals as goal

pub returns-in-Ok : goal.returns-in-Ok
returns-in-Ok c =
    accepted c.args.map.now c.args.routes.now c.args.ranks.now (sym (ap (list_all is_between) c.list.ensures.value) ∙ sym c.are_between.ensures ∙ c.if-are_between.true)
    (c.in-Ok.ensures.certified.0 refl)

pub returns-in-Err : goal.returns-in-Err
returns-in-Err c = refused c.args.map.now c.args.routes.now c.args.ranks.now (λ h. false≢true (c.in-Err.ensures.certified.1 h))

pub returns-else-are_between : goal.returns-else-are_between
returns-else-are_between c =
    not-between c.args.map.now c.args.routes.now c.args.ranks.now (sym (ap (list_all is_between) c.list.ensures.value) ∙ sym c.are_between.ensures ∙ c.if-are_between.false)
