use Rattle.std.proofs.Common.{◌≡◌, true, sym, ap, ◌∙◌, subst}
use Rattle.std.specs.Prelude.{◌↔◌}
use Rattle.std.specs.List.{list_all}
use Rattle.answer_defs.specs.Right.{AreWhole}
use Rattle.fab_judge.specs.Checks.{reaches_all}
use Rattle.fab_judge.proofs.Pairs.{whole}
use Rattle.fab_judge.proofs.whole.are_whole.Goals as goal

pub returns : goal.returns
returns c =
    let rs = c.args.routes.now in
    subst (λ b. (b ≡ true) ↔ AreWhole c.args.map.now rs)
    (sym (c.all_reach_all.ensures ∙ ap (λ vs. list_all (reaches_all rs vs) vs) c.vertices.ensures.value))
    (whole c.args.map.now rs)
