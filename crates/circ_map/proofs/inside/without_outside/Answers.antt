use Rattle.std.proofs.Common.{length, sym, subst, ◌∙◌}
use Rattle.circ_map.specs.Inside.{IsRising}
use Rattle.circ_map.proofs.Without.{marked-rising}
use Rattle.circ_map.proofs.inside.without_outside.Goals as goal

pub bare-requires-clause-rising : goal.bare-requires-clause-rising
bare-requires-clause-rising c = subst IsRising (sym (c.deref.ensures.value ∙ c.in_ok-kept.ensures.kept)) (marked-rising c.core.result.now (length c.core.result.now))

pub join_kept-requires-clause-rising : goal.join_kept-requires-clause-rising
join_kept-requires-clause-rising c = subst IsRising (sym (c.deref-2.ensures.value ∙ c.in_ok-kept.ensures.kept)) (marked-rising c.core.result.now (length c.core.result.now))
