use Rattle.std.proofs.Common.{◌≡◌, ℕ, Bool, length, rules, sym, ap, subst, ◌∙◌}
use Rattle.std.proofs.lemmas.Bool.{false≢true}
use Rattle.map_defs.specs.Orientation.{order_of}
use Rattle.route_calc.specs.Lowering.{IsLowest, AreLowest, sweep}
use Rattle.route_calc.proofs.Lowered.{all-settled-more}
use Rattle.route_calc.proofs.distances.lower_all.Goals as goal
use Rattle.route_calc.proofs.distances.lower_all.Goals.{then-lower_at, else-lower_at}

pub loop-k-preserved : goal.loop-k-preserved
loop-k-preserved c =
    let m = c.args.m.now in
    let order = order_of m in
    let k = c.loop-k.k in
    let at : sweep (length m.vertices) k ≡ (c.sweep-v.result.0, c.sweep-v.result.1) = ap (λ l. sweep (length l) k) (sym c.vertices-count.ensures.value) ∙ sym c.sweep-v.ensures.value in
    record {
      step = search rules;
      settled = elim c.if-lower_at.branch [
        | then-lower_at w ↦ (λ e. absurd (false≢true (sym e ∙ w.lowers-is)))
        | else-lower_at w ↦
            (λ e. all-settled-more m order c.lower_at.new.far k (subst (λ f. AreLowest m order f k) (sym (c.lower_at.ensures.step.same w.if-lower_at.false)) (c.loop-k.invariant.settled (sym w.lowers-is ∙ e))) (subst (λ (s : ℕ × Bool). IsLowest m order c.lower_at.new.far s.0 s.1) (sym at) (c.lower_at.ensures.settled w.if-lower_at.false)))
      ];
      swept = λ num. c.lower_at.ensures.swept k num at (c.loop-k.invariant.swept num);
    }
