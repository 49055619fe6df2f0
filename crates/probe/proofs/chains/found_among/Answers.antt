use Rattle.std.proofs.Common.{Some, ap, sym, ◌∙◌}
use Rattle.net_defs.proofs.Turns.{same_turns-true}
use Rattle.probe.proofs.Indexing.{walk-met, walk-passed}
use Rattle.probe.proofs.chains.found_among.Goals as goal

pub loop-at-preserved : goal.loop-at-preserved
loop-at-preserved g c = walk-passed (g.W.WalkList.list c.args.walks.now) c.loop-at.at c.turns_at.result.now c.args.turns.now c.turns_at.ensures (sym c.is_same.ensures ∙ c.if-is_same.false) c.loop-at.invariant

pub returns-then-is_same-clause-place : goal.returns-then-is_same-clause-place
returns-then-is_same-clause-place g c = c.turns_at.ensures ∙ ap Some (same_turns-true c.turns_at.result.now c.args.turns.now (sym c.is_same.ensures ∙ c.if-is_same.true))

pub returns-then-is_same-clause-found : goal.returns-then-is_same-clause-found
returns-then-is_same-clause-found g c = sym (walk-met (g.W.WalkList.list c.args.walks.now) c.loop-at.at c.turns_at.result.now c.args.turns.now c.turns_at.ensures (sym c.is_same.ensures ∙ c.if-is_same.true))
