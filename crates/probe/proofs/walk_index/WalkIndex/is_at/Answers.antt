use Rattle.std.proofs.Common.{Some, ap, sym, ◌∙◌}
use Rattle.std.specs.Cmp.Rules.{signed_items}
use Rattle.probe.proofs.walk_index.WalkIndex.is_at.Goals as goal

pub returns-then-at-len : goal.returns-then-at-len
returns-then-at-len c = λ e. c.walk.ensures ∙ ap Some ((signed_items c.walk.result.now c.args.turns.now).0 (sym c.eq.ensures ∙ e))
