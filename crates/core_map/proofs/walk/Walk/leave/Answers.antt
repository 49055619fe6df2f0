use Rattle.std.proofs.Common.{sym, subst, ap, ◌∙◌}
use Rattle.core_map.specs.Walking.{IsWalk, WalkState, with_path, lowered_first}
use Rattle.core_map.proofs.Leaving.{left-walk}
use Rattle.core_map.proofs.walk.Walk.leave.Goals as goal

pub returns-clause-walk : goal.returns-clause-walk
returns-clause-walk c =
    let s = c.args.step in
    subst (IsWalk c.args.m.now) (sym (c.in_ok-lower_last.ensures ∙ ap (λ (t : WalkState). with_path t (lowered_first s.low t.path)) c.mark.ensures))
    (left-walk c.args.m.now c.args.self.now s c.requires.walk c.requires.done)
