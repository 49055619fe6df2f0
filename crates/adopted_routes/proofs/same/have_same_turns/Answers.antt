use Rattle.std.proofs.Common.{ap, ◌∙◌}
use Rattle.net_defs.specs.Turn.{same_turns}
use Rattle.adopted_routes.proofs.SameRoutes.{turns-agree}
use Rattle.adopted_routes.proofs.same.have_same_turns.Goals as goal

pub returns : goal.returns
returns c =
    c.eq.ensures ∙ turns-agree c.turns.result.now c.turns-2.result.now ∙ ap (λ v. same_turns v c.turns-2.result.now) c.turns.ensures.value ∙ ap (same_turns c.args.walk.now) c.turns-2.ensures.value
