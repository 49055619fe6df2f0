use Rattle.std.proofs.Common.{sym, ◌∙◌}
use Rattle.world_drain.proofs.Sleeping.{step-noted}
use Rattle.world_drain.proofs.advancing.leave.Goals as goal

pub follow-requires-clause-awake : goal.follow-requires-clause-awake
follow-requires-clause-awake c =
    step-noted c.args.w.now c.advance.new.self c.args.c c.in_ok-effect.effect c.hop_of.result c.args.noted.now
    (sym c.channels-few.ensures.count ∙ c.channels-few.ensures.same) c.requires.awake c.in_ok-effect.ensures.ok (sym c.hop_of.ensures)
