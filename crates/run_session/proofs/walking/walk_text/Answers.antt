use Rattle.world_commands.proofs.Cut.{walk_left}
use Rattle.run_session.proofs.walking.walk_text.Goals as goal

pub returns-in_default-clause-err : goal.returns-in_default-clause-err
returns-in_default-clause-err c = walk_left c.args.w.now c.args.host c.args.turns.now
