use Rattle.fab_world.proofs.Following.{other-still, still-follows}
use Rattle.fab_world.proofs.changing.step.Goals as goal

pub step-requires-clause-still : goal.step-requires-clause-still
step-requires-clause-still c = other-still c.args.e.now c.in_default.not-Inject c.in_default.not-Pull c.in_default.not-Plug

pub returns-in_default-clause-follows : goal.returns-in_default-clause-follows
returns-in_default-clause-follows c =
    still-follows c.args.machine.now c.step.new.self c.args.e.now c.step.result c.args.fabric.now (other-still c.args.e.now c.in_default.not-Inject c.in_default.not-Pull c.in_default.not-Plug)
    c.requires.its_own c.step.ensures.ok c.step.ensures.err
