use Rattle.fab_world.proofs.Following.{pull-follows}
use Rattle.fab_world.proofs.changing.pull.Goals as goal

pub returns-clause-follows : goal.returns-clause-follows
returns-clause-follows c = pull-follows c.args.machine.now c.pull.new.self c.args.at c.pull.result c.args.fabric.now c.remove_cable.new.self c.requires c.pull.ensures c.remove_cable.ensures
