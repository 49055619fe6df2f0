use Rattle.fab_world.proofs.Following.{plug-follows}
use Rattle.fab_world.proofs.changing.plug_links.Goals as goal

pub returns-clause-follows : goal.returns-clause-follows
returns-clause-follows c =
    plug-follows c.args.machine.now c.plug-effect.new.self c.args.a c.args.b c.plug-effect.result c.args.fabric.now c.keep.new.fabric c.requires.free c.requires.joined c.plug-effect.ensures.ok c.plug-effect.ensures.err c.keep.ensures
