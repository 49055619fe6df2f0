use Rattle.fab_world.proofs.Following.{refused-plug}
use Rattle.fab_world.proofs.changing.plug.Goals as goal

pub returns-in-Err-clause-ok : goal.returns-in-Err-clause-ok
returns-in-Err-clause-ok c =
    refused-plug c.args.machine.now c.args.a c.args.b c.args.fabric.now c.add_cable.result c.in-Err.fault c.refused.result c.requires c.in-Err.is c.add_cable.ensures.refused c.refused.ensures
