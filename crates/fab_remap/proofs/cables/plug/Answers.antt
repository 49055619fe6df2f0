use Rattle.std.proofs.Common.{sym}
use Rattle.world_defs.specs.Later.{IsLater}
use Rattle.fab_remap.proofs.Possible.{plug-event}
use Rattle.fab_remap.proofs.cables.plug.Goals as goal

pub returns-in-Some-clause-cables : goal.returns-in-Some-clause-cables
returns-in-Some-clause-cables c = IsLater.still

pub returns-clause-event : goal.returns-clause-event
returns-clause-event c = plug-event c.args.w.now c.step.new.self c.args.a c.args.b c.in-Ok._effect (sym c.in_default.ensures) c.in-Ok.ensures.ok
