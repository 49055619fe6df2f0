use Rattle.std.proofs.Common.{refl}
use Rattle.world_defs.specs.declared.event.Event.TheVariants.{Close as CloseEvent}
use Rattle.run_defs.specs.declared.command.Command.TheVariants.{Close}
use Rattle.run_defs.specs.declared.line.ClientCall.TheVariants.{Close as CloseCall}
use Rattle.world_commands.proofs.Calls.{port_given, event-given, event-client, event-call}
use Rattle.world_commands.proofs.clients.close.Goals as goal

pub call-requires-clause-client : goal.call-requires-clause-client
call-requires-clause-client c = event-client (CloseEvent c.args.at.host c.args.at.port) c.close.result tt c.close.ensures

pub call-requires-clause-given : goal.call-requires-clause-given
call-requires-clause-given c = event-given c.args.w.now (CloseEvent c.args.at.host c.args.at.port) c.close.result (port_given c.args.w.now c.args.at.host c.args.at.port c.moment.ensures.kept c.requires.host c.requires.port) c.close.ensures

pub returns-clause-done : goal.returns-clause-done
returns-clause-done c = c.call.ensures.done (Close c.args.at.host c.args.at.port) (event-call (Close c.args.at.host c.args.at.port) CloseCall c.args.at (CloseEvent c.args.at.host c.args.at.port) c.close.result refl c.close.ensures)

pub returns-clause-err : goal.returns-clause-err
returns-clause-err c = c.call.ensures.err (Close c.args.at.host c.args.at.port) (event-call (Close c.args.at.host c.args.at.port) CloseCall c.args.at (CloseEvent c.args.at.host c.args.at.port) c.close.result refl c.close.ensures)
