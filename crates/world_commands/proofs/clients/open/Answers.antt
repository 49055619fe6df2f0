use Rattle.std.proofs.Common.{refl}
use Rattle.world_defs.specs.declared.event.Event.TheVariants.{Begin as BeginEvent}
use Rattle.run_defs.specs.declared.command.Command.TheVariants.{Begin}
use Rattle.run_defs.specs.declared.line.ClientCall.TheVariants.{Begin as BeginCall}
use Rattle.world_commands.proofs.Calls.{port_given, event-given, event-client, event-call}
use Rattle.world_commands.proofs.clients.open.Goals as goal

pub call-requires-clause-client : goal.call-requires-clause-client
call-requires-clause-client c = event-client (BeginEvent c.args.at.host c.args.at.port c.args.sends c.args.recvs) c.begin-event.result tt c.begin-event.ensures

pub call-requires-clause-given : goal.call-requires-clause-given
call-requires-clause-given c = event-given c.args.w.now (BeginEvent c.args.at.host c.args.at.port c.args.sends c.args.recvs) c.begin-event.result (port_given c.args.w.now c.args.at.host c.args.at.port c.moment.ensures.kept c.requires.host c.requires.port) c.begin-event.ensures

pub returns-clause-done : goal.returns-clause-done
returns-clause-done c = c.call.ensures.done (Begin c.args.at.host c.args.at.port c.args.sends c.args.recvs) (event-call (Begin c.args.at.host c.args.at.port c.args.sends c.args.recvs) BeginCall c.args.at (BeginEvent c.args.at.host c.args.at.port c.args.sends c.args.recvs) c.begin-event.result refl c.begin-event.ensures)

pub returns-clause-err : goal.returns-clause-err
returns-clause-err c = c.call.ensures.err (Begin c.args.at.host c.args.at.port c.args.sends c.args.recvs) (event-call (Begin c.args.at.host c.args.at.port c.args.sends c.args.recvs) BeginCall c.args.at (BeginEvent c.args.at.host c.args.at.port c.args.sends c.args.recvs) c.begin-event.result refl c.begin-event.ensures)
