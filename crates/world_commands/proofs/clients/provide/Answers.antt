use Rattle.std.proofs.Common.{refl}
use Rattle.world_defs.specs.declared.event.Event.TheVariants.{Provide as ProvideEvent}
use Rattle.run_defs.specs.declared.command.Command.TheVariants.{Provide}
use Rattle.run_defs.specs.declared.line.ClientCall.TheVariants.{Provide as ProvideCall}
use Rattle.world_commands.proofs.Calls.{port_given, event-given, event-client, event-call}
use Rattle.world_commands.proofs.clients.provide.Goals as goal

pub call-requires-clause-client : goal.call-requires-clause-client
call-requires-clause-client c = event-client (ProvideEvent c.args.at.host c.args.at.port c.args.size c.args.prio) c.provide-event.result tt c.provide-event.ensures

pub call-requires-clause-given : goal.call-requires-clause-given
call-requires-clause-given c = event-given c.args.w.now (ProvideEvent c.args.at.host c.args.at.port c.args.size c.args.prio) c.provide-event.result (port_given c.args.w.now c.args.at.host c.args.at.port c.moment.ensures.kept c.requires.host c.requires.port) c.provide-event.ensures

pub returns-clause-done : goal.returns-clause-done
returns-clause-done c = c.call.ensures.done (Provide c.args.at.host c.args.at.port c.args.size c.args.prio) (event-call (Provide c.args.at.host c.args.at.port c.args.size c.args.prio) ProvideCall c.args.at (ProvideEvent c.args.at.host c.args.at.port c.args.size c.args.prio) c.provide-event.result refl c.provide-event.ensures)

pub returns-clause-err : goal.returns-clause-err
returns-clause-err c = c.call.ensures.err (Provide c.args.at.host c.args.at.port c.args.size c.args.prio) (event-call (Provide c.args.at.host c.args.at.port c.args.size c.args.prio) ProvideCall c.args.at (ProvideEvent c.args.at.host c.args.at.port c.args.size c.args.prio) c.provide-event.result refl c.provide-event.ensures)
