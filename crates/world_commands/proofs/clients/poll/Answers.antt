use Rattle.std.proofs.Common.{refl}
use Rattle.world_defs.specs.declared.event.Event.TheVariants.{Poll as PollEvent}
use Rattle.run_defs.specs.declared.command.Command.TheVariants.{Poll}
use Rattle.run_defs.specs.declared.line.ClientCall.TheVariants.{Poll as PollCall}
use Rattle.world_commands.proofs.Calls.{port_given, event-given, event-client, event-call}
use Rattle.world_commands.proofs.clients.poll.Goals as goal

pub call-requires-clause-client : goal.call-requires-clause-client
call-requires-clause-client c = event-client (PollEvent c.args.at.host c.args.at.port) c.poll.result tt c.poll.ensures

pub call-requires-clause-given : goal.call-requires-clause-given
call-requires-clause-given c = event-given c.args.w.now (PollEvent c.args.at.host c.args.at.port) c.poll.result (port_given c.args.w.now c.args.at.host c.args.at.port c.moment.ensures.kept c.requires.host c.requires.port) c.poll.ensures

pub returns-clause-done : goal.returns-clause-done
returns-clause-done c = c.call.ensures.done (Poll c.args.at.host c.args.at.port) (event-call (Poll c.args.at.host c.args.at.port) PollCall c.args.at (PollEvent c.args.at.host c.args.at.port) c.poll.result refl c.poll.ensures)

pub returns-clause-err : goal.returns-clause-err
returns-clause-err c = c.call.ensures.err (Poll c.args.at.host c.args.at.port) (event-call (Poll c.args.at.host c.args.at.port) PollCall c.args.at (PollEvent c.args.at.host c.args.at.port) c.poll.result refl c.poll.ensures)
