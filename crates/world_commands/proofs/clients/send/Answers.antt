use Rattle.std.proofs.Common.{refl}
use Rattle.world_defs.specs.declared.event.Event.TheVariants.{Send as SendEvent}
use Rattle.world_commands.specs.Done.{sending}
use Rattle.run_defs.specs.declared.line.ClientCall.TheVariants.{Send as SendCall}
use Rattle.world_commands.proofs.Calls.{message_given, event-given, event-client, event-call}
use Rattle.world_commands.proofs.clients.send.Goals as goal

pub call-requires-clause-client : goal.call-requires-clause-client
call-requires-clause-client c = event-client (SendEvent c.args.at.host c.args.at.port c.args.m.to.host c.args.m.to.port c.args.m.prio c.args.m.len c.args.m.seed) c.send-event.result tt c.send-event.ensures

pub call-requires-clause-given : goal.call-requires-clause-given
call-requires-clause-given c = event-given c.args.w.now (SendEvent c.args.at.host c.args.at.port c.args.m.to.host c.args.m.to.port c.args.m.prio c.args.m.len c.args.m.seed) c.send-event.result (message_given c.args.w.now c.args.at.host c.args.m.to.host c.args.at.port c.args.m.to.port c.args.m.prio c.moment.ensures.kept c.requires.host c.requires.dest c.requires.port c.requires.dport c.requires.prio) c.send-event.ensures

pub returns-clause-done : goal.returns-clause-done
returns-clause-done c = c.call.ensures.done (sending c.args.at c.args.m) (event-call (sending c.args.at c.args.m) SendCall c.args.at (SendEvent c.args.at.host c.args.at.port c.args.m.to.host c.args.m.to.port c.args.m.prio c.args.m.len c.args.m.seed) c.send-event.result refl c.send-event.ensures)

pub returns-clause-err : goal.returns-clause-err
returns-clause-err c = c.call.ensures.err (sending c.args.at c.args.m) (event-call (sending c.args.at c.args.m) SendCall c.args.at (SendEvent c.args.at.host c.args.at.port c.args.m.to.host c.args.m.to.port c.args.m.prio c.args.m.len c.args.m.seed) c.send-event.result refl c.send-event.ensures)
