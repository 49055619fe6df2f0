use Rattle.std.proofs.Common.{◌≤◌, take}
use Rattle.world_defs.specs.World.{fabric_of}
use Rattle.fabric_run.specs.Ends.{HasVerticesOf, HaveRun}
use Rattle.fabric_run.proofs.top.run_commands.Given as goal

abbrev pub invariant-loop-command : goal.invariant-loop-command
invariant-loop-command g l = record {
  ran : HaveRun (fabric_of l.initial.session.world) (take l.command-index l.commands) (g.K.Sink.taken l.initial.out) (g.K.Sink.taken l.out) l.session;
  vertices : HasVerticesOf (fabric_of l.initial.session.world) l.session;
  later : g.K.Sink.faults l.initial.out ≤ g.K.Sink.faults l.out;
}
