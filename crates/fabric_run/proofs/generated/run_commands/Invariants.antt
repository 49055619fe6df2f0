use Rattle.std.proofs.Common.{take}
use Rattle.world_defs.specs.World.{fabric_of}
use Rattle.fabric_run.specs.Ends.{HasVerticesOf}
use Rattle.fabric_run.specs.Generated.{HaveCounted}
use Rattle.fabric_run.proofs.generated.run_commands.Given as goal

abbrev pub invariant-loop-command : goal.invariant-loop-command
invariant-loop-command l = record {
  counted : HaveCounted (fabric_of l.initial.session.world) (take l.command-index l.commands) l.figures.items l.session;
  vertices : HasVerticesOf (fabric_of l.initial.session.world) l.session;
}
