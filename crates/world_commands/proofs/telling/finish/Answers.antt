use Rattle.run_defs.specs.declared.command.Command.TheVariants.{Finish}
use Rattle.world_commands.specs.Cut.{IsLeft}
use Rattle.world_commands.proofs.Cut.{in-line, finish_left}
use Rattle.world_commands.proofs.telling.finish.Goals as goal

pub returns-clause-err : goal.returns-clause-err
returns-clause-err c = in-line c.one_line.result (IsLeft Finish c.args.w.now c.args.w.now) (finish_left c.args.w.now) c.one_line.ensures.err
