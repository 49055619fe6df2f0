use Rattle.std.proofs.Common.{sym}
use Rattle.world_defs.specs.Later.{IsLater}
use Rattle.run_defs.specs.declared.command.Command.TheVariants.{Step}
use Rattle.world_commands.specs.Cut.{IsLeft, IsEventLeft}
use Rattle.world_commands.proofs.Answered.{if-err}
use Rattle.world_commands.proofs.Cut.{in-line, step_left, idle_left}
use Rattle.world_commands.proofs.stepping.step.Goals as goal

pub returns-in-Some-clause-err : goal.returns-in-Some-clause-err
returns-in-Some-clause-err c =
    let w = c.args.w.now in
    let v = c.event_text.new.w in
    if-err c.event_text.result (IsEventLeft c.in-Some.event w v) (IsLeft (Step c.args.line) w v) (λ e. step_left w v c.args.line c.in-Some.event e (sym c.in-Some.ensures.event)) c.event_text.ensures.err

pub returns-in-None-clause-err : goal.returns-in-None-clause-err
returns-in-None-clause-err c = in-line c.one_line.result (IsLeft (Step c.args.line) c.args.w.now c.args.w.now) (idle_left c.args.w.now c.args.line (sym c.in-None.ensures.event)) c.one_line.ensures.err

pub returns-in-None-clause-cables : goal.returns-in-None-clause-cables
returns-in-None-clause-cables c = IsLater.still
