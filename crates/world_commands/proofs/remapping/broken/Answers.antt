use Rattle.std.proofs.Common.{◌∷◌, [], ◌∙◌, ap}
use Rattle.std.proofs.lemmas.Result.{on_ok_weaker}
use Rattle.world_defs.specs.World.{WorldState}
use Rattle.run_defs.specs.declared.command.Command.TheVariants.{Broken}
use Rattle.run_defs.specs.declared.line.Line.TheVariants.{NoBroken}
use Rattle.run_defs.specs.Output.{OneLine}
use Rattle.fab_report.specs.Printed.{printed_of}
use Rattle.world_commands.specs.Cut.{IsLeft}
use Rattle.world_commands.proofs.Cabled.{some-adopted, none-adopted, broken_all, broken_none, broken_left, broken_refused_left}
use Rattle.world_commands.proofs.Cut.{in-line}
use Rattle.world_commands.proofs.remapping.broken.Goals as goal

pub returns-in-Ok-clause-done : goal.returns-in-Ok-clause-done
returns-in-Ok-clause-done c =
    let w : WorldState = c.args.w.now in
    let a = some-adopted w.adopted c.in-Some._set.now c.in-Some.ensures in
    broken_all w a.0 c.print_broken.new.printed a.1 c.in-Ok.ensures

pub returns-in_default-clause-err : goal.returns-in_default-clause-err
returns-in_default-clause-err c =
    let w : WorldState = c.args.w.now in
    let a = some-adopted w.adopted c.in-Some._set.now c.in-Some.ensures in
    broken_left w a.0 a.1

pub returns-in-None-clause-done : goal.returns-in-None-clause-done
returns-in-None-clause-done c =
    let w : WorldState = c.args.w.now in
    on_ok_weaker c.one_line.result
    (λ e. broken_none w c.one_line.new.printed (none-adopted w.adopted c.in-None.ensures) (e ∙ ap (λ n. printed_of n (OneLine NoBroken ∷ [])) c.fabric.ensures))
    c.one_line.ensures.printed

pub returns-in-None-clause-err : goal.returns-in-None-clause-err
returns-in-None-clause-err c = in-line c.one_line.result (IsLeft Broken c.args.w.now c.args.w.now) (broken_refused_left c.args.w.now) c.one_line.ensures.err
