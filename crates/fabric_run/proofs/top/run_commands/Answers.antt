use Rattle.std.proofs.Common.{◌≡◌, ◌+◌, ℕ, suc, List, take, Some, Ok, refl, subst, arith}
use Rattle.fab_outer.specs.Whole.{TakesProperPrefix}
use Rattle.std.specs.Io.KnownBytes.{Appends}
use Rattle.world_defs.specs.World.{fabric_of}
use Rattle.run_defs.specs.declared.command.Command.{Command}
use Rattle.fab_report.specs.Printed.{PrintedState}
use Rattle.net_defs.specs.Network.{Network}
use Rattle.run_session.specs.Obeyed.{IsObeyed}
use Rattle.fabric_run.specs.Ends.{HaveRun}
use Rattle.fabric_run.specs.declared.status.Status.TheVariants.{WriteFault, NoMemory}
use Rattle.fabric_run.proofs.Endings.{said-so}
use Rattle.fabric_run.proofs.Naming.{on-vertices}
use Rattle.fabric_run.proofs.Writing.{none-ran, more-ran, cut-ran, interrupted, on_err, on_ok}
use Rattle.fabric_run.proofs.top.run_commands.Goals as goal

pub loop-command-init : goal.loop-command-init
loop-command-init g c = record {
  ran = none-ran (fabric_of c.args.session.world) c.args.commands.now (g.K.Sink.taken c.args.out.now) c.args.session c.requires.fresh;
  vertices = (refl, refl);
  later = omega arith;
}

pub returns-in_default-clause-ends : goal.returns-in_default-clause-ends
returns-in_default-clause-ends g c =
    let n : Network = fabric_of c.args.session.world in
    let cs : List Command = c.args.commands.now in
    said-so (Ok (record { network = n; commands = cs })) (c.loop-command.out ≡ c.args.out.now) (g.K.Sink.taken c.args.out.now) (g.K.Sink.taken c.loop-command.out)
    NoMemory c.with_session.result.status (Some c.perform.new.self) c.with_session.result.session
    c.with_session.ensures.status c.with_session.ensures.some
    (interrupted n cs c.loop-command.command-index _ _ c.loop-command.session c.perform.new.self c.command-item.result c.loop-command-test.true c.command-item.is c.loop-command.invariant.ran
    c.in_default.ensures.cut c.in_default.ensures.kept_map c.in_default.ensures.kept_routes c.in_default.ensures.duo)

pub returns-then-is_err-clause-ends : goal.returns-then-is_err-clause-ends
returns-then-is_err-clause-ends g c =
    let n : Network = fabric_of c.args.session.world in
    let cs : List Command = c.args.commands.now in
    let p : PrintedState = c.perform.new.printed in
    let obeyed : IsObeyed c.loop-command.session c.command-item.result c.perform.new.self p = c.in-Ok.ensures.ok in
    let part : TakesProperPrefix (g.K.Sink.taken c.loop-command.out) (g.K.Sink.taken c.write_all.new.sink) p.text =
    subst (TakesProperPrefix (g.K.Sink.taken c.loop-command.out) (g.K.Sink.taken c.write_all.new.sink)) c.text.ensures
    (on_err c.write_all.result _ c.if-is_err.ensures.value c.write_all.ensures.part) in
    said-so (Ok (record { network = n; commands = cs })) (c.write_all.new.sink ≡ c.args.out.now) (g.K.Sink.taken c.args.out.now) (g.K.Sink.taken c.write_all.new.sink)
    WriteFault c.with_session-then-is_err.result.status (Some c.perform.new.self) c.with_session-then-is_err.result.session
    c.with_session-then-is_err.ensures.status c.with_session-then-is_err.ensures.some
    (cut-ran n cs c.loop-command.command-index _ _ _ c.loop-command.session c.perform.new.self c.command-item.result p
    c.loop-command-test.true c.command-item.is c.loop-command.invariant.ran c.loop-command.invariant.vertices obeyed part)

pub loop-command-preserved : goal.loop-command-preserved
loop-command-preserved g c =
    let n : Network = fabric_of c.args.session.world in
    let cs : List Command = c.args.commands.now in
    let i : ℕ = c.loop-command.command-index in
    let p : PrintedState = c.perform.new.printed in
    let obeyed : IsObeyed c.loop-command.session c.command-item.result c.perform.new.self p = c.in-Ok.ensures.ok in
    let all : Appends (g.K.Sink.taken c.loop-command.out) (g.K.Sink.taken c.write_all.new.sink) p.text =
    subst (Appends (g.K.Sink.taken c.loop-command.out) (g.K.Sink.taken c.write_all.new.sink)) c.text.ensures
    (on_ok c.write_all.result _ c.if-is_err.ensures.value c.write_all.ensures.all) in
    let next : suc i ≡ i + 1 = omega arith in
    record {
      ran = subst (λ k. HaveRun n (take k cs) (g.K.Sink.taken c.args.out.now) (g.K.Sink.taken c.write_all.new.sink) c.perform.new.self) next
          (more-ran n cs i _ _ _ c.loop-command.session c.perform.new.self c.command-item.result p
          c.loop-command-test.true c.command-item.is c.loop-command.invariant.ran c.loop-command.invariant.vertices obeyed all);
      vertices = on-vertices n c.loop-command.session c.perform.new.self c.loop-command.invariant.vertices c.perform.ensures.cables.vertices;
      later = omega (arith, c.loop-command.invariant.later, c.write_all.ensures.cause.later);
    }
