use Rattle.std.proofs.Common.{◌≡◌, ◌+◌, ℕ, suc, List, [], take, refl, subst, sym, arith}
use Rattle.net_defs.specs.Network.{Network}
use Rattle.world_defs.specs.World.{fabric_of}
use Rattle.run_defs.specs.declared.command.Command.{Command}
use Rattle.run_defs.specs.declared.figure.Figure.{Figure}
use Rattle.fabric_run.specs.Generated.{HaveCounted}
use Rattle.fabric_run.proofs.Naming.{on-vertices}
use Rattle.fabric_run.proofs.Counting.{none-counted, more-counted}
use Rattle.fabric_run.proofs.generated.run_commands.Goals as goal

pub loop-command-init : goal.loop-command-init
loop-command-init c =
    let n : Network = fabric_of c.args.session.world in
    record {
      counted = subst (λ (figures : List Figure). HaveCounted n [] figures c.args.session) (sym c.new-figures.ensures.items)
          (none-counted n c.args.commands.now c.args.session c.requires.fresh);
      vertices = (refl, refl);
    }

pub loop-command-preserved : goal.loop-command-preserved
loop-command-preserved c =
    let n : Network = fabric_of c.args.session.world in
    let cs : List Command = c.args.commands.now in
    let i : ℕ = c.loop-command.command-index in
    let next : suc i ≡ i + 1 = omega arith in
    record {
      counted = subst (λ k. HaveCounted n (take k cs) c.run_command.new.figures.items c.in_ok-session.session) next
          (more-counted n cs i c.loop-command.session c.in_ok-session.session c.command-item.result c.loop-command.figures.items c.run_command.new.figures.items
          c.loop-command-test.true c.command-item.is c.loop-command.invariant.counted c.in_ok-session.ensures.counted);
      vertices = on-vertices n c.loop-command.session c.in_ok-session.session c.loop-command.invariant.vertices c.in_ok-session.ensures.vertices;
    }
