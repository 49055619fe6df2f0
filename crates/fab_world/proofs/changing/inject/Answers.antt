use Rattle.std.proofs.Common.{ap, sym, ◌∙◌}
use Rattle.world_defs.specs.World.{fabric_of}
use Rattle.fab_world.proofs.Following.{inject-follows}
use Rattle.fab_world.proofs.changing.inject.Goals as goal

pub returns-clause-follows : goal.returns-clause-follows
returns-clause-follows c =
    inject-follows c.args.machine.now c.inject.new.self c.args.host c.in_ok-effect.effect c.next_pull-planned.result c.args.fabric.now c.strike.new.fabric
    c.requires.its_own c.next_pull-planned.ensures c.in_ok-effect.ensures.ok c.strike.ensures

pub returns-in_err-effect-clause-follows : goal.returns-in_err-effect-clause-follows
returns-in_err-effect-clause-follows c = c.requires.its_own ∙ sym (ap fabric_of c.in_err-effect.ensures.err)
