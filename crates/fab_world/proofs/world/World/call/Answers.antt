use Rattle.fab_world.proofs.Calling.{says-no_other}
use Rattle.fab_world.proofs.world.World.call.Goals as goal

pub unreachable-requires : goal.unreachable-requires
unreachable-requires c =
    says-no_other c.args.self.now c.step.new.self c.args.e c.in_ok-effect.effect c.requires.client c.requires.given c.in_ok-effect.ensures.ok c.in_default.not-Said
