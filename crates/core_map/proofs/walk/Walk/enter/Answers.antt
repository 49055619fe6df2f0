use Rattle.std.proofs.Common.{◌<◌, sym, subst}
use Rattle.core_map.specs.Walking.{IsWalk, weight}
use Rattle.core_map.proofs.Entering.{entered-walk, entered-smaller}
use Rattle.core_map.proofs.walk.Walk.enter.Goals as goal

pub returns-clause-walk : goal.returns-clause-walk
returns-clause-walk c =
    subst (IsWalk c.args.m.now) (sym c.in_ok-add.ensures)
    (entered-walk c.args.m.now c.args.self.now c.args.i c.args.v c.args.w c.last-next.result c.requires.walk c.requires.from c.requires.met c.requires.new c.requires.joined c.last-next.ensures c.requires.vertex)

pub returns-clause-smaller : goal.returns-clause-smaller
returns-clause-smaller c =
    subst (λ t. weight c.args.m.now t < weight c.args.m.now c.args.self.now) (sym c.in_ok-add.ensures)
    (entered-smaller c.args.m.now c.args.self.now c.args.i c.args.v c.args.w c.last-next.result c.requires.walk c.requires.from c.requires.met c.requires.new c.requires.joined c.last-next.ensures c.requires.vertex)
