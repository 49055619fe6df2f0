use Rattle.core_map.proofs.Beginning.{next-seen}
use Rattle.core_map.proofs.walk.Walk.walk_cable.Goals as goal

pub returns-clause-seen : goal.returns-clause-seen
returns-clause-seen c =
    next-seen c.args.m.now c.args.self.now c.walk_over.new.self c.walk_over-2.new.self c.args.i c.cable_at-c.result c.cable_at-c.ensures.there c.requires.seen
    c.in_ok-walk_over.ensures.grown c.in_ok-walk_over-2.ensures.grown c.in_ok-walk_over.ensures.met c.in_ok-walk_over-2.ensures.met
