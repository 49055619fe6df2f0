use Rattle.std.proofs.Common.{◌-◌}
use Rattle.run_session.proofs.Asks.{made-from, made-goes, rises-from, begun-from, begun-goes, of-given}
use Rattle.run_session.proofs.mapping.map_world.Goals as goal

pub overflow_sub-packets : goal.overflow_sub-packets
overflow_sub-packets c =
    rises-from c.args.world c.args.order c.new-p.result c.make_map-made.new.p c.in-Ok.made c.into_world-world.result c.injected-before.result c.injected.result
    c.new-p.ensures c.into_world-world.ensures c.injected-before.ensures c.injected.ensures c.in-Ok.ensures.made

pub returns-in-Ok-clause-mapped : goal.returns-in-Ok-clause-mapped
returns-in-Ok-clause-mapped c =
    made-from c.args.world c.args.order c.new-p.result c.make_map-made.new.p c.in-Ok.made c.into_world-world.result c.injected-before.result c.injected.result
    c.new-p.ensures c.into_world-world.ensures c.injected-before.ensures c.injected.ensures c.count_fits.ensures c.in-Ok.ensures.made

pub returns-in-Ok-clause-of_fabric : goal.returns-in-Ok-clause-of_fabric
returns-in-Ok-clause-of_fabric c = of-given c.args.world c.args.order c.new-p.result c.in-Ok.made.map c.new-p.ensures c.in-Ok.ensures.of_fabric

pub returns-in-Ok-clause-cables : goal.returns-in-Ok-clause-cables
returns-in-Ok-clause-cables c =
    made-goes c.args.world c.args.order c.into_world-world.result c.in-Ok.made (c.injected.result - c.injected-before.result)
    (made-from c.args.world c.args.order c.new-p.result c.make_map-made.new.p c.in-Ok.made c.into_world-world.result c.injected-before.result c.injected.result
    c.new-p.ensures c.into_world-world.ensures c.injected-before.ensures c.injected.ensures c.count_fits.ensures c.in-Ok.ensures.made)

pub returns-in-Err-clause-begun : goal.returns-in-Err-clause-begun
returns-in-Err-clause-begun c =
    begun-from c.args.world c.args.order c.new-p.result c.make_map-made.new.p c.into_world-world.result c.new-p.ensures c.into_world-world.ensures c.in-Err.ensures.stopped

pub returns-in-Err-clause-cables : goal.returns-in-Err-clause-cables
returns-in-Err-clause-cables c =
    begun-goes c.args.order.host c.args.order.depth c.args.order.tries c.args.world c.into_world-world.result
    (begun-from c.args.world c.args.order c.new-p.result c.make_map-made.new.p c.into_world-world.result c.new-p.ensures c.into_world-world.ensures c.in-Err.ensures.stopped)
