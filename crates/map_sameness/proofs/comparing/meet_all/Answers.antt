use Rattle.std.proofs.Common.{arith}
use Rattle.map_sameness.proofs.Loops.{below-next, below-all}
use Rattle.map_sameness.proofs.comparing.meet_all.Goals as goal

pub loop-port-preserved : goal.loop-port-preserved
loop-port-preserved c =
    below-next c.args.f.now c.args.m.now c.args.pairing.now c.loop-port.pairing c.meet.new.pairing c.args.v c.args.i c.loop-port.port c.loop-port.invariant
    (c.in_ok-meet.ensures.met c.if-not-branch.false)

pub returns-clause-met : goal.returns-clause-met
returns-clause-met c =
    λ e. below-all c.args.f.now c.args.m.now c.args.pairing.now c.loop-port.pairing c.args.v c.args.i c.loop-port.port
    (let ports = c.ports-port-end.ensures in let past = c.loop-port-test.false in omega (arith, ports, past)) c.loop-port.invariant
