use Rattle.std.proofs.Common.{arith}
use Rattle.fabric_file.proofs.Printed.{printed-switch}
use Rattle.fabric_file.proofs.printing.print_switches.Goals as goal

pub loop-switch-preserved : goal.loop-switch-preserved
loop-switch-preserved c =
    printed-switch c.args.f.now c.loop-switch.switch c.args.text.now.items c.loop-switch.text.items c.switch_line.new.text.items c.name_of.result.now c.ports.result
    (omega (arith, c.switches-switch-end.ensures.count)) c.name_of.ensures c.ports.ensures c.loop-switch.invariant c.in_ok-switch_line.ensures
