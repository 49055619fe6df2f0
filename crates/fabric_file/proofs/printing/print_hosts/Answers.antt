use Rattle.std.proofs.Common.{arith}
use Rattle.fabric_file.proofs.Printed.{printed-host}
use Rattle.fabric_file.proofs.printing.print_hosts.Goals as goal

pub loop-host-preserved : goal.loop-host-preserved
loop-host-preserved c =
    printed-host c.args.f.now c.loop-host.host c.args.text.now.items c.loop-host.text.items c.host_line.new.text.items c.name_of.result.now
    (omega (arith, c.hosts-host-end.ensures.count)) c.name_of.ensures c.loop-host.invariant c.in_ok-host_line.ensures
