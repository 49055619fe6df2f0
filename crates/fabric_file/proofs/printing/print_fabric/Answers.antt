use Rattle.std.proofs.Common.{sym, subst}
use Rattle.fabric_file.specs.Printing.{IsReadBack}
use Rattle.fabric_file.proofs.Printed.{printed-whole}
use Rattle.fabric_file.proofs.ReadBack.{fabric-read-back}
use Rattle.fabric_file.proofs.printing.print_fabric.Goals as goal

pub returns-clause-read_back : goal.returns-clause-read_back
returns-clause-read_back c = λ named.
    subst (IsReadBack c.args.f.now)
    (sym (printed-whole c.args.f.now c.new-text.result.items c.print_hosts.new.text.items c.print_switches.new.text.items c.print_cables.new.text.items
    c.new-text.ensures.items c.in_ok-print_hosts.ensures.text c.in_ok-print_switches.ensures c.in_ok-print_cables.ensures))
    (fabric-read-back c.args.f.now c.print_hosts.ensures.fabric named)
