use Rattle.fabric_file.proofs.Printed.{printed-cable, cable-there}
use Rattle.fabric_file.proofs.printing.print_cables.Goals as goal

pub cable_line-requires-clause-a : goal.cable_line-requires-clause-a
cable_line-requires-clause-a c = (cable-there c.args.f.now c.loop-k.k c.cable.result c.requires c.cable.ensures).0

pub cable_line-requires-clause-b : goal.cable_line-requires-clause-b
cable_line-requires-clause-b c = (cable-there c.args.f.now c.loop-k.k c.cable.result c.requires c.cable.ensures).1

pub loop-k-preserved : goal.loop-k-preserved
loop-k-preserved c =
    printed-cable c.args.f.now c.loop-k.k c.args.text.now.items c.loop-k.text.items c.cable_line.new.text.items c.cable.result c.cable.ensures c.loop-k.invariant c.in_ok-cable_line.ensures
