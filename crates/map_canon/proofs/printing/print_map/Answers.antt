use Rattle.std.proofs.Common.{sym, subst}
use Rattle.map_canon.specs.Printing.{IsReadBack}
use Rattle.map_canon.proofs.Printed.{printed-whole}
use Rattle.map_canon.proofs.ReadBack.{map-read-back}
use Rattle.map_canon.proofs.printing.print_map.Goals as goal

pub returns-clause-text : goal.returns-clause-text
returns-clause-text c =
    printed-whole c.args.f.now c.args.m.now c.new-text.result.items c.print_vertices.new.text.items c.print_cables.new.text.items c.append_line.new.text.items
    c.new-text.ensures.items c.in_ok-print_vertices.ensures c.in_ok-print_cables.ensures c.in_ok-append_line.ensures

pub returns-clause-read_back : goal.returns-clause-read_back
returns-clause-read_back c =
    subst (IsReadBack c.args.f.now c.args.m.now)
    (sym (printed-whole c.args.f.now c.args.m.now c.new-text.result.items c.print_vertices.new.text.items c.print_cables.new.text.items c.append_line.new.text.items
    c.new-text.ensures.items c.in_ok-print_vertices.ensures c.in_ok-print_cables.ensures c.in_ok-append_line.ensures))
    (map-read-back c.args.f.now c.args.m.now c.vertices.ensures.is_map c.requires)
