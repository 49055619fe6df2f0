use Rattle.std.proofs.Common.{◌≡◌, length, ap, sym, ◌∙◌, arith}
use Rattle.map_defs.specs.Orientation.{order_of}
use Rattle.route_calc.specs.Exits.{exits_of}
use Rattle.route_calc.proofs.Listed.{exits-long, exits-index}
use Rattle.route_calc.proofs.Numbered.{numbered-by}
use Rattle.route_calc.proofs.numbering.is_numbered.Goals as goal

pub bounds-exits-v : goal.bounds-exits-v
bounds-exits-v c =
    let long : length c.args.exits.now ≡ length c.args.m.now.vertices = ap length c.requires.exits ∙ exits-long c.args.m.now (order_of c.args.m.now) in
    let low = c.requires.vertex in
    omega arith

pub returns-then-is_switch : goal.returns-then-is_switch
returns-then-is_switch c e =
    let m = c.args.m.now in
    let order = order_of m in
    let are : c.list.result.now ≡ exits_of m order c.args.v = c.list.ensures.value ∙ c.index-exits-v.is ∙ exits-index m order c.args.exits.now c.args.v c.index-exits-v.result c.requires.exits c.requires.vertex in
    numbered-by m order c.args.v c.list.result.now are (sym c.lead_in_order.ensures ∙ e)
