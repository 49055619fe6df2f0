use Rattle.std.proofs.Common.{◌-◌, length, sym, ap, ◌∙◌}
use Rattle.std.specs.Prelude.{option_copied}
use Rattle.map_defs.specs.Orientation.{order_of}
use Rattle.route_calc.specs.Hosts.{AreWaysOf}
use Rattle.route_calc.proofs.Hanging.{slice-holds}
use Rattle.route_calc.proofs.pairs.last_moved.Goals as goal

pub ways_beside-requires-clause-from : goal.ways_beside-requires-clause-from
ways_beside-requires-clause-from c =
    let m = c.args.m.now in
    let others = c.args.others.now in
    slice-holds (AreWaysOf m (order_of m)) others (length others - 1) c.in-Some.from.now c.requires.others (sym c.last.ensures.value ∙ ap option_copied c.in-Some.is)
