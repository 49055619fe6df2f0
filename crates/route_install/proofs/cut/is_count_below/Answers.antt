use Rattle.std.proofs.Common.{sym, subst}
use Rattle.net_defs.specs.RouteSet.{AreRising}
use Rattle.route_install.proofs.Cutting.{rising-drop, rising-take}
use Rattle.route_install.proofs.cut.is_count_below.Goals as goal

pub ends_below-requires : goal.ends_below-requires
ends_below-requires c = subst AreRising (sym c.split_at.ensures.front) (rising-take c.args.count c.args.routes.now c.requires)

pub begins_from-requires : goal.begins_from-requires
begins_from-requires c = subst AreRising (sym c.split_at.ensures.back) (rising-drop c.args.routes.now c.args.count c.requires)
