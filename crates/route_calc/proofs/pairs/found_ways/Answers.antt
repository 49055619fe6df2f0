use Rattle.std.proofs.Common.{Some, sym, ap, subst, ◌∙◌}
use Rattle.map_defs.specs.Orientation.{order_of}
use Rattle.map_defs.specs.Routing.{vertex_of_host}
use Rattle.route_calc.specs.Far.{AreDistances}
use Rattle.route_calc.specs.Firsts.{AreFirst}
use Rattle.route_calc.specs.Ways.{entered_by}
use Rattle.route_calc.proofs.Least.{host_start, host-at}
use Rattle.route_calc.proofs.pairs.found_ways.Goals as goal

pub returns-clause-ways : goal.returns-clause-ways
returns-clause-ways c =
    let m = c.args.m.now in
    let way = c.in_ok-way.way in
    record {
      is_vertex = ap (vertex_of_host m) c.in_ok-way.ensures.host ∙ c.requires.host ∙ ap Some (sym c.in_ok-way.ensures.vertex);
      starts = c.in_ok-way.ensures.start ∙ ap (λ v. entered_by m (order_of m) (host_start v)) (sym c.in_ok-way.ensures.vertex);
      are_distances = subst (λ v. AreDistances m (order_of m) v way.far) (sym c.in_ok-way.ensures.vertex) c.in_ok-way.ensures.distances;
      are_first = subst (λ es. AreFirst es way.far way.firsts) c.requires.exits c.in_ok-way.ensures.first;
      long = c.in_ok-way.ensures.long;
      firsts_long = c.in_ok-way.ensures.firsts;
    }

pub to-requires-clause-vertex : goal.to-requires-clause-vertex
to-requires-clause-vertex c = (host-at c.args.m.now c.args.host.0 c.args.host.1 c.requires.host).there
