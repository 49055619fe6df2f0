use Rattle.std.proofs.Common.{◌≡◌, ◌≤◌, ◌+◌, ◌-◌, true, length, map, take}
use Rattle.std.specs.Prelude.{vec_len, vec_capacity}
use Rattle.std.specs.List.{list_all}
use Rattle.world_defs.specs.Mapping.{RouteEntry}
use Rattle.net_defs.specs.declared.route.Route.{Route}
use Rattle.route_install.specs.Collecting.{is_fit}
use Rattle.route_install.proofs.cut.entries_of.Given as goal

abbrev pub invariant-loop-r : goal.invariant-loop-r
invariant-loop-r l = record {
  value : l.entries.items ≡ map {A = Route} {B = RouteEntry} (λ r. record { to = r.to; walk = r.walk }) (take l.r-index l.routes);
  fit : list_all is_fit l.entries.items ≡ true;
  room : vec_len l.entries + (length l.routes - l.r-index) ≤ vec_capacity l.entries;
}
