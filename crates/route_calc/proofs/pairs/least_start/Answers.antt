use Rattle.std.proofs.Common.{◌≡◌, ◌<◌, Option, Some, None, true, sym, subst, ◌∙◌}
use Rattle.map_defs.specs.Orientation.{order_of}
use Rattle.route_calc.specs.declared.entered.Entered.{Entered}
use Rattle.route_calc.specs.Reaching.{reaches}
use Rattle.route_calc.specs.Ways.{IsDistance}
use Rattle.route_calc.proofs.Best.{arrival}
use Rattle.route_calc.proofs.Least.{host_start}
use Rattle.route_calc.proofs.Starting.{start-there, start-turn, entered-there, distance-there, distance-low}
use Rattle.route_calc.proofs.pairs.least_start.Goals as goal

pub unreachable-requires : goal.unreachable-requires
unreachable-requires c =
    let m = c.args.m.now in
    let from = c.args.from.now in
    let to = c.args.to.now in
    let s = start-there m from.vertex to.vertex from.host to.host c.vertices.ensures.is_map.is_map c.requires.connected c.requires.from.is_vertex c.requires.to.is_vertex c.requires.differ in
    let there : ◌≡◌ {A = Option Entered} None (Some (arrival m (order_of m) (host_start from.vertex) s.entered)) = sym c.in-None.is ∙ c.start.ensures ∙ c.requires.from.starts ∙ entered-there m to.vertex from.vertex s in
    cc

pub returns-clause-start : goal.returns-clause-start
returns-clause-start c = sym c.requires.from.starts ∙ sym c.start.ensures ∙ c.in-Some.is

pub returns-clause-port : goal.returns-clause-port
returns-clause-port c =
    let m = c.args.m.now in
    start-turn m (order_of m) (host_start c.args.from.now.vertex) c.in-Some.start c.vertices.ensures.is_map.is_map (sym c.requires.from.starts ∙ sym c.start.ensures ∙ c.in-Some.is)

pub returns-clause-distance : goal.returns-clause-distance
returns-clause-distance c =
    let m = c.args.m.now in
    let from = c.args.from.now in
    let to = c.args.to.now in
    let s = start-there m from.vertex to.vertex from.host to.host c.vertices.ensures.is_map.is_map c.requires.connected c.requires.from.is_vertex c.requires.to.is_vertex c.requires.differ in
    let there : ◌≡◌ {A = Option Entered} (Some c.in-Some.start) (Some (arrival m (order_of m) (host_start from.vertex) s.entered)) = sym c.in-Some.is ∙ c.start.ensures ∙ c.requires.from.starts ∙ entered-there m to.vertex from.vertex s in
    let same : ◌≡◌ {A = Entered} (arrival m (order_of m) (host_start from.vertex) s.entered) c.in-Some.start = cc in
    let near = subst (λ (z : Entered). reaches m (order_of m) to.vertex s.leads.channels z.v z.down ≡ true) same s.leads.near in
    subst (λ k. IsDistance m (order_of m) to.vertex k c.in-Some.start.v c.in-Some.start.down) (sym c.distance.ensures) (distance-there m (order_of m) to.vertex s.leads.channels c.in-Some.start.v c.in-Some.start.down to.far c.vertices.ensures.is_map.is_map c.requires.few c.requires.to.are_distances near)

pub returns-clause-few : goal.returns-clause-few
returns-clause-few c =
    let m = c.args.m.now in
    let from = c.args.from.now in
    let to = c.args.to.now in
    let s = start-there m from.vertex to.vertex from.host to.host c.vertices.ensures.is_map.is_map c.requires.connected c.requires.from.is_vertex c.requires.to.is_vertex c.requires.differ in
    let there : ◌≡◌ {A = Option Entered} (Some c.in-Some.start) (Some (arrival m (order_of m) (host_start from.vertex) s.entered)) = sym c.in-Some.is ∙ c.start.ensures ∙ c.requires.from.starts ∙ entered-there m to.vertex from.vertex s in
    let same : ◌≡◌ {A = Entered} (arrival m (order_of m) (host_start from.vertex) s.entered) c.in-Some.start = cc in
    let near = subst (λ (z : Entered). reaches m (order_of m) to.vertex s.leads.channels z.v z.down ≡ true) same s.leads.near in
    subst (λ k. k < 255) (sym c.distance.ensures) (distance-low m (order_of m) to.vertex s.leads.channels c.in-Some.start.v c.in-Some.start.down to.far c.vertices.ensures.is_map.is_map c.requires.few c.requires.to.are_distances near)
