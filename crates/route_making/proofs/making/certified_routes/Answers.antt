use Rattle.std.proofs.Common.{◌≡◌, ℕ, List, length, ap, sym, subst, ◌∙◌}
use Rattle.map_defs.specs.Orientation.{IsOrder, order_of}
use Rattle.map_defs.specs.Ranks.{ranks_of}
use Rattle.map_defs.proofs.Places.{places_are_an_order}
use Rattle.updown.specs.Oriented.{Oriented}
use Rattle.rank_cert.proofs.Checked.{one_order-certified, one_order-faultless}
use Rattle.route_making.proofs.making.certified_routes.Goals as goal

pub certify-requires : goal.certify-requires
certify-requires c =
    let m = c.args.m.now in
    let order : c.order.result.now ≡ order_of m = c.order.ensures ∙ ap (λ (o : Oriented). o.order) c.in_ok-o.ensures in
    subst (λ (l : List ℕ). IsOrder l (length m.vertices)) (sym order) (places_are_an_order m)

pub returns-clause-certified : goal.returns-clause-certified
returns-clause-certified c =
    let m = c.args.m.now in
    let order : c.order.result.now ≡ order_of m = c.order.ensures ∙ ap (λ (o : Oriented). o.order) c.in_ok-o.ensures in
    (one_order-certified m c.in_ok-ranks.ranks c.in_ok-set.set c.vertices.ensures.is_map.is_map (record {
      order = order_of m;
      is_order = places_are_an_order m;
      routes_of = c.in_ok-set.ensures;
      ranks_are = c.in_ok-ranks.ensures ∙ ap (ranks_of m) order;
    })).1

pub returns-clause-faultless : goal.returns-clause-faultless
returns-clause-faultless c =
    let m = c.args.m.now in
    let order : c.order.result.now ≡ order_of m = c.order.ensures ∙ ap (λ (o : Oriented). o.order) c.in_ok-o.ensures in
    one_order-faultless m c.in_ok-ranks.ranks c.in_ok-set.set c.vertices.ensures.is_map.is_map (record {
      order = order_of m;
      is_order = places_are_an_order m;
      routes_of = c.in_ok-set.ensures;
      ranks_are = c.in_ok-ranks.ensures ∙ ap (ranks_of m) order;
    })
