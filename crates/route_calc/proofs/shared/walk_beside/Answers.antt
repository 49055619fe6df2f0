use Rattle.std.proofs.Common.{◌≡◌, List, Option, IfSome, true, sym, ap, subst, ◌∙◌, w8, to_z, of_z}
use Rattle.std.specs.Prelude.{ℤ, option_copied}
use Rattle.std.specs.List.{list_all}
use Rattle.net_defs.specs.Turn.{is_turn}
use Rattle.map_defs.specs.Orientation.{order_of}
use Rattle.map_defs.specs.Routing.{IsLeastLegal}
use Rattle.route_calc.specs.Beside.{turns_moved}
use Rattle.route_calc.proofs.Showing.{apart-fits, shown-apart}
use Rattle.route_calc.proofs.shared.walk_beside.Goals as goal

pub moved-requires : goal.moved-requires
moved-requires c =
    let m = c.args.m.now in
    let from = c.args.from.now in
    let other = c.args.other.now in
    let to = c.args.to.now in
    let more = c.in-Some-ports_apart.more in
    let walk = c.in-Some.walk.now in
    let is_map = c.vertices.ensures.is_map.is_map in
    let told = sym c.ports_apart.ensures ∙ c.in-Some-ports_apart.is in
    let back : to_z w8 (of_z w8 more) ≡ more = apart-fits m (order_of m) other.vertex to.vertex other.start to.start more is_map c.requires.other.starts c.requires.to.starts told in
    let least = subst (λ (o : Option (List ℤ)). IfSome o (IsLeastLegal m (order_of m) from.host other.host)) (ap option_copied c.in-Some.is) c.requires.walk in
    let s = shown-apart m (order_of m) from.vertex other.vertex to.vertex from.host other.host to.host other.start to.start more walk
    is_map c.requires.from.is_vertex c.requires.other.is_vertex c.requires.to.is_vertex c.requires.other.starts c.requires.to.starts told least in
    record { some = s.some; turns = subst (λ z. list_all is_turn (turns_moved z walk) ≡ true) (sym back) s.turns }

pub returns-in_ok-moved-in-Some-ports_apart : goal.returns-in_ok-moved-in-Some-ports_apart
returns-in_ok-moved-in-Some-ports_apart c =
    let m = c.args.m.now in
    let from = c.args.from.now in
    let other = c.args.other.now in
    let to = c.args.to.now in
    let more = c.in-Some-ports_apart.more in
    let walk = c.in-Some.walk.now in
    let is_map = c.vertices.ensures.is_map.is_map in
    let told = sym c.ports_apart.ensures ∙ c.in-Some-ports_apart.is in
    let back : to_z w8 (of_z w8 more) ≡ more = apart-fits m (order_of m) other.vertex to.vertex other.start to.start more is_map c.requires.other.starts c.requires.to.starts told in
    let least = subst (λ (o : Option (List ℤ)). IfSome o (IsLeastLegal m (order_of m) from.host other.host)) (ap option_copied c.in-Some.is) c.requires.walk in
    let s = shown-apart m (order_of m) from.vertex other.vertex to.vertex from.host other.host to.host other.start to.start more walk
    is_map c.requires.from.is_vertex c.requires.other.is_vertex c.requires.to.is_vertex c.requires.other.starts c.requires.to.starts told least in
    subst (IsLeastLegal m (order_of m) from.host to.host) (sym (c.in_ok-moved-in-Some-ports_apart.ensures ∙ ap (λ z. turns_moved z walk) back)) s.least
