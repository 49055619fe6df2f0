use Rattle.std.proofs.Common.{◌≡◌, ◌≤◌, None, List, sym, ap, subst, ◌∙◌, arith}
use Rattle.std.specs.Prelude.{ℤ}
use Rattle.std.proofs.lemmas.Result.{IfOk-weaker}
use Rattle.net_defs.specs.Turn.{walk_refusal}
use Rattle.map_defs.specs.Orientation.{order_of}
use Rattle.map_defs.specs.Routing.{IsLeastLegal}
use Rattle.route_calc.specs.Ways.{best_turns}
use Rattle.route_calc.specs.Turning.{turns_on}
use Rattle.route_calc.specs.Firsts.{AreFirst, FallByOne}
use Rattle.route_calc.proofs.Nearer.{fall-by-one}
use Rattle.route_calc.proofs.Starting.{walk-least, walk-fits}
use Rattle.route_calc.proofs.Turned.{turns-best}
use Rattle.route_calc.proofs.pairs.least_walk.Goals as goal

pub turns-requires-clause-fall : goal.turns-requires-clause-fall
turns-requires-clause-fall c =
    let m = c.args.m.now in
    subst (λ es. FallByOne es c.args.to.now.far) (sym c.requires.exits) (fall-by-one m (order_of m) c.args.to.now.vertex c.args.to.now.far c.vertices.ensures.is_map.is_map c.requires.to.are_distances)

pub turns-requires-clause-first : goal.turns-requires-clause-first
turns-requires-clause-first c = subst (λ es. AreFirst es c.args.to.now.far c.args.to.now.firsts) (sym c.requires.exits) c.requires.to.are_first

pub walk_of-requires : goal.walk_of-requires
walk_of-requires c =
    let m = c.args.m.now in
    let from = c.args.from.now in
    let to = c.args.to.now in
    let s = c.least_start-count in
    let few : s.result.1 ≤ 255 = omega arith in
    let best : turns_on c.args.exits.now to.far s.result.1 s.result.0 ≡ best_turns m (order_of m) to.vertex s.result.1 s.result.0 = ap (λ xs. turns_on xs to.far s.result.1 s.result.0) c.requires.exits ∙ turns-best m (order_of m) to.vertex to.far s.result.1 s.result.0 c.vertices.ensures.is_map.is_map c.requires.to.are_distances few in
    subst (λ (ts : List ℤ). walk_refusal ts ≡ None) (sym (c.deref.ensures.value ∙ c.in_ok-turns.ensures ∙ best)) (walk-fits m (order_of m) s.result.1 from.vertex to.vertex s.result.0 c.vertices.ensures.is_map.is_map c.requires.few s.ensures.start s.ensures.distance)

pub returns : goal.returns
returns c =
    let m = c.args.m.now in
    let from = c.args.from.now in
    let to = c.args.to.now in
    let s = c.least_start-count in
    let few : s.result.1 ≤ 255 = omega arith in
    let best : turns_on c.args.exits.now to.far s.result.1 s.result.0 ≡ best_turns m (order_of m) to.vertex s.result.1 s.result.0 = ap (λ xs. turns_on xs to.far s.result.1 s.result.0) c.requires.exits ∙ turns-best m (order_of m) to.vertex to.far s.result.1 s.result.0 c.vertices.ensures.is_map.is_map c.requires.to.are_distances few in
    let least = walk-least m (order_of m) s.result.1 from.vertex to.vertex from.host to.host s.result.0 c.vertices.ensures.is_map.is_map c.requires.from.is_vertex c.requires.to.is_vertex s.ensures.start s.ensures.distance in
    IfOk-weaker c.walk_of.result (λ w. w ≡ c.deref.result.now) (λ w. IsLeastLegal m (order_of m) from.host to.host w) (λ w e. subst (IsLeastLegal m (order_of m) from.host to.host) (sym (e ∙ c.deref.ensures.value ∙ c.in_ok-turns.ensures ∙ best)) least) c.walk_of.ensures
