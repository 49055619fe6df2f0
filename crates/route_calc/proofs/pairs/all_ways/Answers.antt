use Rattle.std.proofs.Common.{◌≡◌, ◌+◌, ◌++◌, ◌∷◌, [], List, sym, ap, subst, ◌∙◌}
use Rattle.map_defs.specs.Orientation.{order_of}
use Rattle.std.specs.List.{AllByRecursion}
use Rattle.route_calc.specs.Hosts.{HostWays, AreWaysOf}
use Rattle.route_calc.proofs.Gathered.{Gathered, gathered-skip, gathered-more}
use Rattle.route_calc.proofs.pairs.all_ways.Goals as goal
use Rattle.route_calc.proofs.pairs.all_ways.Goals.{in-Some+in_ok-way+in_ok-push, in_default}

pub loop-a-preserved : goal.loop-a-preserved
loop-a-preserved c =
    let m = c.args.m.now in
    let a = c.loop-a.a in
    elim c.match-vertex_of_host.branch [
      | in-Some+in_ok-way+in_ok-push w ↦
          (let way = w.in_ok-way.way in
          let is : c.match-vertex_of_host.ways.items ≡ c.loop-a.ways.items ++ way ∷ [] = ap (λ v. v.items) w.ways-is ∙ w.in_ok-push.ensures.items in
          subst (λ (ws : List HostWays). Gathered m (order_of m) ws (a + 1)) (sym is) (gathered-more m (order_of m) c.loop-a.ways.items a way c.loop-a.invariant w.in_ok-way.ensures.host w.in_ok-way.ensures.ways))
      | in_default w ↦
          subst (λ (ws : List HostWays). Gathered m (order_of m) ws (a + 1)) (sym (ap (λ v. v.items) w.ways-is)) (gathered-skip m (order_of m) c.loop-a.ways.items a c.loop-a.invariant (sym c.vertex_of_host.ensures.vertex ∙ w.in_default.is))
    ]

pub next_ways-requires-clause-others : goal.next_ways-requires-clause-others
next_ways-requires-clause-others c =
    subst (AllByRecursion (AreWaysOf c.args.m.now (order_of c.args.m.now))) (sym c.deref.ensures.value) c.loop-a.invariant.each
