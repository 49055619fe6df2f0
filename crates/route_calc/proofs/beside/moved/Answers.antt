use Rattle.std.proofs.Common.{◌≡◌, ◌<◌, ℕ, List, length, true, sym, ap, subst, ◌∙◌}
use Rattle.map_defs.specs.Orientation.{order_of}
use Rattle.route_calc.specs.declared.entered.Exit.{Exit}
use Rattle.route_calc.specs.Beside.{are_hung, far_beside, AreFirstsBeside}
use Rattle.route_calc.specs.Exits.{all_exits, exits_at}
use Rattle.route_calc.specs.Far.{place_in, AreDistances}
use Rattle.route_calc.specs.Firsts.{AreFirst}
use Rattle.route_calc.specs.Hosts.{HostWays, AreWaysOf}
use Rattle.route_calc.proofs.Hanging.{are-beside, has-room, far-long, firsts-long, beside-distances, beside-firsts}
use Rattle.route_calc.proofs.Least.{host-at}
use Rattle.route_calc.proofs.beside.moved.Goals as goal

pub far_beside-requires-clause-first : goal.far_beside-requires-clause-first
far_beside-requires-clause-first c =
    let m = c.args.m.now in
    let from = c.args.from.now in
    let low = (host-at m from.host from.vertex c.requires.from.is_vertex).there in
    subst (λ (l : List ℕ). place_in c.vertex.result true < length l) (sym c.far.ensures) (subst (λ v. place_in v true < length from.far) (sym c.vertex.ensures) (has-room m from.far from.vertex c.requires.from.long low))

pub far_beside-requires-clause-second : goal.far_beside-requires-clause-second
far_beside-requires-clause-second c =
    let m = c.args.m.now in
    let from = c.args.from.now in
    let low = (host-at m c.args.host.0 c.args.host.1 c.requires.host).there in
    subst (λ (l : List ℕ). place_in c.args.host.1 true < length l) (sym c.far.ensures) (has-room m from.far c.args.host.1 c.requires.from.long low)

pub firsts_beside-requires-clause-far : goal.firsts_beside-requires-clause-far
firsts_beside-requires-clause-far c =
    let m = c.args.m.now in
    let order = order_of m in
    let from = c.args.from.now in
    let s = c.args.s in
    let v = c.args.host.1 in
    let hung : are_hung m s from.vertex v (exits_at (all_exits m order) s) ≡ true = subst (λ (es : List (List Exit)). are_hung m s from.vertex v (exits_at es s) ≡ true) c.requires.exits c.requires.hung in
    let both = are-beside m order s from.vertex v from.host c.args.host.0 c.vertices.ensures.is_map.is_map (host-at m from.host from.vertex c.requires.from.is_vertex) (host-at m c.args.host.0 v c.requires.host) hung in
    subst (λ n. place_in s true < n) (sym (ap length (c.deref.ensures.value ∙ c.in_ok-far.ensures) ∙ far-long c.far.result.now c.vertex.result v ∙ ap length c.far.ensures)) (has-room m from.far s c.requires.from.long both.there)

pub firsts_beside-requires-clause-firsts : goal.firsts_beside-requires-clause-firsts
firsts_beside-requires-clause-firsts c =
    let m = c.args.m.now in
    let order = order_of m in
    let from = c.args.from.now in
    let s = c.args.s in
    let v = c.args.host.1 in
    let hung : are_hung m s from.vertex v (exits_at (all_exits m order) s) ≡ true = subst (λ (es : List (List Exit)). are_hung m s from.vertex v (exits_at es s) ≡ true) c.requires.exits c.requires.hung in
    let both = are-beside m order s from.vertex v from.host c.args.host.0 c.vertices.ensures.is_map.is_map (host-at m from.host from.vertex c.requires.from.is_vertex) (host-at m c.args.host.0 v c.requires.host) hung in
    subst (λ (l : List ℕ). place_in s true < length l) (sym c.firsts.ensures) (has-room m from.firsts s (c.requires.from.firsts_long ∙ c.requires.from.long) both.there)

pub returns-clause-ways : goal.returns-clause-ways
returns-clause-ways c =
    let m = c.args.m.now in
    let order = order_of m in
    let from = c.args.from.now in
    let s = c.args.s in
    let h = c.args.host.0 in
    let v = c.args.host.1 in
    let new = c.in_ok-far.far.items in
    let numbers = c.in_ok-firsts.firsts.items in
    let is_map = c.vertices.ensures.is_map.is_map in
    let host = host-at m h v c.requires.host in
    let hung : are_hung m s from.vertex v (exits_at (all_exits m order) s) ≡ true = subst (λ (es : List (List Exit)). are_hung m s from.vertex v (exits_at es s) ≡ true) c.requires.exits c.requires.hung in
    let both = are-beside m order s from.vertex v from.host h is_map (host-at m from.host from.vertex c.requires.from.is_vertex) host hung in
    let is : new ≡ far_beside from.far from.vertex v = c.in_ok-far.ensures ∙ (λ i. far_beside (c.far.ensures i) (c.vertex.ensures i) v) in
    let far : c.deref.result.now ≡ far_beside from.far from.vertex v = c.deref.ensures.value ∙ is in
    let old : AreFirstsBeside (all_exits m order) (far_beside from.far from.vertex v) s from.firsts numbers =
    subst (λ (l : List ℕ). AreFirstsBeside (all_exits m order) (far_beside from.far from.vertex v) s l numbers) c.firsts.ensures
    (subst (λ (l : List ℕ). AreFirstsBeside (all_exits m order) l s c.firsts.result.now numbers) far
    (subst (λ (es : List (List Exit)). AreFirstsBeside es c.deref.result.now s c.firsts.result.now numbers) c.requires.exits c.in_ok-firsts.ensures)) in
    let long : length new ≡ length from.far = ap length is ∙ far-long from.far from.vertex v in
    subst (AreWaysOf m order) (sym c.of.ensures) (record {
      is_vertex = c.requires.host;
      starts = c.entered_by-start.ensures.value;
      are_distances = subst (λ (l : List ℕ). AreDistances m order v l) (sym is) (beside-distances m order s v h from host c.requires.from both);
      are_first = subst (λ (l : List ℕ). AreFirst (all_exits m order) l numbers) (sym is) (beside-firsts m order s v h from numbers is_map host c.requires.from both old);
      long = long ∙ c.requires.from.long;
      firsts_long = firsts-long (all_exits m order) (far_beside from.far from.vertex v) s from.firsts numbers old ∙ c.requires.from.firsts_long ∙ sym long;
    })

pub returns-clause-host : goal.returns-clause-host
returns-clause-host c = ap (λ (w : HostWays). w.host) c.of.ensures
