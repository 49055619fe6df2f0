-- Computed distances in a fabric are those of shortest paths.
use Rattle.std.proofs.Common.{◌≡◌, ◌<◌, ◌≤◌, ℕ, zero, suc, List, [], ◌∷◌, ◌++◌, map, length, Bool, true, false, not, ◌||◌, Some, sym, ◌∙◌, subst, ap, refl, arith, ◌⊎◌, inl, inr, if◌then◌else◌, max, cond}
use Rattle.std.specs.Bool.{Decides}
use Rattle.std.specs.List.{list_any, filter}
use Rattle.std.proofs.lemmas.Bool.{false≢true, cases_order}
use Rattle.std.proofs.lemmas.Bool.Decides.{nat_tests}
use Rattle.std.proofs.lemmas.List.{map-append}
use Rattle.net_defs.specs.declared.vertex.Vertex.{Vertex}
use Rattle.net_defs.specs.declared.vertex.Vertex.TheVariants.{Host, Switch}
use Rattle.net_defs.specs.declared.vertex.End.{End}
use Rattle.net_defs.specs.declared.vertex.Cable.{Cable}
use Rattle.net_defs.specs.Network.{Network, IsFabric, Apart, ends_of, far_end, has_port, has_vertex, same_end, same_vertex}
use Rattle.net_defs.specs.Route.{IsEntered}
use Rattle.net_defs.proofs.Ends.{same_vertex-true, same_vertex-refl, same_end-true, same_end-refl, same_end-false}
use Rattle.net_defs.proofs.Places.{far-there, place_at-there}
use Rattle.journal_defs.specs.Counting.{numbers_below, greatest}
use Rattle.journal_defs.specs.Edges.{IsEdge, Steps, is_among}
use Rattle.journal_defs.specs.Edges.Steps.{start, step}
use Rattle.journal_defs.specs.Part.{Path, IsInPart, edges_of, vertices, near, distance, part, is_host, to_a_host, host_distance}
use Rattle.journal_defs.specs.Part.Path.{here, over}
use Rattle.journal_defs.specs.DistanceLaws.{DistanceIsShortest, PartIsReached, PartIsNear, HostsAreNear}
use Rattle.journal_defs.proofs.Order.{or-left}
use Rattle.net_defs.proofs.Cabling.{far_end-back, far_end-holds}
use Rattle.journal_defs.proofs.Reach.{among-left, among-right, among-parts, among-self, steps-within, within-steps, steps-back}
use Rattle.journal_defs.proofs.Simple.{Holds, Stays, count-found, short-steps, within-stays, shortest, none-shorter}

pub vertex_decides : (v w : Vertex) → Decides (same_vertex v w) (v ≡ w)
vertex_decides v w = (same_vertex-true v w, (λ e. ap (same_vertex v) (sym e) ∙ same_vertex-refl v))

-- the edges of the cables are what ports lead over
far-edge : (cs : List Cable) (d e : End) → far_end cs d ≡ Some e → IsEdge (edges_of cs) d.v e.v
far-edge [] d e f = cc
far-edge (c ∷ cs) d e f = by (same_end c.a d) (same_end c.b d) refl refl f (far-edge cs d e)
  where
    by : (s t : Bool) → same_end c.a d ≡ s → same_end c.b d ≡ t → (if s then Some c.b else if t then Some c.a else far_end cs d) ≡ Some e → (far_end cs d ≡ Some e → IsEdge (edges_of cs) d.v e.v) → IsEdge (edges_of (c ∷ cs)) d.v e.v
    by true t p q g rest = inl (ap (λ (x : End). x.v) (same_end-true c.a d p), (let to : c.b ≡ e = cc in ap (λ (x : End). x.v) to))
    by false true p q g rest = inr (inl (ap (λ (x : End). x.v) (same_end-true c.b d q), (let to : c.a ≡ e = cc in ap (λ (x : End). x.v) to)))
    by false false p q g rest = inr (inr (rest g))

-- ports that a cable joins
record Ported (cs : List Cable) (v w : Vertex) : Type 0 where
  pub from : ℕ
  pub to : ℕ
  pub cable : far_end cs (record { v = v; p = from }) ≡ Some (record { v = w; p = to })

ported-at : (cs : List Cable) (d e : End) (v w : Vertex) → d.v ≡ v → e.v ≡ w → far_end cs d ≡ Some e → Ported cs v w
ported-at cs d e v w p q f = subst (λ z. Ported cs z w) p (subst (λ z. Ported cs d.v z) q (record { from = d.p; to = e.p; cable = f }))

edge-far : (cs : List Cable) (v w : Vertex) → Apart (ends_of cs) → IsEdge (edges_of cs) v w → Ported cs v w
edge-far [] v w apart e = absurd e
edge-far (c ∷ cs) v w apart (inl p) = ported-at (c ∷ cs) c.a c.b v w p.0 p.1 (rw (same_end-refl c.a) refl)
edge-far (c ∷ cs) v w apart (inr (inl p)) = ported-at (c ∷ cs) c.b c.a v w p.0 p.1 (rw (same_end-false c.a c.b apart.0.0, same_end-refl c.b) refl)
edge-far (c ∷ cs) v w apart (inr (inr e)) = later (edge-far cs v w apart.1.1 e)
  where
    later : Ported cs v w → Ported (c ∷ cs) v w
    later h =
        let d : End = record { v = v; p = h.from } in
        let e : End = record { v = w; p = h.to } in
        let other : far_end cs e ≡ Some d = far_end-back cs d e apart.1.1 h.cable in
        let not_a = far_end-holds cs (λ x. c.a ≡ x → ⊥) e d apart.0.1 other in
        let not_b = far_end-holds cs (λ x. c.b ≡ x → ⊥) e d apart.1.0 other in
        record { from = h.from; to = h.to; cable = rw (same_end-false c.a d not_a, same_end-false c.b d not_b) h.cable }

pub path-steps : (n : Network) (x y : Vertex) (k : ℕ) → Path n x k y → Steps (edges_of n.cables) x k y
path-steps n x y k (here) = start
path-steps n x y k (over {m = j} {v = v} {w = w} p a b c) = step (path-steps n x v j p) (far-edge n.cables (record { v = v; p = a }) (record { v = w; p = b }) c)

pub steps-path : (n : Network) (x y : Vertex) (k : ℕ) → IsFabric n → Steps (edges_of n.cables) x k y → Path n x k y
steps-path n x y k f (start) = here
steps-path n x y k f (step {m = j} {v = v} {w = w} p e) = let h = edge-far n.cables v w f.ports_once e in over (steps-path n x v j f p) h.from h.to h.cable

-- the vertices of a fabric
number-below : (f : ℕ → Vertex) (n k : ℕ) → k < n → is_among same_vertex (map f (numbers_below n)) (f k) ≡ true
number-below f zero k l = absurd (omega arith)
number-below f (suc n) k l =
    subst (λ vs. is_among same_vertex vs (f k) ≡ true) (sym (map-append f (numbers_below n) (n ∷ []))) (by (cases_order k n) (number-below f n k))
  where
    by : (k ≡ n) ⊎ ((k < n) ⊎ (n < k)) → (k < n → is_among same_vertex (map f (numbers_below n)) (f k) ≡ true) → is_among same_vertex (map f (numbers_below n) ++ f n ∷ []) (f k) ≡ true
    by (inl e) rest = among-right same_vertex vertex_decides (map f (numbers_below n)) (f n ∷ []) (f k) (or-left (same_vertex (f k) (f n)) false (ap (λ i. same_vertex (f k) (f i)) (sym e) ∙ same_vertex-refl (f k)))
    by (inr (inl a)) rest = among-left same_vertex vertex_decides (map f (numbers_below n)) (f n ∷ []) (f k) (rest a)
    by (inr (inr a)) rest = absurd (omega arith)

pub vertex-listed : (n : Network) (v : Vertex) → has_vertex n v ≡ true → is_among same_vertex (vertices n) v ≡ true
vertex-listed n (Host h) e = among-left same_vertex vertex_decides (map Host (numbers_below (length n.hosts))) (map Switch (numbers_below (length n.switches))) (Host h) (number-below Host (length n.hosts) h (grind (arith, nat_tests)))
vertex-listed n (Switch s) e = among-right same_vertex vertex_decides (map Host (numbers_below (length n.hosts))) (map Switch (numbers_below (length n.switches))) (Switch s) (number-below Switch (length n.switches) s (grind (arith, nat_tests)))

pub port-vertex : (n : Network) (v : Vertex) (p : ℕ) → has_port n (record { v = v; p = p }) ≡ true → has_vertex n v ≡ true
port-vertex n (Host h) p e = place_at-there n (Some (record { v = Host h; p = p })) e
port-vertex n (Switch s) p e = place_at-there n (Some (record { v = Switch s; p = p })) e

edge-vertex : (n : Network) (v w : Vertex) → IsFabric n → IsEdge (edges_of n.cables) v w → has_vertex n w ≡ true
edge-vertex n v w f e =
    let h = edge-far n.cables v w f.ports_once e in
    port-vertex n w h.to (subst (IsEntered n) h.cable (far-there n (record { v = v; p = h.from }) f))

holds : (n : Network) (x : Vertex) → IsFabric n → has_vertex n x ≡ true → Holds same_vertex (edges_of n.cables) (vertices n) x
holds n x f h = record { first = vertex-listed n x h; others = λ v w e. vertex-listed n w (edge-vertex n v w f e) }

pub path-vertex : (n : Network) (x y : Vertex) (k : ℕ) → IsFabric n → has_vertex n x ≡ true → Path n x k y → has_vertex n y ≡ true
path-vertex n x y k f h (here) = h
path-vertex n x y k f h (over {v = v} {w = w} p a b c) = edge-vertex n v w f (far-edge n.cables (record { v = v; p = a }) (record { v = w; p = b }) c)

pub distance_is_shortest : DistanceIsShortest
distance_is_shortest n x y m f h p = record {
  path = steps-path n x y (distance n x y) f (shortest same_vertex vertex_decides (edges_of n.cables) (vertices n) x y m (holds n x f h) (path-steps n x y m p));
  least = λ k q. none-shorter same_vertex vertex_decides (edges_of n.cables) (vertices n) x y k (holds n x f h) (path-steps n x y k q);
}

-- the part
filter-among : (test : Vertex → Bool) (vs : List Vertex) (v : Vertex) → is_among same_vertex (filter test vs) v ≡ true → test v ≡ true
filter-among test [] v e = absurd (false≢true e)
filter-among test (u ∷ us) v e = by (test u) refl e (filter-among test us v)
  where
    by : (b : Bool) → test u ≡ b → is_among same_vertex (cond b (u ∷ filter test us) (filter test us)) v ≡ true → (is_among same_vertex (filter test us) v ≡ true → test v ≡ true) → test v ≡ true
    by false p f rest = rest f
    by true p f rest = more (among-parts same_vertex vertex_decides v u (filter test us) f)
      where
        more : (v ≡ u) ⊎ (is_among same_vertex (filter test us) v ≡ true) → test v ≡ true
        more (inl q) = ap test q ∙ p
        more (inr q) = rest q

among-filter : (test : Vertex → Bool) (vs : List Vertex) (v : Vertex) → test v ≡ true → is_among same_vertex vs v ≡ true → is_among same_vertex (filter test vs) v ≡ true
among-filter test [] v t e = e
among-filter test (u ∷ us) v t e = by (test u) refl (among-parts same_vertex vertex_decides v u us e) (among-filter test us v t)
  where
    by : (b : Bool) → test u ≡ b → (v ≡ u) ⊎ (is_among same_vertex us v ≡ true) → (is_among same_vertex us v ≡ true → is_among same_vertex (filter test us) v ≡ true) → is_among same_vertex (cond b (u ∷ filter test us) (filter test us)) v ≡ true
    by true p (inl q) rest = or-left (same_vertex v u) (is_among same_vertex (filter test us) v) ((vertex_decides v u).1 q)
    by true p (inr q) rest = more (same_vertex v u) (rest q)
      where
        more : (b : Bool) → is_among same_vertex (filter test us) v ≡ true → (b || is_among same_vertex (filter test us) v) ≡ true
        more true e = refl
        more false e = e
    by false p (inl q) rest = absurd (false≢true (sym p ∙ ap test (sym q) ∙ t))
    by false p (inr q) rest = rest q

pub part_is_reached : PartIsReached
part_is_reached n host v f h = (there, back)
  where
    there : is_among same_vertex (part n host) v ≡ true → IsInPart n host v
    there e =
        let close = filter-among (is_among same_vertex (near n (Host host) (length (vertices n)))) (vertices n) v e in
        let p = within-steps same_vertex vertex_decides (edges_of n.cables) (Host host) v (length (vertices n)) close in
        record { cables = p.count; path = steps-path n (Host host) v p.count f p.path }

    back : IsInPart n host v → is_among same_vertex (part n host) v ≡ true
    back i =
        let s = short-steps same_vertex vertex_decides (edges_of n.cables) (vertices n) (Host host) v i.cables (holds n (Host host) f h) (path-steps n (Host host) v i.cables i.path) in
        among-filter (is_among same_vertex (near n (Host host) (length (vertices n)))) (vertices n) v (steps-within same_vertex vertex_decides (edges_of n.cables) (Host host) v s.count (length (vertices n)) s.path (let g = s.few in omega arith)) (vertex-listed n v (path-vertex n (Host host) v i.cables f h i.path))

greatest-bounds : (g : Vertex → ℕ) (vs : List Vertex) (v : Vertex) → is_among same_vertex vs v ≡ true → g v ≤ greatest (map g vs)
greatest-bounds g [] v e = absurd (false≢true e)
greatest-bounds g (u ∷ us) v e = by (among-parts same_vertex vertex_decides v u us e) (greatest-bounds g us v)
  where
    by : (v ≡ u) ⊎ (is_among same_vertex us v ≡ true) → (is_among same_vertex us v ≡ true → g v ≤ greatest (map g us)) → g v ≤ max (g u) (greatest (map g us))
    by (inl q) rest = let same : g v ≡ g u = ap g q in omega arith
    by (inr q) rest = let le = rest q in omega arith

pub part_is_near : PartIsNear
part_is_near n host v f h i = greatest-bounds (distance n (Host host)) (part n host) v ((part_is_reached n host v f h).1 i)

-- a list that holds a host
any-host : (vs : List Vertex) → list_any is_host vs ≡ true → (a : ℕ) × (is_among same_vertex vs (Host a) ≡ true)
any-host [] e = absurd (false≢true e)
any-host (Host a ∷ vs) e = (a, among-self same_vertex vertex_decides (Host a) vs)
any-host (Switch s ∷ vs) e = let more = any-host vs e in (more.0, more.1)

host-any : (vs : List Vertex) (a : ℕ) → is_among same_vertex vs (Host a) ≡ true → list_any is_host vs ≡ true
host-any [] a e = absurd (false≢true e)
host-any (Host b ∷ vs) a e = refl
host-any (Switch s ∷ vs) a e = host-any vs a e

host-stays : (n : Network) (x : Vertex) → Stays (λ m. list_any is_host (near n x m))
host-stays n x m k l e =
    let a = any-host (near n x m) e in
    host-any (near n x k) a.0 (within-stays same_vertex vertex_decides (edges_of n.cables) x (Host a.0) m k l a.1)

pub hosts_are_near : HostsAreNear
hosts_are_near n host s f h i =
    let x : Vertex = Switch s in
    let es = edges_of n.cables in
    let back = steps-back es (Host host) x i.cables (path-steps n (Host host) x i.cables i.path) in
    let short = short-steps same_vertex vertex_decides es (vertices n) x (Host host) i.cables (holds n x f (path-vertex n (Host host) x i.cables f h i.path)) back in
    let found = count-found (length (vertices n)) (λ m. list_any is_host (near n x m)) short.count (host-stays n x) short.few (host-any (near n x short.count) host (steps-within same_vertex vertex_decides es x (Host host) short.count short.count short.path (omega arith))) in
    let close = any-host (near n x (to_a_host n x)) found.passes in
    let path = within-steps same_vertex vertex_decides es x (Host close.0) (to_a_host n x) close.1 in
    let listed = among-filter (λ v. not (is_host v)) (part n host) x refl ((part_is_reached n host x f h).1 i) in
    let most : to_a_host n x ≤ host_distance n host = greatest-bounds (to_a_host n) (filter (λ v. not (is_host v)) (part n host)) x listed in
    record { address = close.0; cables = path.count; path = steps-path n x (Host close.0) path.count f path.path; few = (let g = path.few in omega arith) }
