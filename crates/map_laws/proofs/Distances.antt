-- D and Q are reached.
use Rattle.std.proofs.Common.{◌≡◌, ◌<◌, ◌≤◌, ℕ, zero, suc, ◌+◌, List, [], ◌∷◌, map, length, Bool, true, false, not, ◌∙◌, ap, refl, arith, ◌⊎◌, inl, inr, if◌then◌else◌, cond}
use Rattle.std.specs.List.{list_any, filter}
use Rattle.std.proofs.lemmas.Bool.{false≢true, cases_order}
use Rattle.net_defs.specs.declared.vertex.Vertex.{Vertex}
use Rattle.net_defs.specs.declared.vertex.Vertex.TheVariants.{Host, Switch}
use Rattle.net_defs.specs.Network.{Network, same_vertex}
use Rattle.journal_defs.specs.Counting.{count_failing, greatest}
use Rattle.journal_defs.specs.Edges.{is_among}
use Rattle.journal_defs.specs.Part.{Path, edges_of, vertices, near, distance, part, is_host, to_a_host, host_distance, farthest}
use Rattle.journal_defs.specs.Part.Path.{here}
use Rattle.journal_defs.proofs.Order.{or-right}
use Rattle.journal_defs.proofs.Reach.{among-parts, among-self, steps-within}
use Rattle.journal_defs.proofs.Simple.{Stays, count-found, found-least, within-stays}
use Rattle.journal_defs.proofs.Distance.{vertex_decides, path-steps, distance_is_shortest, part_is_reached}
use Rattle.map_laws.specs.Distances.{IsFarthest, FarthestIsReached, IsRemote, HostDistanceIsReached}

-- a vertex whose number is the greatest
record Met (g : Vertex → ℕ) (vs : List Vertex) : Type 0 where
  v : Vertex
  among : is_among same_vertex vs v ≡ true
  is : greatest (map g vs) ≡ g v

-- the greatest of some numbers is one of them, unless it is 0
greatest-met : (g : Vertex → ℕ) (vs : List Vertex) → (greatest (map g vs) ≡ 0) ⊎ Met g vs
greatest-met g [] = inl refl
greatest-met g (u ∷ us) = by (greatest-met g us) (cases_order (g u) (greatest (map g us)))
  where
    self : greatest (map g us) ≤ g u → Met g (u ∷ us)
    self l = record { v = u; among = among-self same_vertex vertex_decides u us; is = omega arith }

    later : (t : Met g us) → g u < greatest (map g us) → Met g (u ∷ us)
    later t l = record { v = t.v; among = or-right (same_vertex t.v u) (is_among same_vertex us t.v) t.among; is = let e = t.is in omega arith }

    by : (greatest (map g us) ≡ 0) ⊎ Met g us → (g u ≡ greatest (map g us)) ⊎ ((g u < greatest (map g us)) ⊎ (greatest (map g us) < g u)) → (greatest (map g (u ∷ us)) ≡ 0) ⊎ Met g (u ∷ us)
    by (inl none) order = inr (self (omega arith))
    by (inr t) (inl same) = inr (self (omega arith))
    by (inr t) (inr (inl less)) = inr (later t less)
    by (inr t) (inr (inr more)) = inr (self (omega arith))

-- a list that holds a host
any-host : (vs : List Vertex) → list_any is_host vs ≡ true → (a : ℕ) × (is_among same_vertex vs (Host a) ≡ true)
any-host [] e = absurd (false≢true e)
any-host (Host a ∷ vs) e = (a, among-self same_vertex vertex_decides (Host a) vs)
any-host (Switch s ∷ vs) e = let more = any-host vs e in (more.0, more.1)

host-any : (vs : List Vertex) (a : ℕ) → is_among same_vertex vs (Host a) ≡ true → list_any is_host vs ≡ true
host-any [] a e = absurd (false≢true e)
host-any (Host b ∷ vs) a e = refl
host-any (Switch s ∷ vs) a e = host-any vs a e

host-stays : (n : Network) (x : Vertex) → Stays (λ m. list_any is_host (near n x m))
host-stays n x m k l e =
    let a = any-host (near n x m) e in
    host-any (near n x k) a.0 (within-stays same_vertex vertex_decides (edges_of n.cables) x (Host a.0) m k l a.1)

count-most : (bound : ℕ) (test : ℕ → Bool) → count_failing bound test ≤ bound
count-most zero test = omega arith
count-most (suc k) test = by (test k) (count-most k test)
  where
    by : (b : Bool) → count_failing k test ≤ k → count_failing k test + (if b then 0 else 1) ≤ suc k
    by true l = omega arith
    by false l = omega arith

-- no number that passes is less than the count
count-least : (bound : ℕ) (test : ℕ → Bool) (k : ℕ) → Stays test → test k ≡ true → count_failing bound test ≤ k
count-least bound test k stays e = by (cases_order k bound) (count-most bound test)
  where
    by : (k ≡ bound) ⊎ ((k < bound) ⊎ (bound < k)) → count_failing bound test ≤ bound → count_failing bound test ≤ k
    by (inl same) l = omega arith
    by (inr (inl less)) l = found-least bound test (count_failing bound test) k (count-found bound test k stays less e) e
    by (inr (inr more)) l = omega arith

-- a path to a host is no shorter than the distance to one
host-far : (n : Network) (x : Vertex) (a k : ℕ) → Path n x k (Host a) → to_a_host n x ≤ k
host-far n x a k p =
    count-least (length (vertices n)) (λ m. list_any is_host (near n x m)) k (host-stays n x)
    (host-any (near n x k) a (steps-within same_vertex vertex_decides (edges_of n.cables) x (Host a) k k (path-steps n x (Host a) k p) (omega arith)))

-- what is among those that pass a test
filter-among : (test : Vertex → Bool) (vs : List Vertex) (v : Vertex) → is_among same_vertex (filter test vs) v ≡ true → (test v ≡ true) × (is_among same_vertex vs v ≡ true)
filter-among test [] v e = absurd (false≢true e)
filter-among test (u ∷ us) v e = by (test u) refl e (filter-among test us v)
  where
    further : (test v ≡ true) × (is_among same_vertex us v ≡ true) → (test v ≡ true) × (is_among same_vertex (u ∷ us) v ≡ true)
    further t = (t.0, or-right (same_vertex v u) (is_among same_vertex us v) t.1)

    by : (b : Bool) → test u ≡ b → is_among same_vertex (cond b (u ∷ filter test us) (filter test us)) v ≡ true → (is_among same_vertex (filter test us) v ≡ true → (test v ≡ true) × (is_among same_vertex us v ≡ true))
        → (test v ≡ true) × (is_among same_vertex (u ∷ us) v ≡ true)
    by false p f rest = further (rest f)
    by true p f rest = more (among-parts same_vertex vertex_decides v u (filter test us) f)
      where
        more : (v ≡ u) ⊎ (is_among same_vertex (filter test us) v ≡ true) → (test v ≡ true) × (is_among same_vertex (u ∷ us) v ≡ true)
        more (inl q) = (ap test q ∙ p, ap (is_among same_vertex (u ∷ us)) q ∙ among-self same_vertex vertex_decides u us)
        more (inr q) = further (rest q)

pub farthest_is_reached : FarthestIsReached
farthest_is_reached n host f h = by (greatest-met (distance n (Host host)) (part n host))
  where
    by : (farthest n host ≡ 0) ⊎ Met (distance n (Host host)) (part n host) → (v : Vertex) × IsFarthest n host v
    by (inl none) = (Host host, record { inside = record { cables = 0; path = here }; far = λ m p. omega arith })
    by (inr t) = (
      t.v,
      record {
        inside = (part_is_reached n host t.v f h).0 t.among;
        far = λ m p. let least = (distance_is_shortest n (Host host) t.v m f h p).least m p in let e = t.is in omega arith;
      },
    )

pub host_distance_is_reached : HostDistanceIsReached
host_distance_is_reached n host f h = by (greatest-met (to_a_host n) (filter (λ v. not (is_host v)) (part n host)))
  where
    remote : (v : Vertex) → (not (is_host v) ≡ true) × (is_among same_vertex (part n host) v ≡ true) → host_distance n host ≡ to_a_host n v → (s : ℕ) × IsRemote n host s
    remote (Host a) t e = absurd (false≢true t.0)
    remote (Switch s) t e = (
      s,
      record {
        inside = (part_is_reached n host (Switch s) f h).0 t.1;
        far = λ a m p. let least = host-far n (Switch s) a m p in omega arith;
      },
    )

    by : (host_distance n host ≡ 0) ⊎ Met (to_a_host n) (filter (λ v. not (is_host v)) (part n host)) → (host_distance n host ≡ 0) ⊎ ((s : ℕ) × IsRemote n host s)
    by (inl none) = inl none
    by (inr t) = inr (remote t.v (filter-among (λ v. not (is_host v)) (part n host) t.v t.among) t.is)
