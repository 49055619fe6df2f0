-- Depths in a chain of switches with a host at each: the farthest host is one cable more away than there are hosts, and each switch has a host beside it.
use Rattle.std.proofs.Common.{◌≡◌, ◌≤◌, ◌<◌, ℕ, zero, suc, ◌+◌, ◌-◌, List, [], ◌∷◌, ◌++◌, map, length, Bool, true, false, not, cond, if◌then◌else◌, ◌⊎◌, inl, inr, refl, ap, ◌∙◌, subst, arith}
use Rattle.std.specs.Prelude.{◌↔◌}
use Rattle.std.specs.List.{AllByRecursion, filter, list_any, range_with_len}
use Rattle.std.proofs.lemmas.Bool.{false≢true, cases_order}
use Rattle.std.proofs.lemmas.Bool.Decides.{nat_tests}
use Rattle.std.proofs.lemmas.List.{length-map}
use Rattle.std.proofs.lemmas.List.FromFn.{length-range_with_len}
use Rattle.net_defs.specs.declared.vertex.Vertex.{Vertex}
use Rattle.net_defs.specs.declared.vertex.Vertex.TheVariants.{Host, Switch}
use Rattle.net_defs.specs.declared.vertex.Cable.{Cable}
use Rattle.net_defs.specs.Network.{IsFabric, has_vertex, same_vertex}
use Rattle.net_defs.proofs.Distinct.{all-weaker}
use Rattle.journal_defs.specs.Counting.{count_failing, greatest}
use Rattle.journal_defs.specs.Depth.{enough_depth, EachSwitchHasAHost}
use Rattle.journal_defs.specs.DistanceLaws.{IsShortest}
use Rattle.journal_defs.specs.Edges.{IsEdge, Steps, is_among}
use Rattle.journal_defs.specs.Edges.Steps.{start, step}
use Rattle.journal_defs.specs.Part.{Path, IsInPart, edges_of, vertices, near, distance, part, farthest, is_host, to_a_host, host_distance}
use Rattle.journal_defs.proofs.Distance.{vertex_decides, steps-path, path-vertex, distance_is_shortest}
use Rattle.journal_defs.proofs.Reach.{edge-back, steps-within, within-steps}
use Rattle.fabric_gen.specs.Text.{below, host_name, depth}
use Rattle.input_texts.specs.Generated.{chain_switch, chain_cable, link_cable, gen_fabric}
use Rattle.input_texts.proofs.Cases.{IsCase, each-case}

-- A chain of so many switches with a host at each is a fabric of so many hosts, and cables join each of them, and no other, to host 0. The depth of the text's line `map` suffices there, and each switch has a host, so the tree of walks is small enough.
pub record IsMappedWhole (n : ℕ) : Type 0 where
  pub fabric : IsFabric (gen_fabric n)
  pub count : length (gen_fabric n).hosts ≡ n
  pub joined : (h : ℕ) → (h < n) ↔ IsInPart (gen_fabric n) 0 (Host h)
  pub deep : enough_depth (gen_fabric n) 0 ≤ depth n
  pub hosts : EachSwitchHasAHost (gen_fabric n) 0

-- the edges of two lists of cables
edges-left : (cs ds : List Cable) (v w : Vertex) → IsEdge (edges_of cs) v w → IsEdge (edges_of (cs ++ ds)) v w
edges-left [] ds v w e = absurd e
edges-left (c ∷ cs) ds v w (inl p) = inl p
edges-left (c ∷ cs) ds v w (inr (inl p)) = inr (inl p)
edges-left (c ∷ cs) ds v w (inr (inr e)) = inr (inr (edges-left cs ds v w e))

edges-right : (cs ds : List Cable) (v w : Vertex) → IsEdge (edges_of ds) v w → IsEdge (edges_of (cs ++ ds)) v w
edges-right [] ds v w e = e
edges-right (c ∷ cs) ds v w e = inr (inr (edges-right cs ds v w e))

-- the edge of a cable of a range
edge-in : (f : ℕ → Cable) (a k i : ℕ) → a ≤ i → i < a + k → IsEdge (edges_of (map f (range_with_len a k))) (f i).a.v (f i).b.v
edge-in f a zero i low high = absurd (omega (arith, low, high))
edge-in f a (suc k) i low high = by (cases_order a i) (λ less. edge-in f (a + 1) k i less (omega (arith, high)))
  where
    by : (a ≡ i) ⊎ ((a < i) ⊎ (i < a)) → (a + 1 ≤ i → IsEdge (edges_of (map f (range_with_len (a + 1) k))) (f i).a.v (f i).b.v) → IsEdge (edges_of (map f (range_with_len a (suc k)))) (f i).a.v (f i).b.v
    by (inl e) rest = inl (ap (λ j. (f j).a.v) e, ap (λ j. (f j).b.v) e)
    by (inr (inl less)) rest = inr (inr (rest (omega (arith, less))))
    by (inr (inr more)) rest = absurd (omega (arith, low, more))

-- the cables of a chain
abbrev edges : ℕ → List (Vertex × Vertex)
edges n = edges_of (gen_fabric n).cables

chain-edge : (n i : ℕ) → i + 1 < n → IsEdge (edges n) (Switch i) (Switch (i + 1))
chain-edge n i low =
    edges-left (map chain_cable (below (n - 1))) (map link_cable (below n)) (Switch i) (Switch (i + 1)) (edge-in chain_cable 0 (n - 1) i (omega arith) (omega (arith, low)))

link-edge : (n i : ℕ) → i < n → IsEdge (edges n) (Host i) (Switch i)
link-edge n i low = edges-right (map chain_cable (below (n - 1))) (map link_cable (below n)) (Host i) (Switch i) (edge-in link_cable 0 n i (omega arith) (omega (arith, low)))

-- the ways along it from host 0
to-switch : (n i : ℕ) → i < n → Steps (edges n) (Host 0) (suc i) (Switch i)
to-switch n zero low = step start (link-edge n 0 low)
to-switch n (suc i) low =
    let next : i + 1 ≡ suc i = omega arith in
    step (to-switch n i (omega (arith, low))) (subst (λ j. IsEdge (edges n) (Switch i) (Switch j)) next (chain-edge n i (omega (arith, low))))

to-host : (n i : ℕ) → i < n → Steps (edges n) (Host 0) (suc (suc i)) (Host i)
to-host n i low = step (to-switch n i low) (edge-back (edges n) (Host i) (Switch i) (link-edge n i low))

from-switch : (n i : ℕ) → i < n → Steps (edges n) (Switch i) 1 (Host i)
from-switch n i low = step start (edge-back (edges n) (Host i) (Switch i) (link-edge n i low))

-- lists
each : {X : Type 0} (P : X → Type 0) → ((x : X) → P x) → (xs : List X) → AllByRecursion P xs
each P k [] = tt
each P k (x ∷ xs) = (k x, each P k xs)

all-filter : {X : Type 0} (P : X → Type 0) (t : X → Bool) (xs : List X) → AllByRecursion (λ x. t x ≡ true → P x) xs → AllByRecursion P (filter t xs)
all-filter P t [] all = tt
all-filter P t (x ∷ xs) all = by (t x) refl (all-filter P t xs all.1)
  where
    by : (b : Bool) → t x ≡ b → AllByRecursion P (filter t xs) → AllByRecursion P (cond b (x ∷ filter t xs) (filter t xs))
    by true e rest = (all.0 e, rest)
    by false e rest = rest

greatest-most : {X : Type 0} (g : X → ℕ) (most : ℕ) (xs : List X) → AllByRecursion (λ x. g x ≤ most) xs → greatest (map g xs) ≤ most
greatest-most g most [] all = omega arith
greatest-most g most (x ∷ xs) all =
    let one = all.0 in
    let rest = greatest-most g most xs all.1 in
    omega (arith, one, rest)

-- a test that each number but 0 passes fails once at most
one-fails : (bound : ℕ) (test : ℕ → Bool) → ((m : ℕ) → test (suc m) ≡ true) → count_failing bound test ≤ 1
one-fails zero test all = omega arith
one-fails (suc zero) test all = by (test 0)
  where
    by : (b : Bool) → 0 + (if b then 0 else 1) ≤ 1
    by true = omega arith
    by false = omega arith
one-fails (suc (suc k)) test all =
    let rest = one-fails (suc k) test all in
    let none : ◌≡◌ {A = ℕ} (if test (suc k) then 0 else 1) 0 = ap (λ b. if b then 0 else 1) (all k) in
    omega (arith, rest, none)

host-among : (vs : List Vertex) (h : ℕ) → is_among same_vertex vs (Host h) ≡ true → list_any is_host vs ≡ true
host-among [] h e = absurd (false≢true e)
host-among (Host g ∷ vs) h e = refl
host-among (Switch s ∷ vs) h e = host-among vs h e

hosts-count : (n : ℕ) → length (gen_fabric n).hosts ≡ n
hosts-count n = length-map (below n) host_name ∙ length-range_with_len 0 n

switches-count : (n : ℕ) → length (gen_fabric n).switches ≡ n
switches-count n = length-map (below n) chain_switch ∙ length-range_with_len 0 n

module _ (n : ℕ) (some : 2 ≤ n) (f : IsFabric (gen_fabric n)) where
  host-low : (h : ℕ) → has_vertex (gen_fabric n) (Host h) ≡ true → h < n
  host-low h there = let same = hosts-count n in let low : h < length (gen_fabric n).hosts = grind (arith, nat_tests) in omega (arith, low, same)

  switch-low : (s : ℕ) → has_vertex (gen_fabric n) (Switch s) ≡ true → s < n
  switch-low s there = let same = switches-count n in let low : s < length (gen_fabric n).switches = grind (arith, nat_tests) in omega (arith, low, same)

  first-there : has_vertex (gen_fabric n) (Host 0) ≡ true
  first-there = let same = hosts-count n in let low : 0 < length (gen_fabric n).hosts = omega (arith, some, same) in grind (arith, nat_tests)

  path-to : (v : Vertex) (k : ℕ) → Steps (edges n) (Host 0) k v → Path (gen_fabric n) (Host 0) k v
  path-to v k s = steps-path (gen_fabric n) (Host 0) v k f s

  way-bounds : (v : Vertex) (k most : ℕ) → Steps (edges n) (Host 0) k v → k ≤ most → distance (gen_fabric n) (Host 0) v ≤ most
  way-bounds v k most s low =
      let p = path-to v k s in
      let shortest : IsShortest (gen_fabric n) (Host 0) v = distance_is_shortest (gen_fabric n) (Host 0) v k f first-there p in
      let least = shortest.least k p in
      omega (arith, least, low)

  -- D
  vertex-near : (v : Vertex) → has_vertex (gen_fabric n) v ≡ true → distance (gen_fabric n) (Host 0) v ≤ n + 1
  vertex-near (Host h) there = let low = host-low h there in way-bounds (Host h) (suc (suc h)) (n + 1) (to-host n h low) (omega (arith, low))
  vertex-near (Switch s) there = let low = switch-low s there in way-bounds (Switch s) (suc s) (n + 1) (to-switch n s low) (omega (arith, low))

  reached-there : (v : Vertex) → is_among same_vertex (near (gen_fabric n) (Host 0) (length (vertices (gen_fabric n)))) v ≡ true → has_vertex (gen_fabric n) v ≡ true
  reached-there v e =
      let way = within-steps same_vertex vertex_decides (edges n) (Host 0) v (length (vertices (gen_fabric n))) e in
      path-vertex (gen_fabric n) (Host 0) v way.count f first-there (path-to v way.count way.path)

  part-there : AllByRecursion (λ v. has_vertex (gen_fabric n) v ≡ true) (part (gen_fabric n) 0)
  part-there =
      all-filter (λ v. has_vertex (gen_fabric n) v ≡ true) (is_among same_vertex (near (gen_fabric n) (Host 0) (length (vertices (gen_fabric n))))) (vertices (gen_fabric n))
      (each (λ v. is_among same_vertex (near (gen_fabric n) (Host 0) (length (vertices (gen_fabric n)))) v ≡ true → has_vertex (gen_fabric n) v ≡ true) reached-there (vertices (gen_fabric n)))

  farthest-near : farthest (gen_fabric n) 0 ≤ n + 1
  farthest-near =
      greatest-most (distance (gen_fabric n) (Host 0)) (n + 1) (part (gen_fabric n) 0)
      (all-weaker (λ v. has_vertex (gen_fabric n) v ≡ true) (λ v. distance (gen_fabric n) (Host 0) v ≤ n + 1) (part (gen_fabric n) 0) vertex-near part-there)

  -- Q
  host-beside : (v : Vertex) → has_vertex (gen_fabric n) v ≡ true → not (is_host v) ≡ true → to_a_host (gen_fabric n) v ≤ 1
  host-beside (Host h) there e = absurd (false≢true e)
  host-beside (Switch s) there e =
      let way = from-switch n s (switch-low s there) in
      one-fails (length (vertices (gen_fabric n))) (λ m. list_any is_host (near (gen_fabric n) (Switch s) m))
      (λ m. host-among (near (gen_fabric n) (Switch s) (suc m)) s (steps-within same_vertex vertex_decides (edges n) (Switch s) (Host s) 1 (suc m) way (omega arith)))

  hosts-near : host_distance (gen_fabric n) 0 ≤ 1
  hosts-near =
      greatest-most (to_a_host (gen_fabric n)) 1 (filter (λ v. not (is_host v)) (part (gen_fabric n) 0))
      (all-filter (λ v. to_a_host (gen_fabric n) v ≤ 1) (λ v. not (is_host v)) (part (gen_fabric n) 0)
      (all-weaker (λ v. has_vertex (gen_fabric n) v ≡ true) (λ v. not (is_host v) ≡ true → to_a_host (gen_fabric n) v ≤ 1) (part (gen_fabric n) 0) host-beside part-there))

  switches-have_hosts : EachSwitchHasAHost (gen_fabric n) 0
  switches-have_hosts s i =
      let low = switch-low s (path-vertex (gen_fabric n) (Host 0) (Switch s) i.cables f first-there i.path) in
      record { address = s; cables = 1; path = steps-path (gen_fabric n) (Switch s) (Host s) 1 f (from-switch n s low); few = omega arith }

  chain-mapped : IsMappedWhole n
  chain-mapped = record {
    fabric = f;
    count = hosts-count n;
    joined = λ h. (
      (λ low. record { cables = suc (suc h); path = path-to (Host h) (suc (suc h)) (to-host n h low) }),
      (λ i. host-low h (path-vertex (gen_fabric n) (Host 0) (Host h) i.cables f first-there i.path)),
    );
    deep = let d = farthest-near in let q = hosts-near in omega (arith, d, q);
    hosts = switches-have_hosts;
  }

pub each-mapped_whole : (n : ℕ) → 2 ≤ n → n ≤ 24 → IsMappedWhole n
each-mapped_whole n two few = let k : IsCase n = each-case n two few in chain-mapped n two k.is_fabric
