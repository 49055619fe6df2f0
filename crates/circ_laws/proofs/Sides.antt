-- When a vertex of a map is outside: what its computed sides mean.
use Rattle.std.proofs.Common.{◌≡◌, ◌≢◌, ◌<◌, ◌≤◌, ◌+◌, ℕ, zero, suc, List, [], ◌∷◌, ◌++◌, length, Bool, true, false, not, ◌&&◌, ◌||◌, Option, Some, None, is_some, sym, ◌∙◌, subst, ap, true≢false, refl, arith, ◌⊎◌, inl, inr, if◌then◌else◌, nat_eq}
use Rattle.std.specs.Prelude.{slice_get}
use Rattle.std.specs.List.{list_any, AllByRecursion}
use Rattle.std.proofs.lemmas.Bool.{false≢true, and_parts}
use Rattle.std.proofs.lemmas.Bool.Decides.{Decides-eqb}
use Rattle.journal_defs.specs.Counting.{numbers_below, count_failing}
use Rattle.journal_defs.specs.Edges.{IsEdge, Steps, is_among, within, edges_between}
use Rattle.journal_defs.proofs.Members.{length-numbers}
use Rattle.journal_defs.proofs.Reach.{among-append, among-left, among-right, among-self, steps-within, within-steps}
use Rattle.journal_defs.proofs.Simple.{Holds, shortest}
use Rattle.map_defs.specs.declared.vertex.MapCable.{MapCable}
use Rattle.map_defs.specs.NetMap.{NetMap, MapPort, IsMap, map_edges, map_ends, host_of_vertex, is_switch_vertex}
use Rattle.map_defs.specs.Core.{without, side, is_hostless, hostless_side, cut_off, cut_off_by, is_outside}
use Rattle.map_defs.proofs.Levels.{number-among}
use Rattle.map_laws.proofs.Marked.{any-among}
use Rattle.std.proofs.lemmas.Option.{slice_get_within}

-- a cable other than one is there without it
pub without-edge : (cs : List MapCable) (k i : ℕ) (c : MapCable) → slice_get cs i ≡ Some c → i ≢ k → IsEdge (map_edges (without cs k)) c.v c.w
without-edge [] k i c e d = cc
without-edge (x ∷ cs) zero zero c e d = absurd (d refl)
without-edge (x ∷ cs) zero (suc i) c e d = place cs i e
  where
    place : (cs : List MapCable) (i : ℕ) → slice_get cs i ≡ Some c → IsEdge (map_edges cs) c.v c.w
    place [] i e = cc
    place (y ∷ cs) zero e = let one : y ≡ c = cc in inl (ap (λ (z : MapCable). z.v) one, ap (λ (z : MapCable). z.w) one)
    place (y ∷ cs) (suc i) e = inr (inr (place cs i e))
without-edge (x ∷ cs) (suc k) zero c e d = let one : x ≡ c = cc in inl (ap (λ (z : MapCable). z.v) one, ap (λ (z : MapCable). z.w) one)
without-edge (x ∷ cs) (suc k) (suc i) c e d = inr (inr (without-edge cs k i c e (λ p. d (ap suc p))))

-- an edge is a cable, other than the one that is left out
pub record EdgeOf (cs : List MapCable) (k v w : ℕ) : Type 0 where
  pub number : ℕ
  pub c : MapCable
  pub there : slice_get cs number ≡ Some c
  pub other : number ≢ k
  pub ends : ((c.v ≡ v) × (c.w ≡ w)) ⊎ ((c.w ≡ v) × (c.v ≡ w))

edge-place : (cs : List MapCable) (v w : ℕ) → IsEdge (map_edges cs) v w → (i : ℕ) × ((c : MapCable) × ((slice_get cs i ≡ Some c) × (((c.v ≡ v) × (c.w ≡ w)) ⊎ ((c.w ≡ v) × (c.v ≡ w)))))
edge-place [] v w e = absurd e
edge-place (x ∷ cs) v w (inl p) = (0, (x, (refl, inl p)))
edge-place (x ∷ cs) v w (inr (inl p)) = (0, (x, (refl, inr p)))
edge-place (x ∷ cs) v w (inr (inr e)) = let r = edge-place cs v w e in (suc r.0, (r.1.0, r.1.1))

pub edge-without : (cs : List MapCable) (k v w : ℕ) → IsEdge (map_edges (without cs k)) v w → EdgeOf cs k v w
edge-without [] k v w e = absurd e
edge-without (x ∷ cs) zero v w e = let r = edge-place cs v w e in record { number = suc r.0; c = r.1.0; there = r.1.1.0; other = (λ p. (let q = p in absurd (omega arith))); ends = r.1.1.1 }
edge-without (x ∷ cs) (suc k) v w (inl p) = record { number = 0; c = x; there = refl; other = (λ p. (let q = p in absurd (omega arith))); ends = inl p }
edge-without (x ∷ cs) (suc k) v w (inr (inl p)) = record { number = 0; c = x; there = refl; other = (λ p. (let q = p in absurd (omega arith))); ends = inr p }
edge-without (x ∷ cs) (suc k) v w (inr (inr e)) =
    let r = edge-without cs k v w e in
    record { number = suc r.number; c = r.c; there = r.there; other = (λ p. r.other (let q = p in omega arith)); ends = r.ends }

-- where a path leads, the computed side has it
cables-low : (n : ℕ) (cs : List MapCable) → AllByRecursion (λ (d : MapPort). d.v < n) (map_ends cs) → AllByRecursion (λ c. (c.v < n) × (c.w < n)) cs
cables-low n [] all = tt
cables-low n (c ∷ cs) all = ((all.0, all.1.0), cables-low n cs all.1.1)

all-without : (P : MapCable → Type 0) (cs : List MapCable) (k : ℕ) → AllByRecursion P cs → AllByRecursion P (without cs k)
all-without P [] k all = tt
all-without P (c ∷ cs) zero all = all.1
all-without P (c ∷ cs) (suc k) all = (all.0, all-without P cs k all.1)

edge-low : (n : ℕ) (cs : List MapCable) (v w : ℕ) → AllByRecursion (λ c. (c.v < n) × (c.w < n)) cs → IsEdge (map_edges cs) v w → w < n
edge-low n [] v w all e = absurd e
edge-low n (c ∷ cs) v w all (inl p) = subst (λ x. x < n) p.1 all.0.1
edge-low n (c ∷ cs) v w all (inr (inl p)) = subst (λ x. x < n) p.1 all.0.0
edge-low n (c ∷ cs) v w all (inr (inr e)) = edge-low n cs v w all.1 e

count-most : (n : ℕ) (test : ℕ → Bool) → count_failing n test ≤ n
count-most zero test = omega arith
count-most (suc k) test = by (test k) (count-most k test)
  where
    by : (b : Bool) → count_failing k test ≤ k → count_failing k test + (if b then 0 else 1) ≤ suc k
    by true l = omega arith
    by false l = omega arith

reached-within : (n : ℕ) (cs : List MapCable) (v u j : ℕ) → AllByRecursion (λ c. (c.v < n) × (c.w < n)) cs → v < n → Steps (map_edges cs) v j u → is_among nat_eq (within nat_eq (map_edges cs) v n) u ≡ true
reached-within n cs v u j low l path =
    let es = map_edges cs in
    let held_place : Holds nat_eq es (numbers_below n) v = record { first = number-among n v l; others = λ x w e. number-among n w (edge-low n cs x w low e) } in
    let all : length (numbers_below n) ≡ n = length-numbers n in
    let short : Steps es v (edges_between nat_eq es n v u) u = subst (λ k. Steps es v (edges_between nat_eq es k v u) u) all (shortest nat_eq Decides-eqb es (numbers_below n) v u j held_place path) in
    steps-within nat_eq Decides-eqb es v u (edges_between nat_eq es n v u) n short (count-most n _)

-- a path of the map without one cable
pub record Joined (m : NetMap) (k v u : ℕ) : Type 0 where
  pub count : ℕ
  pub path : Steps (map_edges (without m.cables k)) v count u

pub side-has : (m : NetMap) (k v u : ℕ) → IsMap m → v < length m.vertices → Joined m k v u → is_among nat_eq (side m k v) u ≡ true
side-has m k v u r l p = reached-within (length m.vertices) (without m.cables k) v u p.count (all-without (λ c. (c.v < length m.vertices) × (c.w < length m.vertices)) m.cables k (cables-low (length m.vertices) m.cables r.cabled_vertices)) l p.path

pub side-joined : (m : NetMap) (k v u : ℕ) → is_among nat_eq (side m k v) u ≡ true → Joined m k v u
side-joined m k v u e = let p = within-steps nat_eq Decides-eqb (map_edges (without m.cables k)) v u (length m.vertices) e in record { count = p.count; path = p.path }

-- what it is to be outside
pub record OutsideBy (m : NetMap) (v : ℕ) : Type 0 where
  pub number : ℕ
  pub c : MapCable
  pub there : slice_get m.cables number ≡ Some c
  pub first_switch : is_switch_vertex m c.v ≡ true
  pub second_switch : is_switch_vertex m c.w ≡ true
  pub from : ℕ
  pub is_end : (c.v ≡ from) ⊎ (c.w ≡ from)
  pub joined : Joined m number from v
  pub hostless : (u h : ℕ) → Joined m number from u → host_of_vertex m u ≡ Some h → ⊥

any-found : (test : ℕ → Bool) (vs : List ℕ) → list_any test vs ≡ true → (v : ℕ) × ((is_among nat_eq vs v ≡ true) × (test v ≡ true))
any-found test [] e = absurd (false≢true e)
any-found test (x ∷ vs) e = by (test x) refl e (any-found test vs)
  where
    by : (b : Bool) → test x ≡ b → (b || list_any test vs) ≡ true → (list_any test vs ≡ true → (v : ℕ) × ((is_among nat_eq vs v ≡ true) × (test v ≡ true))) → (v : ℕ) × ((is_among nat_eq (x ∷ vs) v ≡ true) × (test v ≡ true))
    by true p f rest = (x, (among-self nat_eq Decides-eqb x vs, p))
    by false p f rest = let r = rest f in (r.0, (among-right nat_eq Decides-eqb (x ∷ []) vs r.0 r.1.0, r.1.1))

host-there : (m : NetMap) (vs : List ℕ) (u h : ℕ) → is_among nat_eq vs u ≡ true → host_of_vertex m u ≡ Some h → is_hostless m vs ≡ true → ⊥
host-there m vs u h a e f = true≢false (sym f ∙ ap not (any-among (λ w. is_some (host_of_vertex m w)) vs u a (ap is_some e)))

-- a hostless side, as the definition computes it
hostless-joined : (m : NetMap) (k x v : ℕ) → IsMap m → x < length m.vertices → is_among nat_eq (hostless_side m k x) v ≡ true → Joined m k x v × ((u h : ℕ) → Joined m k x u → host_of_vertex m u ≡ Some h → ⊥)
hostless-joined m k x v r l e = by (is_hostless m (side m k x)) refl e
  where
    by : (b : Bool) → is_hostless m (side m k x) ≡ b → is_among nat_eq (if b then side m k x else []) v ≡ true → Joined m k x v × ((u h : ℕ) → Joined m k x u → host_of_vertex m u ≡ Some h → ⊥)
    by true p f = (side-joined m k x v f, (λ u h j e. host-there m (side m k x) u h (side-has m k x u r l j) e p))
    by false p f = absurd (false≢true f)

low-ends : (m : NetMap) (cs : List MapCable) (k : ℕ) (c : MapCable) → AllByRecursion (λ (d : MapPort). d.v < length m.vertices) (map_ends cs) → slice_get cs k ≡ Some c → (c.v < length m.vertices) × (c.w < length m.vertices)
low-ends m [] k c all e = cc
low-ends m (x ∷ cs) zero c all e = let one : x ≡ c = cc in (subst (λ (y : MapCable). y.v < length m.vertices) one all.0, subst (λ (y : MapCable). y.w < length m.vertices) one all.1.0)
low-ends m (x ∷ cs) (suc k) c all e = low-ends m cs k c all.1.1 e

cut-means : (m : NetMap) (k v : ℕ) (c : MapCable) → IsMap m → slice_get m.cables k ≡ Some c → is_among nat_eq (cut_off m k (Some c)) v ≡ true → OutsideBy m v
cut-means m k v c r there e = by (is_switch_vertex m c.v && is_switch_vertex m c.w) refl e
  where
    low : (c.v < length m.vertices) × (c.w < length m.vertices)
    low = low-ends m m.cables k c r.cabled_vertices there

    either : (is_switch_vertex m c.v ≡ true) × (is_switch_vertex m c.w ≡ true) → (is_among nat_eq (hostless_side m k c.v) v ≡ true) ⊎ (is_among nat_eq (hostless_side m k c.w) v ≡ true) → OutsideBy m v
    either s (inl p) = let h = hostless-joined m k c.v v r low.0 p in record { number = k; c = c; there = there; first_switch = s.0; second_switch = s.1; from = c.v; is_end = inl refl; joined = h.0; hostless = h.1 }
    either s (inr p) = let h = hostless-joined m k c.w v r low.1 p in record { number = k; c = c; there = there; first_switch = s.0; second_switch = s.1; from = c.w; is_end = inr refl; joined = h.0; hostless = h.1 }

    by : (b : Bool) → (is_switch_vertex m c.v && is_switch_vertex m c.w) ≡ b → is_among nat_eq (if b then hostless_side m k c.v ++ hostless_side m k c.w else []) v ≡ true → OutsideBy m v
    by true p f = either (and_parts (is_switch_vertex m c.v) (is_switch_vertex m c.w) p) (among-append nat_eq Decides-eqb (hostless_side m k c.v) (hostless_side m k c.w) v f)
    by false p f = absurd (false≢true f)

pub outside-means : (m : NetMap) (v : ℕ) → IsMap m → is_outside m v ≡ true → OutsideBy m v
outside-means m v r e =
    let found = any-found (λ k. is_among nat_eq (cut_off_by m k) v) (numbers_below (length m.cables)) e in
    by found.0 (slice_get m.cables found.0) refl found.1.1
  where
    by : (k : ℕ) (o : Option MapCable) → slice_get m.cables k ≡ o → is_among nat_eq (cut_off m k o) v ≡ true → OutsideBy m v
    by k None p f = absurd (false≢true f)
    by k (Some c) p f = cut-means m k v c r p f

none-any : (test : ℕ → Bool) (vs : List ℕ) → ((v : ℕ) → is_among nat_eq vs v ≡ true → test v ≡ true → ⊥) → list_any test vs ≡ false
none-any test vs none = by (list_any test vs) refl
  where
    by : (b : Bool) → list_any test vs ≡ b → b ≡ false
    by true p = let f = any-found test vs p in absurd (none f.0 f.1.0 f.1.1)
    by false p = refl

some-host : (o : Option ℕ) → is_some o ≡ true → (h : ℕ) × (o ≡ Some h)
some-host None e = absurd (false≢true e)
some-host (Some h) e = (h, refl)

pub means-outside : (m : NetMap) (v : ℕ) → IsMap m → OutsideBy m v → is_outside m v ≡ true
means-outside m v r o =
    any-among (λ k. is_among nat_eq (cut_off_by m k) v) (numbers_below (length m.cables)) o.number (number-among (length m.cables) o.number (slice_get_within m.cables o.number o.c o.there))
    (ap (λ x. is_among nat_eq (cut_off m o.number x) v) o.there ∙ (rw (o.first_switch, o.second_switch) (by o.is_end)))
  where
    low : (o.c.v < length m.vertices) × (o.c.w < length m.vertices)
    low = low-ends m m.cables o.number o.c r.cabled_vertices o.there

    held_place : (x : ℕ) → x ≡ o.from → x < length m.vertices → is_among nat_eq (hostless_side m o.number x) v ≡ true
    held_place x e l =
        let joined : Joined m o.number x v = subst (λ y. Joined m o.number y v) (sym e) o.joined in
        let none : is_hostless m (side m o.number x) ≡ true = ap not (none-any (λ w. is_some (host_of_vertex m w)) (side m o.number x) (λ u a t. (let h = some-host (host_of_vertex m u) t in o.hostless u h.0 (subst (λ y. Joined m o.number y u) e (side-joined m o.number x u a)) h.1))) in
        rw none (side-has m o.number x v r l joined)

    by : (o.c.v ≡ o.from) ⊎ (o.c.w ≡ o.from) → is_among nat_eq (hostless_side m o.number o.c.v ++ hostless_side m o.number o.c.w) v ≡ true
    by (inl e) = among-left nat_eq Decides-eqb (hostless_side m o.number o.c.v) (hostless_side m o.number o.c.w) v (held_place o.c.v e low.0)
    by (inr e) = among-right nat_eq Decides-eqb (hostless_side m o.number o.c.v) (hostless_side m o.number o.c.w) v (held_place o.c.w e low.1)
