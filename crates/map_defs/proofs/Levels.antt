-- Levels are distances from the root.
use Rattle.std.proofs.Common.{◌≡◌, ◌<◌, ◌≤◌, ◌+◌, ℕ, zero, suc, List, [], ◌∷◌, ◌++◌, length, Bool, true, false, ◌∙◌, subst, ap, refl, arith, ◌⊎◌, inl, inr, nat_eq, if◌then◌else◌}
use Rattle.std.specs.Prelude.{slice_get}
use Rattle.std.specs.List.{AllByRecursion, list_all}
use Rattle.std.proofs.lemmas.Bool.{false≢true, cases_order, and_parts}
use Rattle.std.proofs.lemmas.Bool.Decides.{Decides-eqb}
use Rattle.journal_defs.specs.Counting.{numbers_below}
use Rattle.journal_defs.specs.Edges.{IsEdge, Steps, is_among, within, edges_between}
use Rattle.journal_defs.proofs.Members.{length-numbers}
use Rattle.journal_defs.proofs.Reach.{among-left, among-right, among-self, among-parts, within-steps, steps-back, steps-join}
use Rattle.journal_defs.proofs.Simple.{Holds, shortest, none-shorter}
use Rattle.map_defs.specs.declared.vertex.MapVertex.{MapVertex}
use Rattle.map_defs.specs.declared.vertex.MapCable.{MapCable}
use Rattle.map_defs.specs.NetMap.{NetMap, MapPort, IsMap, IsConnected, map_edges, map_ends, is_switch_vertex, switch_at}
use Rattle.map_defs.specs.Orientation.{root}
use Rattle.map_defs.specs.Laws.{LevelsAreDistances}

pub number-among : (n k : ℕ) → k < n → is_among nat_eq (numbers_below n) k ≡ true
number-among zero k l = absurd (omega arith)
number-among (suc n) k l = by (cases_order k n) (number-among n k)
  where
    by : (k ≡ n) ⊎ ((k < n) ⊎ (n < k)) → (k < n → is_among nat_eq (numbers_below n) k ≡ true) → is_among nat_eq (numbers_below n ++ n ∷ []) k ≡ true
    by (inl e) rest = among-right nat_eq Decides-eqb (numbers_below n) (n ∷ []) k (subst (λ i. is_among nat_eq (i ∷ []) k ≡ true) e (among-self nat_eq Decides-eqb k []))
    by (inr (inl a)) rest = among-left nat_eq Decides-eqb (numbers_below n) (n ∷ []) k (rest a)
    by (inr (inr a)) rest = absurd (omega arith)

-- the ends of an edge of a map are vertices of it
edge-vertex : (P : ℕ → Type 0) (cs : List MapCable) (v w : ℕ) → AllByRecursion (λ (d : MapPort). P d.v) (map_ends cs) → IsEdge (map_edges cs) v w → P w
edge-vertex P [] v w all e = absurd e
edge-vertex P (c ∷ cs) v w all (inl p) = subst P p.1 all.1.0
edge-vertex P (c ∷ cs) v w all (inr (inl p)) = subst P p.1 all.0
edge-vertex P (c ∷ cs) v w all (inr (inr e)) = edge-vertex P cs v w all.1.1 e

-- the root is a vertex
pub switch-there : (vs : List MapVertex) (v : ℕ) → switch_at (slice_get vs v) ≡ true → v < length vs
switch-there [] v e = absurd (false≢true e)
switch-there (x ∷ vs) zero e = omega arith
switch-there (x ∷ vs) (suc v) e = let l = switch-there vs v e in omega arith

root-there : (m : NetMap) → 0 < length m.vertices → root m < length m.vertices
root-there m some = by (is_switch_vertex m 1) refl
  where
    by : (b : Bool) → is_switch_vertex m 1 ≡ b → (if b then 1 else 0) < length m.vertices
    by true e = switch-there m.vertices 1 e
    by false e = some

holds : (m : NetMap) (v : ℕ) → IsMap m → v < length m.vertices → Holds nat_eq (map_edges m.cables) (numbers_below (length m.vertices)) v
holds m v r l = record { first = number-among (length m.vertices) v l; others = λ u w e. number-among (length m.vertices) w (edge-vertex (λ k. k < length m.vertices) m.cables u w r.cabled_vertices e) }

pub levels_are_distances : LevelsAreDistances
levels_are_distances m v r c l =
    let es = map_edges m.cables in
    let there : root m < length m.vertices = root-there m (omega arith) in
    let up = c (root m) there in
    let on = c v l in
    let path = steps-join es (root m) 0 v up.cables on.cables (steps-back es 0 (root m) up.cables up.path) on.path in
    let held = holds m (root m) r there in
    let all : length (numbers_below (length m.vertices)) ≡ length m.vertices = length-numbers (length m.vertices) in
    record {
      path = subst (λ n. Steps es (root m) (edges_between nat_eq es n (root m) v) v) all (shortest nat_eq Decides-eqb es (numbers_below (length m.vertices)) (root m) v (on.cables + up.cables) held path);
      least = λ k p. subst (λ n. edges_between nat_eq es n (root m) v ≤ k) all (none-shorter nat_eq Decides-eqb es (numbers_below (length m.vertices)) (root m) v k held p);
    }

-- what passes for each number of a list passes for one among them
number-passes : (test : ℕ → Bool) (xs : List ℕ) (v : ℕ) → list_all test xs ≡ true → is_among nat_eq xs v ≡ true → test v ≡ true
number-passes test [] v all e = absurd (false≢true e)
number-passes test (x ∷ xs) v all e = by (among-parts nat_eq Decides-eqb v x xs e) (number-passes test xs v (and_parts (test x) (list_all test xs) all).1)
  where
    by : (v ≡ x) ⊎ (is_among nat_eq xs v ≡ true) → (is_among nat_eq xs v ≡ true → test v ≡ true) → test v ≡ true
    by (inl p) rest = ap test p ∙ (and_parts (test x) (list_all test xs) all).0
    by (inr p) rest = rest p

-- a test that a map is connected
pub connected-by : (m : NetMap) → list_all (is_among nat_eq (within nat_eq (map_edges m.cables) 0 (length m.vertices))) (numbers_below (length m.vertices)) ≡ true → IsConnected m
connected-by m all v l =
    let close = number-passes (is_among nat_eq (within nat_eq (map_edges m.cables) 0 (length m.vertices))) (numbers_below (length m.vertices)) v all (number-among (length m.vertices) v l) in
    let p = within-steps nat_eq Decides-eqb (map_edges m.cables) 0 v (length m.vertices) close in
    record { cables = p.count; path = p.path }
