-- Levels that neither are below the distances nor can be lowered are the distances.
use Rattle.std.proofs.Common.{◌≡◌, ◌<◌, ◌≤◌, ◌+◌, ℕ, zero, suc, List, [], ◌∷◌, length, get_or, set, replicate, Bool, true, false, refl, sym, ◌∙◌, subst, arith, if◌then◌else◌, get_or-set_other, get_or-set_same, ◌⊎◌, inl, inr}
use Rattle.std.specs.Prelude.{slice_get}
use Rattle.std.specs.List.{AllByRecursion}
use Rattle.std.proofs.Math.ListN.{length-set}
use Rattle.std.proofs.lemmas.Bool.{false≢true, cases_order}
use Rattle.std.proofs.lemmas.List.{ext_get_or, length-map, length-replicate, get_or-replicate}
use Rattle.journal_defs.specs.Counting.{numbers_below, count_failing}
use Rattle.journal_defs.specs.Edges.{IsEdge, Steps}
use Rattle.journal_defs.specs.Edges.Steps.{start, step}
use Rattle.map_defs.specs.declared.vertex.MapVertex.{MapVertex}
use Rattle.map_defs.specs.declared.vertex.MapCable.{MapCable}
use Rattle.map_defs.specs.NetMap.{NetMap, MapPort, IsMap, IsConnected, map_edges, map_ends, is_switch_vertex, switch_at}
use Rattle.map_defs.specs.Orientation.{root, level, levels}
use Rattle.journal_defs.proofs.Members.{length-numbers}
use Rattle.map_defs.proofs.Levels.{levels_are_distances}
use Rattle.updown.specs.Lowering.{lowers_along}
use Rattle.updown.proofs.Lowered.{IsAbove, along-settled}
use Rattle.updown.proofs.Filters.{map-at}

-- the root is a vertex
switch-there : (vs : List MapVertex) (v : ℕ) → switch_at (slice_get vs v) ≡ true → v < length vs
switch-there [] v e = absurd (false≢true e)
switch-there (x ∷ vs) zero e = omega arith
switch-there (x ∷ vs) (suc v) e = let l = switch-there vs v e in omega arith

pub root-there : (m : NetMap) → 0 < length m.vertices → root m < length m.vertices
root-there m some = by (is_switch_vertex m 1) refl
  where
    by : (b : Bool) → is_switch_vertex m 1 ≡ b → (if b then 1 else 0) < length m.vertices
    by true e = switch-there m.vertices 1 e
    by false e = some

-- what holds of each edge holds both ways of each cable, and back
pub all-from_edges : (Q : ℕ → ℕ → Type 0) (cs : List MapCable) → ((v w : ℕ) → IsEdge (map_edges cs) v w → Q v w) → AllByRecursion (λ c. Q c.v c.w × Q c.w c.v) cs
all-from_edges Q [] f = tt
all-from_edges Q (c ∷ cs) f = ((f c.v c.w (inl (refl, refl)), f c.w c.v (inr (inl (refl, refl)))), all-from_edges Q cs (λ v w e. f v w (inr (inr e))))

pub edge-from_all : (Q : ℕ → ℕ → Type 0) (cs : List MapCable) (v w : ℕ) → AllByRecursion (λ c. Q c.v c.w × Q c.w c.v) cs → IsEdge (map_edges cs) v w → Q v w
edge-from_all Q [] v w all e = absurd e
edge-from_all Q (c ∷ cs) v w all (inl p) = subst (λ x. Q v x) p.1 (subst (λ x. Q x c.w) p.0 all.0.0)
edge-from_all Q (c ∷ cs) v w all (inr (inl p)) = subst (λ x. Q v x) p.1 (subst (λ x. Q x c.v) p.0 all.0.1)
edge-from_all Q (c ∷ cs) v w all (inr (inr e)) = edge-from_all Q cs v w all.1 e

-- both vertices of each cable are there
pub cables-low : (n : ℕ) (cs : List MapCable) → AllByRecursion (λ (d : MapPort). d.v < n) (map_ends cs) → AllByRecursion (λ c. (c.v < n) × (c.w < n)) cs
cables-low n [] all = tt
cables-low n (c ∷ cs) all = ((all.0, all.1.0), cables-low n cs all.1.1)

edge-low : (n : ℕ) (cs : List MapCable) (v w : ℕ) → AllByRecursion (λ c. (c.v < n) × (c.w < n)) cs → IsEdge (map_edges cs) v w → (v < n) × (w < n)
edge-low n [] v w all e = absurd e
edge-low n (c ∷ cs) v w all (inl p) = (subst (λ x. x < n) p.0 all.0.0, subst (λ x. x < n) p.1 all.0.1)
edge-low n (c ∷ cs) v w all (inr (inl p)) = (subst (λ x. x < n) p.0 all.0.1, subst (λ x. x < n) p.1 all.0.0)
edge-low n (c ∷ cs) v w all (inr (inr e)) = edge-low n cs v w all.1 e

-- the levels of neighbours are at most one apart
pub levels-near : (m : NetMap) → IsMap m → IsConnected m → AllByRecursion (λ c. (level m c.w ≤ level m c.v + 1) × (level m c.v ≤ level m c.w + 1)) m.cables
levels-near m r joined = all-from_edges (λ v w. level m w ≤ level m v + 1) m.cables near
  where
    near : (v w : ℕ) → IsEdge (map_edges m.cables) v w → level m w ≤ level m v + 1
    near v w e =
        let low = edge-low (length m.vertices) m.cables v w (cables-low (length m.vertices) m.cables r.cabled_vertices) e in
        let from = levels_are_distances m v r joined low.0 in
        let to = levels_are_distances m w r joined low.1 in
        let l : level m w ≤ suc (level m v) = to.least (suc (level m v)) (step from.path e) in
        omega arith

count-most : (n : ℕ) (test : ℕ → Bool) → count_failing n test ≤ n
count-most zero test = omega arith
count-most (suc k) test = by (test k) (count-most k test)
  where
    by : (b : Bool) → count_failing k test ≤ k → count_failing k test + (if b then 0 else 1) ≤ suc k
    by true l = omega arith
    by false l = omega arith

root-level : (m : NetMap) → IsMap m → IsConnected m → 0 < length m.vertices → level m (root m) ≤ 0
root-level m r joined some = (levels_are_distances m (root m) r joined (root-there m some)).least zero start

-- where lowering begins
pub first-above : (m : NetMap) → IsMap m → IsConnected m → IsAbove (level m) (set (replicate (length m.vertices) (length m.vertices)) (root m) 0)
first-above m r joined = record { above = λ u l. at u (let long = length-set (replicate (length m.vertices) (length m.vertices)) (root m) 0 in let long2 = length-replicate (length m.vertices) (length m.vertices) in let k : u < length m.vertices = omega arith in k) (cases_order u (root m)) }
  where
    other : (u : ℕ) → u < length m.vertices → (u ≡ root m → ⊥) → level m u ≤ get_or (set (replicate (length m.vertices) (length m.vertices)) (root m) 0) u 0
    other u l differ =
        let same = get_or-set_other (replicate (length m.vertices) (length m.vertices)) (root m) u 0 0 differ in
        let value = get_or-replicate (length m.vertices) u (length m.vertices) 0 l in
        let most : level m u ≤ length m.vertices = count-most (length m.vertices) _ in
        omega arith

    at : (u : ℕ) → u < length m.vertices → (u ≡ root m) ⊎ ((u < root m) ⊎ (root m < u)) → level m u ≤ get_or (set (replicate (length m.vertices) (length m.vertices)) (root m) 0) u 0
    at u l (inl e) =
        let zero_level : level m u ≤ 0 = subst (λ v. level m v ≤ 0) (sym e) (root-level m r joined (let k : 0 < length m.vertices = omega arith in k)) in
        omega arith
    at u l (inr (inl a)) = other u l (λ e. absurd (omega arith))
    at u l (inr (inr a)) = other u l (λ e. absurd (omega arith))

pub first-root : (m : NetMap) → 0 < length m.vertices → get_or (set (replicate (length m.vertices) (length m.vertices)) (root m) 0) (root m) 0 ≡ 0
first-root m some = get_or-set_same (replicate (length m.vertices) (length m.vertices)) (root m) 0 0 (let long = length-replicate (length m.vertices) (length m.vertices) in let low = root-there m some in let k : root m < length (replicate (length m.vertices) (length m.vertices)) = omega arith in k)

-- levels that are settled are no longer than paths
settled-steps : (cs : List MapCable) (ls : List ℕ) (x v k : ℕ) → AllByRecursion (λ c. (get_or ls c.w 0 ≤ get_or ls c.v 0 + 1) × (get_or ls c.v 0 ≤ get_or ls c.w 0 + 1)) cs → get_or ls x 0 ≡ 0 → Steps (map_edges cs) x k v → get_or ls v 0 ≤ k
settled-steps cs ls x v k settled z (start) = omega arith
settled-steps cs ls x v k settled z (step {m = j} {v = u} {w = w} p e) =
    let before = settled-steps cs ls x u j settled z p in
    let near : get_or ls w 0 ≤ get_or ls u 0 + 1 = edge-from_all (λ a b. get_or ls b 0 ≤ get_or ls a 0 + 1) cs u w settled e in
    omega arith

pub levels-found : (m : NetMap) (ls : List ℕ) → IsMap m → IsConnected m → length ls ≡ length m.vertices → IsAbove (level m) ls → (0 < length m.vertices → get_or ls (root m) 0 ≡ 0) → lowers_along m.cables ls ≡ false → ls ≡ levels m
levels-found m ls r joined long is zero_root still =
    ext_get_or 0 ls (levels m) (long ∙ sym (length-map (numbers_below (length m.vertices)) (level m) ∙ length-numbers (length m.vertices))) at
  where
    at : (u : ℕ) → u < length ls → get_or ls u 0 ≡ get_or (levels m) u 0
    at u l =
        let inside : u < length m.vertices = omega arith in
        let settled = (along-settled m.cables ls still).1 in
        let path = (levels_are_distances m u r joined inside).path in
        let most : get_or ls u 0 ≤ level m u = settled-steps m.cables ls (root m) u (level m u) settled (zero_root (let k : 0 < length m.vertices = omega arith in k)) path in
        let least = is.above u l in
        let same : get_or ls u 0 ≡ level m u = omega arith in
        same ∙ sym (map-at (level m) (length m.vertices) u 0 inside)

pub levels-long : (m : NetMap) → length (levels m) ≡ length m.vertices
levels-long m = length-map (numbers_below (length m.vertices)) (level m) ∙ length-numbers (length m.vertices)

pub first-long : (n r : ℕ) → length (set (replicate n n) r 0) ≡ n
first-long n r = length-set (replicate n n) r 0 ∙ length-replicate n n
