-- The marks of what is left joined to a vertex.
use Rattle.std.proofs.Common.{◌≡◌, ◌<◌, ◌≤◌, ◌+◌, ℕ, zero, suc, List, [], ◌∷◌, ◌++◌, map, length, replicate, get_or, set, Bool, true, false, refl, ap, sym, ◌∙◌, subst, true≢false, arith, nat_eq, if◌then◌else◌, get_or-set_same, ◌⊎◌, inl, inr}
use Rattle.std.specs.List.{AllByRecursion}
use Rattle.std.proofs.Math.ListN.{length-set}
use Rattle.std.proofs.lemmas.Bool.{false≢true, cases_order}
use Rattle.std.proofs.lemmas.Bool.Decides.{Decides-eqb}
use Rattle.std.proofs.lemmas.List.{ext_get_or, map-append, length-map, length-replicate, get_or_append_left, get_or_at}
use Rattle.journal_defs.specs.Counting.{numbers_below, count_failing}
use Rattle.journal_defs.specs.Edges.{IsEdge, Steps, is_among, within, edges_between}
use Rattle.journal_defs.specs.Edges.Steps.{start, step}
use Rattle.journal_defs.proofs.Reach.{within-steps, steps-within}
use Rattle.journal_defs.proofs.Simple.{Holds, shortest}
use Rattle.map_defs.specs.declared.vertex.MapCable.{MapCable}
use Rattle.map_defs.specs.NetMap.{NetMap, MapPort, IsMap, map_edges, map_ends}
use Rattle.map_defs.specs.Core.{without, side}
use Rattle.journal_defs.proofs.Members.{length-numbers}
use Rattle.map_defs.proofs.Levels.{number-among}
use Rattle.core_map.specs.Marks.{marks_of, spreads_along}
use Rattle.core_map.proofs.Spreading.{AreReached, set-reached, along-settled, settled-steps, all-without}

-- what a list over the numbers below one has at a place
pub map-at : {X : Type 0} (f : ℕ → X) (n k : ℕ) (d : X) → k < n → get_or (map f (numbers_below n)) k d ≡ f k
map-at f zero k d l = absurd (omega arith)
map-at f (suc n) k d l = ap (λ xs. get_or xs k d) (map-append f (numbers_below n) (n ∷ [])) ∙ by (cases_order k n) (map-at f n k d)
  where
    long : length (map f (numbers_below n)) ≡ n
    long = length-map (numbers_below n) f ∙ length-numbers n

    by : (k ≡ n) ⊎ ((k < n) ⊎ (n < k)) → (k < n → get_or (map f (numbers_below n)) k d ≡ f k) → get_or (map f (numbers_below n) ++ f n ∷ []) k d ≡ f k
    by (inl e) rest = get_or_at (map f (numbers_below n)) (f n) [] d k (long ∙ sym e) ∙ ap f (sym e)
    by (inr (inl a)) rest = get_or_append_left (map f (numbers_below n)) (f n ∷ []) d k (subst (λ j. k < j) (sym long) a) ∙ rest a
    by (inr (inr a)) rest = absurd (omega arith)

pub long-numbers : {X : Type 0} (f : ℕ → X) (n : ℕ) → length (map f (numbers_below n)) ≡ n
long-numbers f n = length-map (numbers_below n) f ∙ length-numbers n

-- both vertices of each cable are there
pub cables-low : (n : ℕ) (cs : List MapCable) → AllByRecursion (λ (d : MapPort). d.v < n) (map_ends cs) → AllByRecursion (λ c. (c.v < n) × (c.w < n)) cs
cables-low n [] all = tt
cables-low n (c ∷ cs) all = ((all.0, all.1.0), cables-low n cs all.1.1)

edge-low : (n : ℕ) (cs : List MapCable) (v w : ℕ) → AllByRecursion (λ c. (c.v < n) × (c.w < n)) cs → IsEdge (map_edges cs) v w → w < n
edge-low n [] v w all e = absurd e
edge-low n (c ∷ cs) v w all (inl p) = subst (λ x. x < n) p.1 all.0.1
edge-low n (c ∷ cs) v w all (inr (inl p)) = subst (λ x. x < n) p.1 all.0.0
edge-low n (c ∷ cs) v w all (inr (inr e)) = edge-low n cs v w all.1 e

count-most : (n : ℕ) (test : ℕ → Bool) → count_failing n test ≤ n
count-most zero test = omega arith
count-most (suc k) test = by (test k) (count-most k test)
  where
    by : (b : Bool) → count_failing k test ≤ k → count_failing k test + (if b then 0 else 1) ≤ suc k
    by true l = omega arith
    by false l = omega arith

-- a path leads to what lies within as many cables as there are vertices
pub reached-within : (n : ℕ) (cs : List MapCable) (v u j : ℕ) → AllByRecursion (λ c. (c.v < n) × (c.w < n)) cs → v < n → Steps (map_edges cs) v j u → is_among nat_eq (within nat_eq (map_edges cs) v n) u ≡ true
reached-within n cs v u j low l path =
    let es = map_edges cs in
    let held : Holds nat_eq es (numbers_below n) v = record { first = number-among n v l; others = λ x w e. number-among n w (edge-low n cs x w low e) } in
    let all : length (numbers_below n) ≡ n = length-numbers n in
    let short : Steps es v (edges_between nat_eq es n v u) u = subst (λ k. Steps es v (edges_between nat_eq es k v u) u) all (shortest nat_eq Decides-eqb es (numbers_below n) v u j held path) in
    steps-within nat_eq Decides-eqb es v u (edges_between nat_eq es n v u) n short (count-most n _)

within-low : (n : ℕ) (cs : List MapCable) (v u k : ℕ) → AllByRecursion (λ c. (c.v < n) × (c.w < n)) cs → v < n → Steps (map_edges cs) v k u → u < n
within-low n cs v u k low l (start) = l
within-low n cs v u k low l (step {v = x} {w = w} p e) = edge-low n cs x w low e

-- a vertex of a side is one of the map
pub side-low : (m : NetMap) (k v u : ℕ) → IsMap m → v < length m.vertices → is_among nat_eq (side m k v) u ≡ true → u < length m.vertices
side-low m k v u r l e =
    let cs = without m.cables k in
    let low = all-without (λ c. (c.v < length m.vertices) × (c.w < length m.vertices)) m.cables k (cables-low (length m.vertices) m.cables r.cabled_vertices) in
    let p = within-steps nat_eq Decides-eqb (map_edges cs) v u (length m.vertices) e in
    within-low (length m.vertices) cs v u p.count low l p.path

-- where spreading begins
pub first-reached : (es : List (ℕ × ℕ)) (n v : ℕ) → AreReached es v (set (replicate n false) v true)
first-reached es n v = set-reached es v (replicate n false) v (record { each = λ u e. absurd (none n u e) }) (record { count = 0; path = start })
  where
    none : (k u : ℕ) → get_or (replicate k false) u false ≡ true → ⊥
    none zero u e = false≢true e
    none (suc k) zero e = false≢true e
    none (suc k) (suc u) e = none k u e

pub first-marked : (n v : ℕ) → v < n → get_or (set (replicate n false) v true) v false ≡ true
first-marked n v l = get_or-set_same (replicate n false) v true false (subst (λ k. v < k) (sym (length-replicate n false)) l)

pub first-long : (n v : ℕ) → length (set (replicate n false) v true) ≡ n
first-long n v = length-set (replicate n false) v true ∙ length-replicate n false

-- marks that are settled are those of the side
pub side-found : (m : NetMap) (k v : ℕ) (bs : List Bool) → IsMap m → v < length m.vertices → length bs ≡ length m.vertices → AreReached (map_edges (without m.cables k)) v bs → get_or bs v false ≡ true → spreads_along (without m.cables k) bs ≡ false → bs ≡ marks_of m (side m k v)
side-found m k v bs r l long are marked still =
    ext_get_or false bs (marks_of m (side m k v)) (long ∙ sym (long-numbers (is_among nat_eq (side m k v)) (length m.vertices))) at
  where
    low : AllByRecursion (λ c. (c.v < length m.vertices) × (c.w < length m.vertices)) (without m.cables k)
    low = all-without (λ c. (c.v < length m.vertices) × (c.w < length m.vertices)) m.cables k (cables-low (length m.vertices) m.cables r.cabled_vertices)

    same : (u : ℕ) (b c : Bool) → get_or bs u false ≡ b → is_among nat_eq (side m k v) u ≡ c → get_or bs u false ≡ is_among nat_eq (side m k v) u
    same u true true p q = p ∙ sym q
    same u false false p q = p ∙ sym q
    same u true false p q =
        let path = are.each u p in
        absurd (true≢false (sym (reached-within (length m.vertices) (without m.cables k) v u path.count low l path.path) ∙ q))
    same u false true p q =
        let path = within-steps nat_eq Decides-eqb (map_edges (without m.cables k)) v u (length m.vertices) q in
        absurd (true≢false (sym (settled-steps (without m.cables k) bs v u path.count (along-settled (without m.cables k) bs still).1 marked path.path) ∙ p))

    at : (u : ℕ) → u < length bs → get_or bs u false ≡ get_or (marks_of m (side m k v)) u false
    at u h = same u (get_or bs u false) (is_among nat_eq (side m k v) u) refl refl ∙ sym (map-at (is_among nat_eq (side m k v)) (length m.vertices) u false (omega arith))
