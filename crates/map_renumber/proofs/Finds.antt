-- The steps of a search by levels.
use Rattle.std.proofs.Common.{◌≡◌, ◌≢◌, ◌<◌, ◌+◌, ◌⊎◌, inl, inr, ℕ, zero, suc, List, [], ◌∷◌, ◌++◌, true, false, length, length-append, set, replicate, Option, Some, None, refl, ap, sym, ◌∙◌, subst, arith}
use Rattle.std.specs.Prelude.{ℤ, ◌+ℤ◌, slice_get}
use Rattle.std.proofs.Math.ListN.{length-set}
use Rattle.std.proofs.lemmas.Bool.{cases_eq, cases_order}
use Rattle.journal_defs.specs.Tree.{Node, node_below}
use Rattle.journal_defs.specs.Tree.Node.{Mapper}
use Rattle.map_defs.specs.NetMap.{NetMap, MapPort, IsMap, host_of_vertex, map_far}
use Rattle.map_renumber.specs.Canon.{entered, start_port}
use Rattle.map_renumber.specs.Search.{HasNumber, turn_at, after, free, IsDone, GoesOn, IsBehind, IsSearch}
use Rattle.map_quotient.proofs.Places.{one-there, push-cases, push-old, push-new, set-other, set-same, get-less}
use Rattle.map_laws.proofs.Least.{below-get}
use Rattle.map_renumber.proofs.Levels.{at_start, enters-new, least-new, rising-new}

-- one place taken, one fewer has nothing
pub free-set : (os : List (Option ℕ)) (i x : ℕ) → slice_get os i ≡ Some None → suc (free (set os i (Some x))) ≡ free os
free-set [] i x e = cc
free-set (None ∷ os) zero x e = refl
free-set (Some y ∷ os) zero x e = cc
free-set (None ∷ os) (suc i) x e = ap suc (free-set os i x e)
free-set (Some y ∷ os) (suc i) x e = free-set os i x e

pub free-replicate : (n : ℕ) → free (replicate n None) ≡ n
free-replicate zero = refl
free-replicate (suc n) = ap suc (free-replicate n)

-- what is done stays done
done-next : (v s next k : ℕ) → IsDone v s next k → IsDone v s next (k + 1)
done-next v s next k (inl l) = inl l
done-next v s next k (inr (e, l)) = inr (e, (let m : s < k + 1 = omega arith in m))

done-cases : (v s next k : ℕ) → IsDone v s next (k + 1) → IsDone v s next k ⊎ ((v ≡ next) × (s ≡ k))
done-cases v s next k (inl l) = inl (inl l)
done-cases v s next k (inr (e, l)) = by (cases_order s k)
  where
    by : (s ≡ k) ⊎ ((s < k) ⊎ (k < s)) → IsDone v s next k ⊎ ((v ≡ next) × (s ≡ k))
    by (inl q) = inr (e, q)
    by (inr (inl q)) = inl (inr (e, q))
    by (inr (inr q)) = absurd (omega arith)

behind-next : (m : NetMap) (found : List MapPort) (ways : List Node) (next k : ℕ) (u : Node) (d : MapPort) → IsBehind m found ways next k u d → IsBehind m found ways next (k + 1) u d
behind-next m found ways next k u d b = record { vertex = b.vertex; place = b.place; way = b.way; entry = b.entry; done = done-next b.vertex b.place next k b.done; is_way = b.is_way; is_entry = b.is_entry; is_after = b.is_after; far = b.far; at_start = b.at_start }

module _ (m : NetMap) (found : List MapPort) (numbers : List (Option ℕ)) (ways : List Node) (next k : ℕ) (s : IsSearch m found numbers ways next k) where
  -- a port with no cable, or with a vertex behind it that was found
  pub search-skip : (d : MapPort) → slice_get found next ≡ Some d → ((e : MapPort) → map_far m (record { v = d.v; p = d.p +ℤ turn_at k }) ≡ Some e → (x : ℕ) × HasNumber numbers e.v x) → IsSearch m found numbers ways next (k + 1)
  search-skip d at known = record {
    counted = s.counted;
    left = s.left;
    one_each = s.one_each;
    start_way = s.start_way;
    start_entry = s.start_entry;
    placed = s.placed;
    named = s.named;
    enters = s.enters;
    least = s.least;
    rising = s.rising;
    behind = λ v u f a b. by_behind v u f (s.behind v u f a b);
    closed = λ v t f e done below a goes far. by_closed v t f e below a goes far (done-cases v t next k done);
  }
    where
      by_behind : (v : ℕ) (u : Node) (f : MapPort) → (v ≡ 0) ⊎ IsBehind m found ways next k u f → (v ≡ 0) ⊎ IsBehind m found ways next (k + 1) u f
      by_behind v u f (inl z) = inl z
      by_behind v u f (inr b) = inr (behind-next m found ways next k u f b)

      by_closed : (v t : ℕ) (f e : MapPort) → t < 31 → slice_get found v ≡ Some f → GoesOn m v f → map_far m (record { v = f.v; p = f.p +ℤ turn_at t }) ≡ Some e → IsDone v t next k ⊎ ((v ≡ next) × (t ≡ k)) → (x : ℕ) × HasNumber numbers e.v x
      by_closed v t f e below a goes far (inl done) = s.closed v t f e done below a goes far
      by_closed v t f e below a goes far (inr (p, q)) =
          let one : f ≡ d = one-there found next f d (subst (λ n. slice_get found n ≡ Some f) p a) at in
          known e (ap (map_far m) (λ i. record { v = (sym one i).v; p = (sym one i).p +ℤ turn_at (sym q i) }) ∙ far)

  -- all places of a vertex
  pub search-row : k ≡ 31 → IsSearch m found numbers ways (next + 1) 0
  search-row all = record {
    counted = s.counted;
    left = s.left;
    one_each = s.one_each;
    start_way = s.start_way;
    start_entry = s.start_entry;
    placed = s.placed;
    named = s.named;
    enters = s.enters;
    least = s.least;
    rising = s.rising;
    behind = λ v u f a b. by_behind v u f (s.behind v u f a b);
    closed = λ v t f e done below a goes far. s.closed v t f e (by_done v t below done) below a goes far;
  }
    where
      by_done : (v t : ℕ) → t < 31 → IsDone v t (next + 1) 0 → IsDone v t next k
      by_done v t below (inl l) = by (cases_order v next)
        where
          by : (v ≡ next) ⊎ ((v < next) ⊎ (next < v)) → IsDone v t next k
          by (inl e) = inr (e, (let q : t < k = omega arith in q))
          by (inr (inl q)) = inl q
          by (inr (inr q)) = absurd (omega arith)
      by_done v t below (inr (e, l)) = absurd (omega arith)

      forward : (v t : ℕ) → IsDone v t next k → IsDone v t (next + 1) 0
      forward v t (inl l) = inl (let q : v < next + 1 = omega arith in q)
      forward v t (inr (e, l)) = inl (let q : v < next + 1 = omega arith in q)

      by_behind : (v : ℕ) (u : Node) (f : MapPort) → (v ≡ 0) ⊎ IsBehind m found ways next k u f → (v ≡ 0) ⊎ IsBehind m found ways (next + 1) 0 u f
      by_behind v u f (inl z) = inl z
      by_behind v u f (inr b) = inr (record { vertex = b.vertex; place = b.place; way = b.way; entry = b.entry; done = forward b.vertex b.place b.done; is_way = b.is_way; is_entry = b.is_entry; is_after = b.is_after; far = b.far; at_start = b.at_start })

  -- a host other than vertex 0, or a place past the vertices that were found
  pub search-past : k ≡ 0 → ((d : MapPort) → slice_get found next ≡ Some d → GoesOn m next d → ⊥) → IsSearch m found numbers ways (next + 1) 0
  search-past none stops = record {
    counted = s.counted;
    left = s.left;
    one_each = s.one_each;
    start_way = s.start_way;
    start_entry = s.start_entry;
    placed = s.placed;
    named = s.named;
    enters = s.enters;
    least = s.least;
    rising = s.rising;
    behind = λ v u f a b. by_behind v u f (s.behind v u f a b);
    closed = λ v t f e done below a goes far. by_closed v t f e below a goes far done;
  }
    where
      by_behind : (v : ℕ) (u : Node) (f : MapPort) → (v ≡ 0) ⊎ IsBehind m found ways next k u f → (v ≡ 0) ⊎ IsBehind m found ways (next + 1) 0 u f
      by_behind v u f (inl z) = inl z
      by_behind v u f (inr b) = inr (record { vertex = b.vertex; place = b.place; way = b.way; entry = b.entry; done = forward b.vertex b.place b.done; is_way = b.is_way; is_entry = b.is_entry; is_after = b.is_after; far = b.far; at_start = b.at_start })
        where
          forward : (v t : ℕ) → IsDone v t next k → IsDone v t (next + 1) 0
          forward v t (inl l) = inl (let q : v < next + 1 = omega arith in q)
          forward v t (inr (e, l)) = absurd (omega arith)

      by_closed : (v t : ℕ) (f e : MapPort) → t < 31 → slice_get found v ≡ Some f → GoesOn m v f → map_far m (record { v = f.v; p = f.p +ℤ turn_at t }) ≡ Some e → IsDone v t (next + 1) 0 → (x : ℕ) × HasNumber numbers e.v x
      by_closed v t f e below a goes far (inr (q, l)) = absurd (omega arith)
      by_closed v t f e below a goes far (inl l) = by (cases_order v next)
        where
          by : (v ≡ next) ⊎ ((v < next) ⊎ (next < v)) → (x : ℕ) × HasNumber numbers e.v x
          by (inl q) = absurd (stops f (subst (λ n. slice_get found n ≡ Some f) q a) (subst (λ n. GoesOn m n f) q goes))
          by (inr (inl q)) = s.closed v t f e (inl q) below a goes far
          by (inr (inr q)) = absurd (omega arith)

  -- a new vertex
  module _ (is_map : IsMap m) (h : ℕ) (host : host_of_vertex m 0 ≡ Some h) (u : Node) (d e : MapPort) (below : k < 31) (way : slice_get ways next ≡ Some u) (entry : slice_get found next ≡ Some d) (far : map_far m (record { v = d.v; p = d.p +ℤ turn_at k }) ≡ Some e) (goes : GoesOn m next d) (vacant : slice_get numbers e.v ≡ Some None) where
    abbrev new_way : Node
    new_way = after u (turn_at k)

    abbrev more_numbers : List (Option ℕ)
    more_numbers = set numbers e.v (Some (length found))

    missing : (x : ℕ) → HasNumber numbers e.v x → ⊥
    missing x q = let z : Some (Some x) ≡ Some None = sym q ∙ vacant in cc

    inside : e.v < length numbers
    inside = get-less numbers e.v None vacant

    own : HasNumber more_numbers e.v (length found)
    own = set-same numbers e.v (Some (length found)) inside

    other : (x v : ℕ) → HasNumber numbers x v → x ≢ e.v
    other x v q same = missing v (subst (λ y. HasNumber numbers y v) same q)

    kept : (x v : ℕ) → HasNumber numbers x v → HasNumber more_numbers x v
    kept x v q = set-other numbers e.v (Some (length found)) x (other x v q) ∙ q

    one-new : (v : ℕ) (y : Node) (f : MapPort) → slice_get (ways ++ new_way ∷ []) v ≡ Some y → slice_get (found ++ e ∷ []) v ≡ Some f → ((slice_get ways v ≡ Some y) × (slice_get found v ≡ Some f)) ⊎ ((v ≡ length found) × (new_way ≡ y) × (e ≡ f))
    one-new v y f a b = by (push-cases ways new_way v y a) (push-cases found e v f b)
      where
        by : (slice_get ways v ≡ Some y) ⊎ ((v ≡ length ways) × (new_way ≡ y)) → (slice_get found v ≡ Some f) ⊎ ((v ≡ length found) × (e ≡ f)) → ((slice_get ways v ≡ Some y) × (slice_get found v ≡ Some f)) ⊎ ((v ≡ length found) × (new_way ≡ y) × (e ≡ f))
        by (inl p) (inl q) = inl (p, q)
        by (inl p) (inr q) = absurd (let l = get-less ways v y p in let n = s.one_each in let z = q.0 in omega arith)
        by (inr p) (inl q) = absurd (let l = get-less found v f q in let n = s.one_each in let z = p.0 in omega arith)
        by (inr p) (inr q) = inr (q.0, p.1, q.1)

    pub search-find : IsSearch m (found ++ e ∷ []) (set numbers e.v (Some (length found))) (ways ++ after u (turn_at k) ∷ []) next (k + 1)
    search-find = record {
      counted = length-set numbers e.v (Some (length found)) ∙ s.counted;
      left = (let a = free-set numbers e.v (length found) vacant in let b = length-append found (e ∷ []) in let c = s.left in omega arith);
      one_each = (let a = length-append ways (new_way ∷ []) in let b = length-append found (e ∷ []) in let c = s.one_each in omega arith);
      start_way = push-old ways new_way 0 Mapper s.start_way;
      start_entry = push-old found e 0 start_port s.start_entry;
      placed = λ v f a. placed v f (push-cases found e v f a);
      named = λ x v q. named x v q (cases_eq x e.v);
      enters = λ v y f a b. enters v y f (one-new v y f a b);
      least = λ v y f x q a b. least v y f x q (one-new v y f a b);
      rising = λ v w y x l a b. rising v w y x l (push-cases ways new_way v y a) (push-cases ways new_way w x b);
      behind = λ v y f a b. behind v y f (one-new v y f a b);
      closed = λ v t f g done low a on there. closed v t f g low on there (push-cases found e v f a) (done-cases v t next k done);
    }
      where
        placed : (v : ℕ) (f : MapPort) → (slice_get found v ≡ Some f) ⊎ ((v ≡ length found) × (e ≡ f)) → HasNumber more_numbers f.v v
        placed v f (inl a) = kept f.v v (s.placed v f a)
        placed v f (inr (a, b)) = subst (λ n. HasNumber more_numbers f.v n) (sym a) (subst (λ (y : MapPort). HasNumber more_numbers y.v (length found)) b own)

        named : (x v : ℕ) → HasNumber more_numbers x v → ((x ≡ e.v) ⊎ (x ≢ e.v)) → (p : ℤ) × (slice_get (found ++ e ∷ []) v ≡ Some (record { v = x; p = p }))
        named x v q (inr differs) = let r = s.named x v (sym (set-other numbers e.v (Some (length found)) x differs) ∙ q) in (r.0, push-old found e v (record { v = x; p = r.0 }) r.1)
        named x v q (inl same) =
            let one : Some v ≡ Some (length found) = one-there more_numbers e.v (Some v) (Some (length found)) (subst (λ y. HasNumber more_numbers y v) same q) own in
            let is : v ≡ length found = cc in
            (e.p, ap (slice_get (found ++ e ∷ [])) is ∙ push-new found e ∙ ap Some (λ i. record { v = sym same i; p = e.p }))

        enters : (v : ℕ) (y : Node) (f : MapPort) → ((slice_get ways v ≡ Some y) × (slice_get found v ≡ Some f)) ⊎ ((v ≡ length found) × (new_way ≡ y) × (e ≡ f)) → entered m y ≡ Some f
        enters v y f (inl p) = s.enters v y f p.0 p.1
        enters v y f (inr p) = ap (entered m) (sym p.1) ∙ enters-new m is_map h host found numbers ways next k s u d e below way entry far goes ∙ ap Some p.2

        least : (v : ℕ) (y : Node) (f : MapPort) (x : Node) (q : ℤ) → ((slice_get ways v ≡ Some y) × (slice_get found v ≡ Some f)) ⊎ ((v ≡ length found) × (new_way ≡ y) × (e ≡ f)) → entered m x ≡ Some (record { v = f.v; p = q }) → node_below x y ≡ false
        least v y f x q (inl p) r = s.least v y f x q p.0 p.1 r
        least v y f x q (inr p) r = ap (node_below x) (sym p.1) ∙ least-new m is_map h host found numbers ways next k s u d e below way entry far goes missing x q (r ∙ ap Some (λ i. record { v = (sym p.2 i).v; p = q }))

        rising : (v w : ℕ) (y x : Node) → v < w → (slice_get ways v ≡ Some y) ⊎ ((v ≡ length ways) × (new_way ≡ y)) → (slice_get ways w ≡ Some x) ⊎ ((w ≡ length ways) × (new_way ≡ x)) → node_below y x ≡ true
        rising v w y x l (inl p) (inl q) = s.rising v w y x l p q
        rising v w y x l (inr p) (inl q) = absurd (let b = get-less ways w x q in let z = p.0 in omega arith)
        rising v w y x l (inr p) (inr q) = absurd (let z = p.0 in let a = q.0 in omega arith)
        rising v w y x l (inl p) (inr q) =
            let f = found-of v y p in
            ap (node_below y) (sym q.1) ∙ rising-new m is_map h host found numbers ways next k s u d e below way entry far goes missing v y f.0 p f.1
          where
            found-of : (n : ℕ) (z : Node) → slice_get ways n ≡ Some z → (f : MapPort) × (slice_get found n ≡ Some f)
            found-of n z a = below-get found n (let b = get-less ways n z a in let c = s.one_each in omega arith)

        behind : (v : ℕ) (y : Node) (f : MapPort) → ((slice_get ways v ≡ Some y) × (slice_get found v ≡ Some f)) ⊎ ((v ≡ length found) × (new_way ≡ y) × (e ≡ f)) → (v ≡ 0) ⊎ IsBehind m (found ++ e ∷ []) (ways ++ new_way ∷ []) next (k + 1) y f
        behind v y f (inl p) = old (s.behind v y f p.0 p.1)
          where
            old : (v ≡ 0) ⊎ IsBehind m found ways next k y f → (v ≡ 0) ⊎ IsBehind m (found ++ e ∷ []) (ways ++ new_way ∷ []) next (k + 1) y f
            old (inl z) = inl z
            old (inr b) = inr (record { vertex = b.vertex; place = b.place; way = b.way; entry = b.entry; done = done-next b.vertex b.place next k b.done; is_way = push-old ways new_way b.vertex b.way b.is_way; is_entry = push-old found e b.vertex b.entry b.is_entry; is_after = b.is_after; far = b.far; at_start = b.at_start })
        behind v y f (inr p) = inr (record {
          vertex = next;
          place = k;
          way = u;
          entry = d;
          done = inr (refl, (let l : k < k + 1 = omega arith in l));
          is_way = push-old ways new_way next u way;
          is_entry = push-old found e next d entry;
          is_after = sym p.1;
          far = far ∙ ap Some p.2;
          at_start = λ z. (at_start m is_map h host found numbers ways next k s u d e below way entry far goes (one-there ways 0 u Mapper (subst (λ n. slice_get ways n ≡ Some u) z way) s.start_way)).1;
        })

        closed : (v t : ℕ) (f g : MapPort) → t < 31 → GoesOn m v f → map_far m (record { v = f.v; p = f.p +ℤ turn_at t }) ≡ Some g → (slice_get found v ≡ Some f) ⊎ ((v ≡ length found) × (e ≡ f)) → IsDone v t next k ⊎ ((v ≡ next) × (t ≡ k)) → (x : ℕ) × HasNumber more_numbers g.v x
        closed v t f g low on there (inl a) (inl done) = let x = s.closed v t f g done low a on there in (x.0, kept g.v x.0 x.1)
        closed v t f g low on there (inl a) (inr (p, q)) =
            let one : f ≡ d = one-there found next f d (subst (λ n. slice_get found n ≡ Some f) p a) entry in
            let two : Some g ≡ Some e = sym there ∙ ap (map_far m) (λ i. record { v = (one i).v; p = (one i).p +ℤ turn_at (q i) }) ∙ far in
            let same : g ≡ e = cc in
            (length found, subst (λ (y : MapPort). HasNumber more_numbers y.v (length found)) (sym same) own)
        closed v t f g low on there (inr (a, b)) (inl (inl l)) = absurd (let z = get-less found next d entry in omega arith)
        closed v t f g low on there (inr (a, b)) (inl (inr (p, l))) = absurd (let z = get-less found next d entry in omega arith)
        closed v t f g low on there (inr (a, b)) (inr (p, q)) = absurd (let z = get-less found next d entry in omega arith)
