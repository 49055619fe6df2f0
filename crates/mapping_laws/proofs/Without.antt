-- A map without what is outside: the other vertices in their order, and the cables between them under their new numbers.
use Rattle.std.proofs.Common.{◌≡◌, ◌<◌, ℕ, zero, suc, Bool, true, false, List, [], ◌∷◌, ◌++◌, map, length, ◌⊎◌, inl, inr, Some, refl, sym, ◌∙◌, ap, subst, arith}
use Rattle.std.specs.Prelude.{slice_get}
use Rattle.std.specs.List.{AllByRecursion}
use Rattle.std.proofs.lemmas.Bool.{cases_order}
use Rattle.std.proofs.lemmas.Bool.Decides.{nat_tests}
use Rattle.net_defs.proofs.Distinct.{all-push}
use Rattle.journal_defs.proofs.Members.{IsMember, member-left, member-right, member-place, all-member, all-from-members}
use Rattle.map_defs.specs.declared.vertex.MapCable.{MapCable}
use Rattle.map_defs.specs.declared.vertex.MapVertex.{MapVertex}
use Rattle.map_defs.specs.NetMap.{NetMap, MapPort, IsCabled, AreInOrder, first_end, second_end, port_below, host_of_vertex}
use Rattle.map_defs.specs.NetMap.IsCabled.{forth, back}
use Rattle.map_defs.specs.Core.{is_outside}
use Rattle.map_defs.specs.Quotient.{named}
use Rattle.map_laws.proofs.OneMap.{AreRising, place-member}
use Rattle.mapping_laws.proofs.Cables.{quotient_exists}
use Rattle.circ_defs.specs.CircuitMap.{IsKeptCable, IsWithoutOutside}
use Rattle.circ_laws.proofs.Telling.{circuit-true}
use Rattle.mapping_laws.specs.Trees.{WithoutOutsideExists, CircuitMapExists}

-- places of a list that rises
places-rise : (us : List ℕ) (v w u x : ℕ) → AreRising (λ y z. y < z) us → v < w → slice_get us v ≡ Some u → slice_get us w ≡ Some x → u < x
places-rise [] v w u x s l e f = cc
places-rise (y ∷ us) v zero u x s l e f = absurd (omega (arith, l))
places-rise (y ∷ us) zero (suc w) u x s l e f = let one : y ≡ u = cc in subst (λ z. z < x) one (all-member (λ z. y < z) x us s.0 (place-member us w x f))
places-rise (y ∷ us) (suc v) (suc w) u x s l e f = places-rise us v w u x s.1 (omega (arith, l)) e f

rise-push : (us : List ℕ) (k : ℕ) → AreRising (λ y z. y < z) us → AllByRecursion (λ y. y < k) us → AreRising (λ y z. y < z) (us ++ k ∷ [])
rise-push [] k s low = (tt, tt)
rise-push (y ∷ us) k s low = (all-push (λ z. y < z) us k s.0 low.0, rise-push us k s.1 low.1)

append-member : (x : ℕ) (xs : List ℕ) (k : ℕ) → IsMember x (xs ++ k ∷ []) → IsMember x xs ⊎ (x ≡ k)
append-member x [] k (inl e) = inr e
append-member x [] k (inr m) = absurd m
append-member x (y ∷ xs) k (inl e) = inl (inl e)
append-member x (y ∷ xs) k (inr m) = by (append-member x xs k m)
  where
    by : IsMember x xs ⊎ (x ≡ k) → IsMember x (y ∷ xs) ⊎ (x ≡ k)
    by (inl i) = inl (inr i)
    by (inr e) = inr e

-- the vertices below a number that aren't outside
record Kept (m : NetMap) (count : ℕ) : Type 0 where
  pub list : List ℕ
  pub rising : AreRising (λ y z. y < z) list
  pub each : (u : ℕ) → IsMember u list → (u < count) × (is_outside m u ≡ false)
  pub whole : (u : ℕ) → u < count → is_outside m u ≡ false → IsMember u list

keep : (m : NetMap) (count : ℕ) → Kept m count
keep m zero = record { list = []; rising = tt; each = λ u i. absurd i; whole = λ u l e. absurd (omega (arith, l)) }
keep m (suc k) = by (is_outside m k) refl (keep m k)
  where
    by : (b : Bool) → is_outside m k ≡ b → Kept m k → Kept m (suc k)
    by true e r = record {
      list = r.list;
      rising = r.rising;
      each = λ u i. (let in_it = r.each u i in let l = in_it.0 in (omega (arith, l), in_it.1));
      whole = λ u l f. of u l f (cases_order u k);
    }
      where
        of : (u : ℕ) → u < suc k → is_outside m u ≡ false → (u ≡ k) ⊎ ((u < k) ⊎ (k < u)) → IsMember u r.list
        of u l f (inl p) = let z : true ≡ false = sym e ∙ ap (is_outside m) (sym p) ∙ f in cc
        of u l f (inr (inl p)) = r.whole u p f
        of u l f (inr (inr p)) = absurd (omega (arith, l, p))
    by false e r = record {
      list = r.list ++ k ∷ [];
      rising = rise-push r.list k r.rising (all-from-members (λ y. y < k) r.list (λ y i. (r.each y i).0));
      each = λ u i. held u (append-member u r.list k i);
      whole = λ u l f. of u l f (cases_order u k);
    }
      where
        held : (u : ℕ) → IsMember u r.list ⊎ (u ≡ k) → (u < suc k) × (is_outside m u ≡ false)
        held u (inl i) = let in_it = r.each u i in let l = in_it.0 in (omega (arith, l), in_it.1)
        held u (inr p) = (omega (arith, p), ap (is_outside m) p ∙ e)

        of : (u : ℕ) → u < suc k → is_outside m u ≡ false → (u ≡ k) ⊎ ((u < k) ⊎ (k < u)) → IsMember u (r.list ++ k ∷ [])
        of u l f (inl p) = member-right u r.list (k ∷ []) (inl p)
        of u l f (inr (inl p)) = member-left u r.list (k ∷ []) (r.whole u p f)
        of u l f (inr (inr p)) = absurd (omega (arith, l, p))

module _ (kept : List ℕ) (rising : AreRising (λ y z. y < z) kept) where
  number-one : (v w u : ℕ) → slice_get kept v ≡ Some u → slice_get kept w ≡ Some u → v ≡ w
  number-one v w u a b = by (cases_order v w)
    where
      by : (v ≡ w) ⊎ ((v < w) ⊎ (w < v)) → v ≡ w
      by (inl e) = e
      by (inr (inl l)) = let s = places-rise kept v w u u rising l a b in absurd (omega (arith, s))
      by (inr (inr l)) = let s = places-rise kept w v u u rising l b a in absurd (omega (arith, s))

  number-below : (v w u x : ℕ) → slice_get kept v ≡ Some u → slice_get kept w ≡ Some x → u < x → v < w
  number-below v w u x a b l = by (cases_order v w)
    where
      by : (v ≡ w) ⊎ ((v < w) ⊎ (w < v)) → v < w
      by (inl e) = let z : Some u ≡ Some x = sym a ∙ ap (slice_get kept) e ∙ b in let s : u ≡ x = cc in absurd (omega (arith, l, s))
      by (inr (inl k)) = k
      by (inr (inr k)) = let s = places-rise kept w v x u rising k b a in absurd (omega (arith, s, l))

  -- ports under their new numbers stand in the same order
  port-kept : (d e : MapPort) (v w : ℕ) → slice_get kept v ≡ Some d.v → slice_get kept w ≡ Some e.v → port_below d e ≡ true → port_below (record { v = v; p = d.p }) (record { v = w; p = e.p }) ≡ true
  port-kept d e v w a b l = by (cases_order d.v e.v)
    where
      by : (d.v ≡ e.v) ⊎ ((d.v < e.v) ⊎ (e.v < d.v)) → port_below (record { v = v; p = d.p }) (record { v = w; p = e.p }) ≡ true
      by (inl s) = let t : v ≡ w = number-one v w e.v (a ∙ ap Some s) b in grind (arith, nat_tests)
      by (inr (inl s)) = let t : v < w = number-below v w d.v e.v a b s in grind (arith, nat_tests)
      by (inr (inr s)) = absurd (grind (arith, nat_tests))

  -- a cable is one of these, under new numbers
  record IsFrom (cs : List MapCable) (x : MapCable) : Type 0 where
    pub cable : MapCable
    pub member : IsMember cable cs
    pub first : slice_get kept x.v ≡ Some cable.v
    pub second : slice_get kept x.w ≡ Some cable.w
    pub p : x.p ≡ cable.p
    pub q : x.q ≡ cable.q

  record Moved (cs : List MapCable) : Type 0 where
    pub list : List MapCable
    pub in_order : AreInOrder list
    pub each : (x : MapCable) → IsMember x list → IsFrom cs x
    pub whole : (c : MapCable) (v w : ℕ) → IsMember c cs → slice_get kept v ≡ Some c.v → slice_get kept w ≡ Some c.w → IsMember (record { v = v; p = c.p; w = w; q = c.q }) list

  -- the place of a vertex, where it is kept
  place-or-not : (us : List ℕ) (u : ℕ) → ((v : ℕ) × (slice_get us v ≡ Some u)) ⊎ ((v : ℕ) → slice_get us v ≡ Some u → ⊥)
  place-or-not [] u = inr (λ v e. cc)
  place-or-not (y ∷ us) u = by (cases_order y u) (place-or-not us u)
    where
      later : ((v : ℕ) × (slice_get us v ≡ Some u)) ⊎ ((v : ℕ) → slice_get us v ≡ Some u → ⊥) → (y ≡ u → ⊥) → ((v : ℕ) × (slice_get (y ∷ us) v ≡ Some u)) ⊎ ((v : ℕ) → slice_get (y ∷ us) v ≡ Some u → ⊥)
      later (inl k) differ = inl (suc k.0, k.1)
      later (inr none) differ = inr nowhere
        where
          nowhere : (v : ℕ) → slice_get (y ∷ us) v ≡ Some u → ⊥
          nowhere zero e = differ (let one : y ≡ u = cc in one)
          nowhere (suc v) e = none v e

      by : (y ≡ u) ⊎ ((y < u) ⊎ (u < y)) → ((v : ℕ) × (slice_get us v ≡ Some u)) ⊎ ((v : ℕ) → slice_get us v ≡ Some u → ⊥) → ((v : ℕ) × (slice_get (y ∷ us) v ≡ Some u)) ⊎ ((v : ℕ) → slice_get (y ∷ us) v ≡ Some u → ⊥)
      by (inl e) r = inl (0, ap Some e)
      by (inr (inl l)) r = later r (λ e. absurd (omega (arith, l, e)))
      by (inr (inr l)) r = later r (λ e. absurd (omega (arith, l, e)))

  from-more : (c : MapCable) (cs : List MapCable) (x : MapCable) → IsFrom cs x → IsFrom (c ∷ cs) x
  from-more c cs x f = record { cable = f.cable; member = inr f.member; first = f.first; second = f.second; p = f.p; q = f.q }

  move : (cs : List MapCable) → AreInOrder cs → Moved cs
  move [] o = record { list = []; in_order = tt; each = λ x i. absurd i; whole = λ c v w i a b. absurd i }
  move (c ∷ cs) o = by (place-or-not kept c.v) (place-or-not kept c.w) (move cs o.2)
    where
      skip : ((v w : ℕ) → slice_get kept v ≡ Some c.v → slice_get kept w ≡ Some c.w → ⊥) → Moved cs → Moved (c ∷ cs)
      skip none r = record { list = r.list; in_order = r.in_order; each = λ x i. from-more c cs x (r.each x i); whole = λ d v w i a b. of d v w i a b }
        where
          of : (d : MapCable) (v w : ℕ) → (d ≡ c) ⊎ IsMember d cs → slice_get kept v ≡ Some d.v → slice_get kept w ≡ Some d.w → IsMember (record { v = v; p = d.p; w = w; q = d.q }) r.list
          of d v w (inl e) a b = absurd (none v w (a ∙ ap (λ (z : MapCable). Some z.v) e) (b ∙ ap (λ (z : MapCable). Some z.w) e))
          of d v w (inr i) a b = r.whole d v w i a b

      take_it : (i k : ℕ) → slice_get kept i ≡ Some c.v → slice_get kept k ≡ Some c.w → Moved cs → Moved (c ∷ cs)
      take_it i k at_v at_w r = record {
        list = new ∷ r.list;
        in_order = (port-kept (first_end c) (second_end c) i k at_v at_w o.0, all-from-members (λ x. port_below (first_end new) (first_end x) ≡ true) r.list (λ x j. later x (r.each x j)), r.in_order);
        each = λ x j. from x j;
        whole = λ d v w j a b. of d v w j a b;
      }
        where
          new : MapCable
          new = record { v = i; p = c.p; w = k; q = c.q }

          later : (x : MapCable) → IsFrom cs x → port_below (first_end new) (first_end x) ≡ true
          later x f =
              let below = all-member (λ d. port_below (first_end c) (first_end d) ≡ true) f.cable cs o.1 f.member in
              let moved = port-kept (first_end c) (first_end f.cable) i x.v at_v f.first below in
              subst (λ z. port_below (first_end new) (record { v = x.v; p = z }) ≡ true) (sym f.p) moved

          from : (x : MapCable) → (x ≡ new) ⊎ IsMember x r.list → IsFrom (c ∷ cs) x
          from x (inl e) = subst (IsFrom (c ∷ cs)) (sym e) (record { cable = c; member = inl refl; first = at_v; second = at_w; p = refl; q = refl })
          from x (inr j) = from-more c cs x (r.each x j)

          of : (d : MapCable) (v w : ℕ) → (d ≡ c) ⊎ IsMember d cs → slice_get kept v ≡ Some d.v → slice_get kept w ≡ Some d.w → IsMember (record { v = v; p = d.p; w = w; q = d.q }) (new ∷ r.list)
          of d v w (inr j) a b = inr (r.whole d v w j a b)
          of d v w (inl e) a b =
              let first : v ≡ i = number-one v i c.v (a ∙ ap (λ (z : MapCable). Some z.v) e) at_v in
              let second : w ≡ k = number-one w k c.w (b ∙ ap (λ (z : MapCable). Some z.w) e) at_w in
              inl (λ t. record { v = first t; p = (e t).p; w = second t; q = (e t).q })

      by : ((v : ℕ) × (slice_get kept v ≡ Some c.v)) ⊎ ((v : ℕ) → slice_get kept v ≡ Some c.v → ⊥) → ((w : ℕ) × (slice_get kept w ≡ Some c.w)) ⊎ ((w : ℕ) → slice_get kept w ≡ Some c.w → ⊥) → Moved cs → Moved (c ∷ cs)
      by (inl i) (inl k) r = take_it i.0 k.0 i.1 k.1 r
      by (inl i) (inr none) r = skip (λ v w a b. none w b) r
      by (inr none) k r = skip (λ v w a b. none v a) r

module _ (m : NetMap) (order : AreInOrder m.cables) where
  abbrev chosen : Kept m (length m.vertices)
  chosen = keep m (length m.vertices)

  abbrev moved : Moved chosen.list chosen.rising m.cables
  moved = move chosen.list chosen.rising m.cables order

  abbrev vertices : List MapVertex
  vertices = named 0 (map (host_of_vertex m) chosen.list)

  abbrev inside : NetMap
  inside = record { vertices = vertices; cables = moved.list; core = map (λ v. true) vertices }

  cabled-kept : (d e : MapPort) → IsCabled inside d e → IsKeptCable m chosen.list d.v d.p e.v e.p
  cabled-kept d e (forth k {c = c} at) =
      let f = moved.each c (place-member moved.list k c at) in
      let place = member-place f.cable m.cables f.member in
      record {
        from = f.cable.v;
        to = f.cable.w;
        from_there = f.first;
        to_there = f.second;
        cabled = subst (λ p. IsCabled m (record { v = f.cable.v; p = p }) (record { v = f.cable.w; p = c.q })) (sym f.p) (subst (λ q. IsCabled m (first_end f.cable) (record { v = f.cable.w; p = q })) (sym f.q) (forth place.0 place.1));
      }
  cabled-kept d e (back k {c = c} at) =
      let f = moved.each c (place-member moved.list k c at) in
      let place = member-place f.cable m.cables f.member in
      record {
        from = f.cable.w;
        to = f.cable.v;
        from_there = f.second;
        to_there = f.first;
        cabled = subst (λ q. IsCabled m (record { v = f.cable.w; p = q }) (record { v = f.cable.v; p = c.p })) (sym f.q) (subst (λ p. IsCabled m (second_end f.cable) (record { v = f.cable.v; p = p })) (sym f.p) (back place.0 place.1));
      }

  kept-cabled : (d e : MapPort) → IsCabled m d e → (v w : ℕ) → slice_get chosen.list v ≡ Some d.v → slice_get chosen.list w ≡ Some e.v → IsCabled inside (record { v = v; p = d.p }) (record { v = w; p = e.p })
  kept-cabled d e (forth k {c = c} at) v w a b =
      let there = member-place (record { v = v; p = c.p; w = w; q = c.q }) moved.list (moved.whole c v w (place-member m.cables k c at) a b) in
      forth there.0 there.1
  kept-cabled d e (back k {c = c} at) v w a b =
      let there = member-place (record { v = w; p = c.p; w = v; q = c.q }) moved.list (moved.whole c w v (place-member m.cables k c at) b a) in
      back there.0 there.1

  pub inside-made : (k : NetMap) × IsWithoutOutside m k
  inside-made = (
    inside,
    record {
      kept = chosen.list;
      each = λ v u e. chosen.each u (place-member chosen.list v u e);
      in_order = λ v w u x l e f. places-rise chosen.list v w u x chosen.rising l e f;
      covered = λ u l e. (let place = member-place u chosen.list (chosen.whole u l e) in record { number = place.0; there = place.1 });
      vertices = refl;
      cabled = λ v w p q. (
        cabled-kept (record { v = v; p = p }) (record { v = w; p = q }),
        λ k. kept-cabled (record { v = k.from; p = p }) (record { v = k.to; p = q }) k.cabled v w k.from_there k.to_there,
      );
      cables_in_order = moved.in_order;
      all_core = refl;
    },
  )

pub without_outside_exists : WithoutOutsideExists
without_outside_exists m order = inside-made m order

pub circuit_map_exists : CircuitMapExists
circuit_map_exists n host depth j fabric tree =
    let q = quotient_exists n host j fabric (circuit-true n host j tree.circuit) in
    let k = without_outside_exists q.0 q.1.cables_in_order in
    (k.0, record { tree = tree; with_outside = q.0; quotient = q.1; without_outside = k.1 })
