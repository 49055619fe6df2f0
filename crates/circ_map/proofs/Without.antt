-- The map of what is marked is the map without what is outside.
use Rattle.std.proofs.Common.{◌≡◌, ◌<◌, ℕ, zero, suc, List, [], ◌∷◌, ◌++◌, length, get_or, Bool, true, false, not, ◌&&◌, ◌||◌, Option, Some, None, sym, ◌∙◌, subst, ap, refl, arith, true≢false, ◌⊎◌, inl, inr, if◌then◌else◌, nat_eq, nat_lt, is_some}
use Rattle.std.specs.Prelude.{ℤ, slice_get, slice_index_or, int_lt}
use Rattle.std.specs.List.{AllByRecursion, list_any}
use Rattle.std.proofs.lemmas.Bool.{and_parts, cases_order, or_cases}
use Rattle.std.proofs.lemmas.Bool.Decides.{Decides-eqb, nat_tests}
use Rattle.std.proofs.lemmas.List.{append-nil}
use Rattle.std.proofs.lemmas.List.Quantifiers.{position-Some}
use Rattle.std.proofs.lemmas.Option.{slice_get-get_or, slice_get_within}
use Rattle.journal_defs.proofs.Order.{or-left, or-right}
use Rattle.port_graph.proofs.Fabrics.{is_some-position}
use Rattle.map_defs.specs.declared.vertex.MapCable.{MapCable}
use Rattle.map_defs.specs.NetMap.{NetMap, MapPort, IsCabled, AreInOrder, first_end, second_end, port_below}
use Rattle.map_defs.specs.Core.{core_of, is_outside}
use Rattle.core_map.proofs.Sides.{long-numbers, map-at}
use Rattle.circ_defs.specs.CircuitMap.{HasNumber, IsKeptCable, IsWithoutOutside}
use Rattle.circ_laws.proofs.Ends.{CabledBy, cabled-number, number-cabled}
use Rattle.circ_map.specs.Inside.{IsRising, cables_in, inside, marked_below, number_in, renumbered}
use Rattle.circ_map.proofs.Finding.{IsOldOrLast, get-old, get-push}
use Rattle.circ_map.proofs.Finding.IsOldOrLast.{old, last}

get-last : {X : Type 0} (xs : List X) (x : X) → slice_get (xs ++ x ∷ []) (length xs) ≡ Some x
get-last [] x = refl
get-last (y ∷ xs) x = get-last xs x

-- a number that is marked stands among the marked ones, and no other
marked-at : (marks : List Bool) (n i u : ℕ) → slice_get (marked_below marks n) i ≡ Some u → (u < n) × (slice_index_or marks u false ≡ true)
marked-at marks zero i u e = cc
marked-at marks (suc n) i u e = by (slice_index_or marks n false) refl e (λ q. marked-at marks n i u q)
  where
    later : (u < n) × (slice_index_or marks u false ≡ true) → (u < suc n) × (slice_index_or marks u false ≡ true)
    later p = ((let l = p.0 in omega arith), p.1)

    which : slice_index_or marks n false ≡ true → IsOldOrLast (marked_below marks n) n u i → (slice_get (marked_below marks n) i ≡ Some u → (u < n) × (slice_index_or marks u false ≡ true)) → (u < suc n) × (slice_index_or marks u false ≡ true)
    which p (old q) rest = later (rest q)
    which p (last q r) rest = subst (λ z. (z < suc n) × (slice_index_or marks z false ≡ true)) r ((let l : n < suc n = omega arith in l), p)

    by : (b : Bool) → slice_index_or marks n false ≡ b → slice_get (marked_below marks n ++ (if b then n ∷ [] else [])) i ≡ Some u → (slice_get (marked_below marks n) i ≡ Some u → (u < n) × (slice_index_or marks u false ≡ true)) → (u < suc n) × (slice_index_or marks u false ≡ true)
    by true p f rest = which p (get-push (marked_below marks n) n u i f) rest
    by false p f rest = later (rest (subst (λ l. slice_get l i ≡ Some u) (append-nil (marked_below marks n)) f))

marked-covers : (marks : List Bool) (n u : ℕ) → u < n → slice_index_or marks u false ≡ true → HasNumber (marked_below marks n) u
marked-covers marks zero u l e = absurd (omega arith)
marked-covers marks (suc n) u l e = by (cases_order u n) (λ m. marked-covers marks n u m e)
  where
    grown : (b : Bool) → HasNumber (marked_below marks n) u → HasNumber (marked_below marks n ++ (if b then n ∷ [] else [])) u
    grown true h = record { number = h.number; there = get-old (marked_below marks n) n u h.number h.there }
    grown false h = record { number = h.number; there = on (marked_below marks n) h.number h.there }
      where
        on : (xs : List ℕ) (i : ℕ) → slice_get xs i ≡ Some u → slice_get (xs ++ []) i ≡ Some u
        on [] i p = cc
        on (x ∷ xs) zero p = p
        on (x ∷ xs) (suc i) p = on xs i p

    by : (u ≡ n) ⊎ ((u < n) ⊎ (n < u)) → (u < n → HasNumber (marked_below marks n) u) → HasNumber (marked_below marks (suc n)) u
    by (inl p) rest = record { number = length (marked_below marks n); there = subst (λ b. slice_get (marked_below marks n ++ (if b then n ∷ [] else [])) (length (marked_below marks n)) ≡ Some u) (sym (subst (λ z. slice_index_or marks z false ≡ true) p e)) (get-last (marked_below marks n) n ∙ ap Some (sym p)) }
    by (inr (inl m)) rest = grown (slice_index_or marks n false) (rest m)
    by (inr (inr m)) rest = absurd (omega arith)

pub marked-rising : (marks : List Bool) (n v w u x : ℕ) → v < w → slice_get (marked_below marks n) v ≡ Some u → slice_get (marked_below marks n) w ≡ Some x → u < x
marked-rising marks zero v w u x l a b = cc
marked-rising marks (suc n) v w u x l a b = by (slice_index_or marks n false) a b (λ p q. marked-rising marks n v w u x l p q)
  where
    which : IsOldOrLast (marked_below marks n) n u v → IsOldOrLast (marked_below marks n) n x w → (slice_get (marked_below marks n) v ≡ Some u → slice_get (marked_below marks n) w ≡ Some x → u < x) → u < x
    which (old p) (old q) rest = rest p q
    which (old p) (last q r) rest = let m = (marked-at marks n v u p).0 in subst (λ z. u < z) r m
    which (last p r) (old q) rest = absurd (let m = slice_get_within (marked_below marks n) w x q in omega arith)
    which (last p r) (last q s) rest = absurd (omega arith)

    off : (xs : List ℕ) (i y : ℕ) → slice_get (xs ++ []) i ≡ Some y → slice_get xs i ≡ Some y
    off [] i y p = p
    off (z ∷ xs) zero y p = p
    off (z ∷ xs) (suc i) y p = off xs i y p

    by : (b : Bool) → slice_get (marked_below marks n ++ (if b then n ∷ [] else [])) v ≡ Some u → slice_get (marked_below marks n ++ (if b then n ∷ [] else [])) w ≡ Some x → (slice_get (marked_below marks n) v ≡ Some u → slice_get (marked_below marks n) w ≡ Some x → u < x) → u < x
    by true p q rest = which (get-push (marked_below marks n) n u v p) (get-push (marked_below marks n) n x w q) rest
    by false p q rest = rest (off (marked_below marks n) v u p) (off (marked_below marks n) w x q)

-- the number of a vertex is where it stands
pub number-there : (kept : List ℕ) (u v : ℕ) → number_in kept u ≡ Some v → slice_get kept v ≡ Some u
number-there kept u v e =
    let p = position-Some (λ y. nat_eq y u) kept v 0 e in
    slice_get-get_or kept v 0 p.0 ∙ ap Some ((Decides-eqb (get_or kept v 0) u).0 p.1)

one-place : (kept : List ℕ) (v w u : ℕ) → IsRising kept → slice_get kept v ≡ Some u → slice_get kept w ≡ Some u → v ≡ w
one-place kept v w u rise a b = by (cases_order v w)
  where
    by : (v ≡ w) ⊎ ((v < w) ⊎ (w < v)) → v ≡ w
    by (inl e) = e
    by (inr (inl l)) = let x = rise v w u u l a b in absurd (omega arith)
    by (inr (inr l)) = let x = rise w v u u l b a in absurd (omega arith)

any-at : (test : ℕ → Bool) (xs : List ℕ) (v u : ℕ) → slice_get xs v ≡ Some u → test u ≡ true → list_any test xs ≡ true
any-at test [] v u e t = cc
any-at test (x ∷ xs) zero u e t = let one : x ≡ u = cc in or-left (test x) (list_any test xs) (ap test one ∙ t)
any-at test (x ∷ xs) (suc v) u e t = or-right (test x) (list_any test xs) (any-at test xs v u e t)

pub number-is : (kept : List ℕ) (u v : ℕ) → IsRising kept → slice_get kept v ≡ Some u → number_in kept u ≡ Some v
number-is kept u v rise e = by (number_in kept u) refl
  where
    none : number_in kept u ≡ None → ⊥
    none p =
        true≢false (sym (any-at (λ y. nat_eq y u) kept v u e ((Decides-eqb u u).1 refl)) ∙ sym (is_some-position (λ y. nat_eq y u) kept) ∙ ap is_some p)

    by : (o : Option ℕ) → number_in kept u ≡ o → number_in kept u ≡ Some v
    by None p = absurd (none p)
    by (Some i) p = p ∙ ap Some (one-place kept i v u rise (number-there kept u i p) e)

-- a cable of the smaller map is one of the map
record CameFrom (kept : List ℕ) (cs : List MapCable) (c : MapCable) : Type 0 where
  pub place : ℕ
  pub d : MapCable
  pub there : slice_get cs place ≡ Some d
  pub first : number_in kept d.v ≡ Some c.v
  pub second : number_in kept d.w ≡ Some c.w
  pub ports : (d.p ≡ c.p) × (d.q ≡ c.q)

came-from : (kept : List ℕ) (cs : List MapCable) (i : ℕ) (c : MapCable) → slice_get (cables_in kept cs) i ≡ Some c → CameFrom kept cs c
came-from kept [] i c e = cc
came-from kept (d ∷ cs) i c e = by (number_in kept d.v) refl (number_in kept d.w) refl i e (λ k f. later (came-from kept cs k c f))
  where
    later : CameFrom kept cs c → CameFrom kept (d ∷ cs) c
    later r = record { place = suc r.place; d = r.d; there = r.there; first = r.first; second = r.second; ports = r.ports }

    here : (v w : ℕ) → number_in kept d.v ≡ Some v → number_in kept d.w ≡ Some w → Some (record { v = v; p = d.p; w = w; q = d.q }) ≡ Some c → CameFrom kept (d ∷ cs) c
    here v w a b f =
        let one : record { v = v; p = d.p; w = w; q = d.q } ≡ c = cc in
        record { place = 0; d = d; there = refl; first = a ∙ ap (λ (z : MapCable). Some z.v) one; second = b ∙ ap (λ (z : MapCable). Some z.w) one; ports = (ap (λ (z : MapCable). z.p) one, ap (λ (z : MapCable). z.q) one) }

    by : (a : Option ℕ) → number_in kept d.v ≡ a → (b : Option ℕ) → number_in kept d.w ≡ b → (i : ℕ) → slice_get (renumbered d a b ++ cables_in kept cs) i ≡ Some c → ((k : ℕ) → slice_get (cables_in kept cs) k ≡ Some c → CameFrom kept (d ∷ cs) c) → CameFrom kept (d ∷ cs) c
    by None p b q i f rest = rest i f
    by (Some v) p None q i f rest = rest i f
    by (Some v) p (Some w) q zero f rest = here v w p q f
    by (Some v) p (Some w) q (suc i) f rest = rest i f

-- and a cable of the map between vertices that are kept is one of the smaller map
goes-to : (kept : List ℕ) (cs : List MapCable) (i v w : ℕ) (d : MapCable) → slice_get cs i ≡ Some d → number_in kept d.v ≡ Some v → number_in kept d.w ≡ Some w → (k : ℕ) × (slice_get (cables_in kept cs) k ≡ Some (record { v = v; p = d.p; w = w; q = d.q }))
goes-to kept [] i v w d e a b = cc
goes-to kept (x ∷ cs) zero v w d e a b =
    let one : x ≡ d = cc in
    (0, subst (λ o. slice_get (renumbered x o (number_in kept x.w) ++ cables_in kept cs) 0 ≡ Some (record { v = v; p = d.p; w = w; q = d.q })) (sym (ap (λ (z : MapCable). number_in kept z.v) one ∙ a)) (subst (λ o. slice_get (renumbered x (Some v) o ++ cables_in kept cs) 0 ≡ Some (record { v = v; p = d.p; w = w; q = d.q })) (sym (ap (λ (z : MapCable). number_in kept z.w) one ∙ b)) (ap (λ (z : MapCable). Some (record { v = v; p = z.p; w = w; q = z.q })) one)))
goes-to kept (x ∷ cs) (suc i) v w d e a b = by (number_in kept x.v) (number_in kept x.w) (goes-to kept cs i v w d e a b)
  where
    by : (o p : Option ℕ) → (k : ℕ) × (slice_get (cables_in kept cs) k ≡ Some (record { v = v; p = d.p; w = w; q = d.q })) → (k : ℕ) × (slice_get (renumbered x o p ++ cables_in kept cs) k ≡ Some (record { v = v; p = d.p; w = w; q = d.q }))
    by None p r = r
    by (Some s) None r = r
    by (Some s) (Some t) r = (suc r.0, r.1)

-- numbers rise as the vertices do
number-rises : (kept : List ℕ) (u x v w : ℕ) → IsRising kept → slice_get kept v ≡ Some u → slice_get kept w ≡ Some x → u < x → v < w
number-rises kept u x v w rise a b l = by (cases_order v w)
  where
    by : (v ≡ w) ⊎ ((v < w) ⊎ (w < v)) → v < w
    by (inl e) = let two : Some u ≡ Some x = sym a ∙ ap (slice_get kept) e ∙ b in let one : u ≡ x = cc in absurd (omega arith)
    by (inr (inl m)) = m
    by (inr (inr m)) = let k = rise w v x u m b a in absurd (omega arith)

below-kept : (kept : List ℕ) (u x v w : ℕ) (p q : ℤ) → IsRising kept → slice_get kept v ≡ Some u → slice_get kept w ≡ Some x → port_below (record { v = u; p = p }) (record { v = x; p = q }) ≡ true → port_below (record { v = v; p = p }) (record { v = w; p = q }) ≡ true
below-kept kept u x v w p q rise a b e = by (or_cases (nat_lt u x) (nat_eq u x && int_lt p q) e)
  where
    by : (nat_lt u x ≡ true) ⊎ ((nat_eq u x && int_lt p q) ≡ true) → (nat_lt v w || (nat_eq v w && int_lt p q)) ≡ true
    by (inl l) = let m : v < w = number-rises kept u x v w rise a b (grind (arith, nat_tests)) in or-left (nat_lt v w) (nat_eq v w && int_lt p q) (grind (arith, nat_tests))
    by (inr r) =
        let two = and_parts (nat_eq u x) (int_lt p q) r in
        let one : u ≡ x = (Decides-eqb u x).0 two.0 in
        let same : v ≡ w = one-place kept v w x rise (subst (λ z. slice_get kept v ≡ Some z) one a) b in
        or-right (nat_lt v w) (nat_eq v w && int_lt p q) (rw ((Decides-eqb v w).1 same) two.1)

-- the smaller map's cables stand in order
in-order-from : (kept : List ℕ) (d : MapPort) (v : ℕ) (cs : List MapCable) → IsRising kept → slice_get kept v ≡ Some d.v → AllByRecursion (λ c. port_below d (first_end c) ≡ true) cs → AllByRecursion (λ c. port_below (record { v = v; p = d.p }) (first_end c) ≡ true) (cables_in kept cs)
in-order-from kept d v [] rise a all = tt
in-order-from kept d v (c ∷ cs) rise a all = by (number_in kept c.v) refl (number_in kept c.w) (in-order-from kept d v cs rise a all.1)
  where
    by : (o : Option ℕ) → number_in kept c.v ≡ o → (p : Option ℕ) → AllByRecursion (λ c. port_below (record { v = v; p = d.p }) (first_end c) ≡ true) (cables_in kept cs) → AllByRecursion (λ c. port_below (record { v = v; p = d.p }) (first_end c) ≡ true) (renumbered c o p ++ cables_in kept cs)
    by None e p r = r
    by (Some s) e None r = r
    by (Some s) e (Some t) r = (below-kept kept d.v c.v v s d.p c.p rise a (number-there kept c.v s e) all.0, r)

in-order : (kept : List ℕ) (cs : List MapCable) → IsRising kept → AreInOrder cs → AreInOrder (cables_in kept cs)
in-order kept [] rise order = tt
in-order kept (c ∷ cs) rise order = by (number_in kept c.v) refl (number_in kept c.w) refl (in-order kept cs rise order.2)
  where
    by : (o : Option ℕ) → number_in kept c.v ≡ o → (p : Option ℕ) → number_in kept c.w ≡ p → AreInOrder (cables_in kept cs) → AreInOrder (renumbered c o p ++ cables_in kept cs)
    by None e p f r = r
    by (Some s) e None f r = r
    by (Some s) e (Some t) f r = (
      below-kept kept c.v c.w s t c.p c.q rise (number-there kept c.v s e) (number-there kept c.w t f) order.0,
      in-order-from kept (first_end c) s cs rise (number-there kept c.v s e) order.1,
      r,
    )

flipped : (b : Bool) → not b ≡ true → b ≡ false
flipped false e = refl
flipped true e = absurd (true≢false (sym e))

module _ (m : NetMap) (order : AreInOrder m.cables) (core : m.core ≡ core_of m) where
  kept : List ℕ
  kept = marked_below m.core (length m.core)

  count : length m.core ≡ length m.vertices
  count = ap length core ∙ long-numbers (λ v. not (is_outside m v)) (length m.vertices)

  mark : (u : ℕ) → u < length m.vertices → slice_index_or m.core u false ≡ not (is_outside m u)
  mark u l = ap (λ bs. slice_index_or bs u false) core ∙ map-at (λ v. not (is_outside m v)) (length m.vertices) u false l

  rising : IsRising (marked_below m.core (length m.core))
  rising = marked-rising m.core (length m.core)

  each : (v u : ℕ) → slice_get (marked_below m.core (length m.core)) v ≡ Some u → (u < length m.vertices) × (is_outside m u ≡ false)
  each v u e =
      let p = marked-at m.core (length m.core) v u e in
      let low : u < length m.vertices = subst (λ k. u < k) count p.0 in
      (low, flipped (is_outside m u) (sym (mark u low) ∙ p.1))

  covered : (u : ℕ) → u < length m.vertices → is_outside m u ≡ false → HasNumber (marked_below m.core (length m.core)) u
  covered u l e = marked-covers m.core (length m.core) u (subst (λ k. u < k) (sym count) l) (mark u l ∙ ap not e)

  to : (v w : ℕ) (p q : ℤ) → IsCabled (inside m (marked_below m.core (length m.core))) (record { v = v; p = p }) (record { v = w; p = q }) → IsKeptCable m (marked_below m.core (length m.core)) v p w q
  to v w p q c =
      let r = cabled-number (inside m (marked_below m.core (length m.core))) (record { v = v; p = p }) (record { v = w; p = q }) c in
      by r.0 r.1 (came-from (marked_below m.core (length m.core)) m.cables r.0 r.1.c r.1.there) r.1.ends
    where
      by : (k : ℕ) (b : CabledBy (inside m (marked_below m.core (length m.core))) k (record { v = v; p = p }) (record { v = w; p = q })) (f : CameFrom (marked_below m.core (length m.core)) m.cables b.c) → ((first_end b.c ≡ record { v = v; p = p }) × (second_end b.c ≡ record { v = w; p = q })) ⊎ ((second_end b.c ≡ record { v = v; p = p }) × (first_end b.c ≡ record { v = w; p = q })) → IsKeptCable m (marked_below m.core (length m.core)) v p w q
      by k b f (inl e) = record {
        from = f.d.v;
        to = f.d.w;
        from_there = subst (λ z. slice_get (marked_below m.core (length m.core)) z ≡ Some f.d.v) (ap (λ (x : MapPort). x.v) e.0) (number-there (marked_below m.core (length m.core)) f.d.v b.c.v f.first);
        to_there = subst (λ z. slice_get (marked_below m.core (length m.core)) z ≡ Some f.d.w) (ap (λ (x : MapPort). x.v) e.1) (number-there (marked_below m.core (length m.core)) f.d.w b.c.w f.second);
        cabled = number-cabled m f.place (record { v = f.d.v; p = p }) (record { v = f.d.w; p = q }) (record { c = f.d; there = f.there; ends = inl ((λ i. record { v = f.d.v; p = (f.ports.0 ∙ ap (λ (x : MapPort). x.p) e.0) i }), (λ i. record { v = f.d.w; p = (f.ports.1 ∙ ap (λ (x : MapPort). x.p) e.1) i })) });
      }
      by k b f (inr e) = record {
        from = f.d.w;
        to = f.d.v;
        from_there = subst (λ z. slice_get (marked_below m.core (length m.core)) z ≡ Some f.d.w) (ap (λ (x : MapPort). x.v) e.0) (number-there (marked_below m.core (length m.core)) f.d.w b.c.w f.second);
        to_there = subst (λ z. slice_get (marked_below m.core (length m.core)) z ≡ Some f.d.v) (ap (λ (x : MapPort). x.v) e.1) (number-there (marked_below m.core (length m.core)) f.d.v b.c.v f.first);
        cabled = number-cabled m f.place (record { v = f.d.w; p = p }) (record { v = f.d.v; p = q }) (record { c = f.d; there = f.there; ends = inr ((λ i. record { v = f.d.w; p = (f.ports.1 ∙ ap (λ (x : MapPort). x.p) e.0) i }), (λ i. record { v = f.d.v; p = (f.ports.0 ∙ ap (λ (x : MapPort). x.p) e.1) i })) });
      }

  back-to : (v w : ℕ) (p q : ℤ) → IsKeptCable m (marked_below m.core (length m.core)) v p w q → IsCabled (inside m (marked_below m.core (length m.core))) (record { v = v; p = p }) (record { v = w; p = q })
  back-to v w p q k =
      let r = cabled-number m (record { v = k.from; p = p }) (record { v = k.to; p = q }) k.cabled in
      by r.0 r.1 r.1.ends
    where
      at : (u x : ℕ) → slice_get (marked_below m.core (length m.core)) x ≡ Some u → number_in (marked_below m.core (length m.core)) u ≡ Some x
      at u x e = number-is (marked_below m.core (length m.core)) u x rising e

      by : (i : ℕ) (b : CabledBy m i (record { v = k.from; p = p }) (record { v = k.to; p = q })) → ((first_end b.c ≡ record { v = k.from; p = p }) × (second_end b.c ≡ record { v = k.to; p = q })) ⊎ ((second_end b.c ≡ record { v = k.from; p = p }) × (first_end b.c ≡ record { v = k.to; p = q })) → IsCabled (inside m (marked_below m.core (length m.core))) (record { v = v; p = p }) (record { v = w; p = q })
      by i b (inl e) =
          let g = goes-to (marked_below m.core (length m.core)) m.cables i v w b.c b.there (at b.c.v v (k.from_there ∙ ap (λ (x : MapPort). Some x.v) (sym e.0))) (at b.c.w w (k.to_there ∙ ap (λ (x : MapPort). Some x.v) (sym e.1))) in
          number-cabled (inside m (marked_below m.core (length m.core))) g.0 (record { v = v; p = p }) (record { v = w; p = q }) (record { c = record { v = v; p = b.c.p; w = w; q = b.c.q }; there = g.1; ends = inl ((λ j. record { v = v; p = (ap (λ (x : MapPort). x.p) e.0) j }), (λ j. record { v = w; p = (ap (λ (x : MapPort). x.p) e.1) j })) })
      by i b (inr e) =
          let g = goes-to (marked_below m.core (length m.core)) m.cables i w v b.c b.there (at b.c.v w (k.to_there ∙ ap (λ (x : MapPort). Some x.v) (sym e.1))) (at b.c.w v (k.from_there ∙ ap (λ (x : MapPort). Some x.v) (sym e.0))) in
          number-cabled (inside m (marked_below m.core (length m.core))) g.0 (record { v = v; p = p }) (record { v = w; p = q }) (record { c = record { v = w; p = b.c.p; w = v; q = b.c.q }; there = g.1; ends = inr ((λ j. record { v = v; p = (ap (λ (x : MapPort). x.p) e.0) j }), (λ j. record { v = w; p = (ap (λ (x : MapPort). x.p) e.1) j })) })

  pub inside-without : IsWithoutOutside m (inside m (marked_below m.core (length m.core)))
  inside-without = record {
    kept = marked_below m.core (length m.core);
    each = each;
    in_order = rising;
    covered = covered;
    vertices = refl;
    cabled = λ v w p q. (to v w p q, back-to v w p q);
    cables_in_order = in-order (marked_below m.core (length m.core)) m.cables rising order;
    all_core = refl;
  }
