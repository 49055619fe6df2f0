-- The cables of a map in order: each at its lesser end, in the order of these ends, and no other cables.
use Rattle.std.proofs.Common.{◌≡◌, ◌≢◌, ◌<◌, ◌+◌, ◌*◌, ◌/◌, ◌%◌, ◌⊎◌, inl, inr, ℕ, zero, suc, List, [], ◌∷◌, ◌++◌, Bool, true, false, ◌&&◌, nat_lt, nat_eq, length, Option, Some, None, refl, ap, sym, ◌∙◌, subst, true≢false, arith, option_to_list, if◌then◌else◌}
use Rattle.std.specs.Prelude.{ℤ, pos, ◌+ℤ◌, ◌-ℤ◌, nat_abs, int_lt, slice_get}
use Rattle.std.proofs.lemmas.Bool.{false≢true, cases_order, eq-eqb, lt-ltb}
use Rattle.std.proofs.lemmas.Int.{ints}
use Rattle.net_defs.specs.Turn.{IsTurn}
use Rattle.net_defs.specs.Network.{Apart}
use Rattle.net_defs.proofs.Distinct.{all-push}
use Rattle.journal_defs.proofs.Members.{IsMember, member-left, member-right, member-place}
use Rattle.journal_defs.proofs.Order.{or-left, or-right}
use Rattle.map_defs.specs.declared.vertex.MapCable.{MapCable}
use Rattle.map_defs.specs.NetMap.{NetMap, MapPort, IsMap, IsCabled, AreInOrder, first_end, second_end, map_far, map_ends, port_below}
use Rattle.map_defs.specs.NetMap.IsCabled.{forth, back}
use Rattle.map_defs.proofs.Ports.{far_is_cabled}
use Rattle.fabric_map.specs.Growing.{with_cable}
use Rattle.fabric_map.specs.Table.{place_of_port}
use Rattle.fabric_map.proofs.Ends.{port-holds}
use Rattle.fabric_map.proofs.Tables.{shift}
use Rattle.map_quotient.proofs.Places.{place-member}
use Rattle.map_quotient.specs.InOrder.{port_of_place, rising_cable, cable_from, cables_below, in_order}

-- places in order are ports in order
pub place-below : (i k : ℕ) → i < k → port_below (port_of_place i) (port_of_place k) ≡ true
place-below i k l = by (cases_order (i / 31) (k / 31))
  where
    ports : (a b : ℕ) → a < b → int_lt (pos a -ℤ pos 15) (pos b -ℤ pos 15) ≡ true
    ports a b m = grind (arith, ints)

    both : (x y : Bool) → x ≡ true → y ≡ true → (x && y) ≡ true
    both true y p q = q
    both false y p q = absurd (false≢true p)

    by : (i / 31 ≡ k / 31) ⊎ ((i / 31 < k / 31) ⊎ (k / 31 < i / 31)) → port_below (port_of_place i) (port_of_place k) ≡ true
    by (inl e) = or-right (nat_lt (i / 31) (k / 31)) _ (both (nat_eq (i / 31) (k / 31)) _ (eq-eqb (i / 31) (k / 31) e) (ports (i % 31) (k % 31) (omega arith)))
    by (inr (inl a)) = or-left (nat_lt (i / 31) (k / 31)) _ (lt-ltb (i / 31) (k / 31) a)
    by (inr (inr a)) = absurd (omega arith)

-- the place of a port, and the port there
port-place : (d : MapPort) → IsTurn d.p → port_of_place (place_of_port d) ≡ d
port-place d t =
    let s = shift d.p t in
    let low = s.0 in
    let v : place_of_port d / 31 ≡ d.v = omega arith in
    let k : place_of_port d % 31 ≡ nat_abs (d.p +ℤ pos 15) = omega arith in
    let p : pos (place_of_port d % 31) -ℤ pos 15 ≡ d.p = ap (λ n. pos n -ℤ pos 15) k ∙ sym s.1 in
    λ i. record { v = v i; p = p i }

place-inside : (d : MapPort) (n : ℕ) → IsTurn d.p → d.v < n → place_of_port d < 31 * n
place-inside d n t l = let low = (shift d.p t).0 in omega arith

-- what is known of a cable from a port
pub record IsRising (m : NetMap) (d : MapPort) (c : MapCable) : Type 0 where
  pub first : first_end c ≡ d
  pub far : map_far m d ≡ Some (second_end c)
  pub rises : port_below (first_end c) (second_end c) ≡ true

rising-from : (m : NetMap) (d : MapPort) (o : Option MapPort) (c : MapCable) → map_far m d ≡ o → rising_cable d o ≡ Some c → IsRising m d c
rising-from m d None c f e = cc
rising-from m d (Some e) c f is = by (port_below d e) refl is
  where
    by : (b : Bool) → port_below d e ≡ b → (if b then Some (record { v = d.v; p = d.p; w = e.v; q = e.p }) else None) ≡ Some c → IsRising m d c
    by true p q = let one : record { v = d.v; p = d.p; w = e.v; q = e.p } ≡ c = cc in subst (IsRising m d) one (record { first = refl; far = f; rises = p })
    by false p q = cc

pub cable-rises : (m : NetMap) (d : MapPort) (c : MapCable) → cable_from m d ≡ Some c → IsRising m d c
cable-rises m d c e = rising-from m d (map_far m d) c refl e

rising-cable : (m : NetMap) (d e : MapPort) → map_far m d ≡ Some e → port_below d e ≡ true → cable_from m d ≡ Some (record { v = d.v; p = d.p; w = e.v; q = e.p })
rising-cable m d e f b = ap (rising_cable d) f ∙ ap (λ t. if t then Some (record { v = d.v; p = d.p; w = e.v; q = e.p }) else None) b

-- a cable of the first places stands at one of them
pub record IsBelow (m : NetMap) (k : ℕ) (c : MapCable) : Type 0 where
  pub place : ℕ
  pub below : place < k
  pub from : cable_from m (port_of_place place) ≡ Some c

option-member : (o : Option MapCable) (c : MapCable) → IsMember c (option_to_list o) → o ≡ Some c
option-member None c i = absurd i
option-member (Some d) c (inl e) = ap Some (sym e)
option-member (Some d) c (inr i) = absurd i

append-member : (xs ys : List MapCable) (c : MapCable) → IsMember c (xs ++ ys) → IsMember c xs ⊎ IsMember c ys
append-member [] ys c i = inr i
append-member (x ∷ xs) ys c (inl e) = inl (inl e)
append-member (x ∷ xs) ys c (inr i) = by (append-member xs ys c i)
  where
    by : IsMember c xs ⊎ IsMember c ys → IsMember c (x ∷ xs) ⊎ IsMember c ys
    by (inl a) = inl (inr a)
    by (inr b) = inr b

pub below-member : (m : NetMap) (k : ℕ) (c : MapCable) → IsMember c (cables_below m k) → IsBelow m k c
below-member m zero c i = absurd i
below-member m (suc k) c i = by (append-member (cables_below m k) (option_to_list (cable_from m (port_of_place k))) c i) (below-member m k c)
  where
    by : IsMember c (cables_below m k) ⊎ IsMember c (option_to_list (cable_from m (port_of_place k))) → (IsMember c (cables_below m k) → IsBelow m k c) → IsBelow m (suc k) c
    by (inl a) rest = let r = rest a in record { place = r.place; below = (let l = r.below in omega arith); from = r.from }
    by (inr b) rest = record { place = k; below = omega arith; from = option-member (cable_from m (port_of_place k)) c b }

-- and each cable from such a place is one of them
member-below : (m : NetMap) (k i : ℕ) (c : MapCable) → i < k → cable_from m (port_of_place i) ≡ Some c → IsMember c (cables_below m k)
member-below m zero i c l e = absurd (omega arith)
member-below m (suc k) i c l e = by (cases_order i k) (λ b. member-below m k i c b e)
  where
    own : (o : Option MapCable) → o ≡ Some c → IsMember c (option_to_list o)
    own None f = cc
    own (Some d) f = inl (let one : c ≡ d = cc in one)

    by : (i ≡ k) ⊎ ((i < k) ⊎ (k < i)) → (i < k → IsMember c (cables_below m k)) → IsMember c (cables_below m (suc k))
    by (inl s) rest = member-right c (cables_below m k) (option_to_list (cable_from m (port_of_place k))) (own (cable_from m (port_of_place k)) (ap (λ n. cable_from m (port_of_place n)) (sym s) ∙ e))
    by (inr (inl b)) rest = member-left c (cables_below m k) (option_to_list (cable_from m (port_of_place k))) (rest b)
    by (inr (inr b)) rest = absurd (omega arith)

-- in order with one more
order-push : (cs : List MapCable) (c : MapCable) → AreInOrder cs → ((d : MapCable) → IsMember d cs → port_below (first_end d) (first_end c) ≡ true) → port_below (first_end c) (second_end c) ≡ true → AreInOrder (cs ++ c ∷ [])
order-push [] c o all rises = (rises, tt, tt)
order-push (d ∷ cs) c o all rises = (o.0, all-push (λ x. port_below (first_end d) (first_end x) ≡ true) cs c o.1 (all d (inl refl)), order-push cs c o.2 (λ x i. all x (inr i)) rises)

pub below-in_order : (m : NetMap) (k : ℕ) → AreInOrder (cables_below m k)
below-in_order m zero = tt
below-in_order m (suc k) = by (cable_from m (port_of_place k)) refl (below-in_order m k)
  where
    same : (cs : List MapCable) → cs ++ [] ≡ cs
    same [] = refl
    same (c ∷ cs) = ap (λ l. c ∷ l) (same cs)

    by : (o : Option MapCable) → cable_from m (port_of_place k) ≡ o → AreInOrder (cables_below m k) → AreInOrder (cables_below m k ++ option_to_list o)
    by None e rest = subst AreInOrder (sym (same (cables_below m k))) rest
    by (Some c) e rest =
        let own = cable-rises m (port_of_place k) c e in
        order-push (cables_below m k) c rest (λ d i. before d c own (below-member m k d i)) own.rises
      where
        before : (d c : MapCable) → IsRising m (port_of_place k) c → IsBelow m k d → port_below (first_end d) (first_end c) ≡ true
        before d c own b =
            let other = cable-rises m (port_of_place b.place) d b.from in
            subst (λ x. port_below x (first_end c) ≡ true) (sym other.first) (subst (λ x. port_below (port_of_place b.place) x ≡ true) (sym own.first) (place-below b.place k b.below))

-- of two ports one is the lesser
port-total : (d e : MapPort) → d ≢ e → port_below d e ≡ false → port_below e d ≡ true
port-total d e differ b = by (cases_order d.v e.v)
  where
    int-total : (p q : ℤ) → p ≢ q → int_lt p q ≡ false → int_lt q p ≡ true
    int-total p q n l = grind (arith, ints)

    both : (x y : Bool) → x ≡ true → y ≡ true → (x && y) ≡ true
    both true y p q = q
    both false y p q = absurd (false≢true p)

    not-less : (x : Bool) → x ≡ int_lt d.p e.p → d.v ≡ e.v → x ≡ false
    not-less true l v = absurd (true≢false (sym (or-right (nat_lt d.v e.v) _ (both (nat_eq d.v e.v) (int_lt d.p e.p) (eq-eqb d.v e.v v) (sym l))) ∙ b))
    not-less false l v = refl

    by : (d.v ≡ e.v) ⊎ ((d.v < e.v) ⊎ (e.v < d.v)) → port_below e d ≡ true
    by (inl v) = or-right (nat_lt e.v d.v) _ (both (nat_eq e.v d.v) (int_lt e.p d.p) (eq-eqb e.v d.v (sym v)) (int-total d.p e.p (λ p. differ (λ i. record { v = v i; p = p i })) (not-less (int_lt d.p e.p) refl v)))
    by (inr (inl l)) = absurd (true≢false (sym (or-left (nat_lt d.v e.v) _ (lt-ltb d.v e.v l)) ∙ b))
    by (inr (inr l)) = or-left (nat_lt e.v d.v) _ (lt-ltb e.v d.v l)

-- the two ends of a cable are two ports
pub ends-differ : (cs : List MapCable) (k : ℕ) (c : MapCable) → Apart (map_ends cs) → slice_get cs k ≡ Some c → first_end c ≢ second_end c
ends-differ [] k c apart e = cc
ends-differ (x ∷ cs) zero c apart e = let one : x ≡ c = cc in subst (λ y. first_end y ≢ second_end y) one apart.0.0
ends-differ (x ∷ cs) (suc k) c apart e = ends-differ cs k c apart.1.1 e

abbrev cable_of : MapPort → MapPort → MapCable
cable_of d e = record { v = d.v; p = d.p; w = e.v; q = e.p }

module _ (m : NetMap) (is_map : IsMap m) where
  member-cabled : (c : MapCable) → IsMember c (cables_below m (31 * length m.vertices)) → IsCabled m (first_end c) (second_end c)
  member-cabled c i =
      let b = below-member m (31 * length m.vertices) c i in
      let r = cable-rises m (port_of_place b.place) c b.from in
      (far_is_cabled m (first_end c) (second_end c) is_map).0 (ap (map_far m) r.first ∙ r.far)

  cabled-back : (d e : MapPort) → IsCabled m d e → IsCabled m e d
  cabled-back d e (forth k s) = back k s
  cabled-back d e (back k s) = forth k s

  cabled-apart : (d e : MapPort) → IsCabled m d e → d ≢ e
  cabled-apart d e (forth k {c = c} s) = ends-differ m.cables k c is_map.ports_once s
  cabled-apart d e (back k {c = c} s) = λ same. ends-differ m.cables k c is_map.ports_once s (sym same)

  -- only cables of the map
  pub ordered-only : (d e : MapPort) → IsCabled (in_order m) d e → IsCabled m d e
  ordered-only d e (forth k {c = c} s) = member-cabled c (place-member (cables_below m (31 * length m.vertices)) k c s)
  ordered-only d e (back k {c = c} s) = cabled-back (first_end c) (second_end c) (member-cabled c (place-member (cables_below m (31 * length m.vertices)) k c s))

  rising-there : (d e : MapPort) → map_far m d ≡ Some e → port_below d e ≡ true → IsMember (cable_of d e) (cables_below m (31 * length m.vertices))
  rising-there d e f b =
      let turn : IsTurn d.p = port-holds (λ x. IsTurn x.p) m.cables d e is_map.ports_in_range f in
      let low : d.v < length m.vertices = port-holds (λ x. x.v < length m.vertices) m.cables d e is_map.cabled_vertices f in
      member-below m (31 * length m.vertices) (place_of_port d) (cable_of d e) (place-inside d (length m.vertices) turn low) (ap (cable_from m) (port-place d turn) ∙ rising-cable m d e f b)

  -- all of them
  pub ordered-each : (d e : MapPort) → IsCabled m d e → IsCabled (in_order m) d e
  ordered-each d e c = by (port_below d e) refl
    where
      far : map_far m d ≡ Some e
      far = (far_is_cabled m d e is_map).1 c

      far_back : map_far m e ≡ Some d
      far_back = (far_is_cabled m e d is_map).1 (cabled-back d e c)

      by : (b : Bool) → port_below d e ≡ b → IsCabled (in_order m) d e
      by true b = let p = member-place (cable_of d e) (cables_below m (31 * length m.vertices)) (rising-there d e far b) in forth p.0 p.1
      by false b = let p = member-place (cable_of e d) (cables_below m (31 * length m.vertices)) (rising-there e d far_back (port-total d e (cabled-apart d e c) b)) in back p.0 p.1

no_more : (cs : List MapCable) → cs ++ [] ≡ cs
no_more [] = refl
no_more (c ∷ cs) = ap (λ l. c ∷ l) (no_more cs)

-- the map with the cables of the first places
abbrev pub ordered_to : NetMap → ℕ → NetMap
ordered_to m k = record { vertices = m.vertices; cables = cables_below m k; core = m.core }

pub ordered-next : (m old new : NetMap) (k : ℕ) (c : MapCable) → old ≡ ordered_to m k → cable_from m (port_of_place k) ≡ Some c → new ≡ with_cable old c → new ≡ ordered_to m (k + 1)
ordered-next m old new k c before from added =
    added ∙ ap (λ x. with_cable x c) before ∙ (λ i. record { vertices = m.vertices; cables = cables_below m k ++ option_to_list (sym from i); core = m.core }) ∙ ap (ordered_to m) (let e : suc k ≡ k + 1 = omega arith in e)

pub ordered-skip : (m old : NetMap) (k : ℕ) → old ≡ ordered_to m k → cable_from m (port_of_place k) ≡ None → old ≡ ordered_to m (k + 1)
ordered-skip m old k before from =
    before ∙ (λ i. record { vertices = m.vertices; cables = (sym (no_more (cables_below m k)) ∙ ap (λ o. cables_below m k ++ option_to_list o) (sym from)) i; core = m.core }) ∙ ap (ordered_to m) (let e : suc k ≡ k + 1 = omega arith in e)
