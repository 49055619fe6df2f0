-- The cables of a map are taken in their order: none of them is refused.
use Rattle.std.proofs.Common.{◌≡◌, ◌≢◌, ◌<◌, ◌≤◌, ◌+◌, ◌⊎◌, inl, inr, ℕ, zero, suc, List, [], ◌∷◌, Bool, true, false, ◌||◌, not, nat_lt, length, length-append, map, Option, Some, None, is_some, refl, ap, sym, ◌∙◌, subst, true≢false, arith, option_to_list, if◌then◌else◌}
use Rattle.std.specs.Prelude.{ℤ, pos, ◌-ℤ◌, nat_le, slice_get}
use Rattle.std.specs.Ordering.{int_eq}
use Rattle.std.proofs.lemmas.Bool.{and_from, and_parts, lt-ltb}
use Rattle.std.proofs.lemmas.Bool.Decides.{nat_tests, Decides-int_eq}
use Rattle.std.proofs.lemmas.Int.{ints}
use Rattle.std.proofs.lemmas.List.{length-map}
use Rattle.net_defs.specs.Network.{Apart}
use Rattle.net_defs.specs.Turn.{IsTurn, is_turn}
use Rattle.journal_defs.proofs.Members.{IsMember, all-member, all-from-members, member-map}
use Rattle.map_laws.proofs.Pigeons.{no-more}
use Rattle.map_defs.specs.declared.vertex.MapVertex.{MapVertex}
use Rattle.map_defs.specs.declared.vertex.MapVertex.TheVariants.{Host, Switch}
use Rattle.map_defs.specs.declared.vertex.MapCable.{MapCable}
use Rattle.map_defs.specs.NetMap.{NetMap, MapPort, IsMap, IsCabled, IsNearPort, AreNearPorts, AreInOrder, first_end, second_end, far_port, map_far, map_ends, port_below}
use Rattle.map_defs.specs.NetMap.{host_at, host_of_vertex, switch_at, is_switch_vertex}
use Rattle.map_defs.specs.NetMap.IsCabled.{forth, back}
use Rattle.map_defs.proofs.Leading.{far-end}
use Rattle.map_defs.proofs.Ports.{far_is_cabled, same_port-false}
use Rattle.fabric_map.specs.declared.fault.MapFault.TheVariants.{Full, NoVertex, PortRange, PortUsed}
use Rattle.fabric_map.specs.Growing.{IsFabricMap, are_near, cable_refusal, is_near, is_used, may_have}
use Rattle.fabric_map.proofs.Ends.{near-from, port-holds}
use Rattle.map_quotient.specs.InOrder.{port_of_place, cable_from, cables_below}
use Rattle.map_quotient.proofs.Ordered.{IsBelow, IsRising, below-in_order, below-member, cable-rises, ends-differ, ordered_to, place-below}
use Rattle.map_quotient.proofs.Places.{place-member}

-- what a map refuses no cable for
pub taken : (m : NetMap) (c : MapCable) → nat_lt c.v (length m.vertices) ≡ true → nat_lt c.w (length m.vertices) ≡ true → may_have m (first_end c) ≡ true → may_have m (second_end c) ≡ true
    → is_near (first_end c) (second_end c) ≡ true → is_used m c ≡ false → nat_le 4294967295 (length m.cables) ≡ false → cable_refusal m c ≡ None
taken m c e f g h k u n =
    λ i. if not (e i) then Some NoVertex else if not (f i) then Some NoVertex else if not (g i) then Some PortRange else if not (h i) then Some PortRange
    else if not (k i) then Some PortRange else if u i then Some PortUsed else if n i then Some Full else None

-- of two ports one isn't below the other both ways
port-asym : (d e : MapPort) → port_below d e ≡ true → port_below e d ≡ true → ⊥
port-asym d e a b = grind (arith, ints, nat_tests)

swap-turn : (p q : ℤ) → is_turn (p -ℤ q) ≡ true → is_turn (q -ℤ p) ≡ true
swap-turn p q t = grind (arith, ints, nat_tests)

same-turn : (p : ℤ) → is_turn (p -ℤ p) ≡ true
same-turn p = grind (arith, ints, nat_tests)

-- an end belongs to a cable
record EndOf (cs : List MapCable) (d : MapPort) : Type 0 where
  pub cable : MapCable
  pub member : IsMember cable cs
  pub is : (d ≡ first_end cable) ⊎ (d ≡ second_end cable)

end-of : (cs : List MapCable) (d : MapPort) → IsMember d (map_ends cs) → EndOf cs d
end-of [] d i = absurd i
end-of (c ∷ cs) d (inl e) = record { cable = c; member = inl refl; is = inl e }
end-of (c ∷ cs) d (inr (inl e)) = record { cable = c; member = inl refl; is = inr e }
end-of (c ∷ cs) d (inr (inr i)) = let r = end-of cs d i in record { cable = r.cable; member = inr r.member; is = r.is }

-- two ports of one vertex among near ones are near
near-two : (ds : List MapPort) (d e : MapPort) → AreNearPorts ds → IsMember d ds → IsMember e ds → e.v ≡ d.v → is_turn (e.p -ℤ d.p) ≡ true
near-two [] d e near i j v = absurd i
near-two (x ∷ xs) d e near (inl a) (inl b) v = (λ k. is_turn ((b k).p -ℤ (a k).p)) ∙ same-turn x.p
near-two (x ∷ xs) d e near (inl a) (inr j) v =
    (λ k. is_turn (e.p -ℤ (a k).p)) ∙ swap-turn x.p e.p (all-member (IsNearPort x) e xs near.0 j (ap (λ (y : MapPort). y.v) (sym a) ∙ sym v))
near-two (x ∷ xs) d e near (inr i) (inl b) v =
    (λ k. is_turn ((b k).p -ℤ d.p)) ∙ all-member (IsNearPort x) d xs near.0 i (ap (λ (y : MapPort). y.v) (sym b) ∙ v)
near-two (x ∷ xs) d e near (inr i) (inr j) v = near-two xs d e near.1 i j v

-- a port of a host is 0
host-or-switch : (o : Option MapVertex) (p : ℤ) → is_some o ≡ true → ((h : ℕ) → host_at o ≡ Some h → p ≡ pos 0) → (switch_at o || int_eq p (pos 0)) ≡ true
host-or-switch None p there port = absurd (true≢false (sym there))
host-or-switch (Some (Host h)) p there port = (Decides-int_eq p (pos 0)).1 (port h refl)
host-or-switch (Some (Switch s)) p there port = refl

some-below : {X : Type 0} (xs : List X) (v : ℕ) → v < length xs → is_some (slice_get xs v) ≡ true
some-below [] v l = absurd (omega arith)
some-below (x ∷ xs) zero l = refl
some-below (x ∷ xs) (suc v) l = some-below xs v (omega arith)

-- a cable with its lesser end in front
abbrev upright_of : MapCable → Bool → MapCable
upright_of c true = c
upright_of c false = record { v = c.w; p = c.q; w = c.v; q = c.p }

abbrev upright : MapCable → MapCable
upright c = upright_of c (port_below (first_end c) (second_end c))

-- cables in order are different
apart-order : (cs : List MapCable) → AreInOrder cs → Apart cs
apart-order [] o = tt
apart-order (c ∷ cs) o = (all-from-members (λ d. c ≢ d) cs (λ d i same. loop d (all-member (λ x. port_below (first_end c) (first_end x) ≡ true) d cs o.1 i) same), apart-order cs o.2)
  where
    loop : (d : MapCable) → port_below (first_end c) (first_end d) ≡ true → c ≡ d → ⊥
    loop d b same = port-asym (first_end c) (first_end d) b ((λ i. port_below (first_end (sym same i)) (first_end (same i))) ∙ b)

pub not-full : (n : ℕ) → n < 4294967295 → nat_le 4294967295 n ≡ false
not-full n l = grind (arith, nat_tests)

module _ (m : NetMap) (is : IsMap m) where
  turned : (d e : MapPort) → IsCabled m d e → IsCabled m e d
  turned d e (forth k s) = back k s
  turned d e (back k s) = forth k s

  far-back : (d e : MapPort) → map_far m d ≡ Some e → map_far m e ≡ Some d
  far-back d e f = (far_is_cabled m e d is).1 (turned d e ((far_is_cabled m d e is).0 f))

  -- the ends of a cable in order
  front : (k : ℕ) (c : MapCable) → IsRising m (port_of_place k) c → map_far m (first_end c) ≡ Some (second_end c)
  front k c r = ap (map_far m) r.first ∙ r.far

  firsts : (i k : ℕ) (x c : MapCable) → i < k → IsRising m (port_of_place i) x → IsRising m (port_of_place k) c → first_end x ≡ first_end c → ⊥
  firsts i k x c l a b e =
      let q : port_of_place i ≡ port_of_place k = sym a.first ∙ e ∙ b.first in
      let p = place-below i k l in
      port-asym (port_of_place i) (port_of_place k) p ((λ j. port_below (sym q j) (q j)) ∙ p)

  -- no end stands at two cables in order
  never : (i k : ℕ) (x c : MapCable) (d : MapPort) → i < k → IsRising m (port_of_place i) x → IsRising m (port_of_place k) c → (d ≡ first_end x) ⊎ (d ≡ second_end x)
      → (d ≡ first_end c) ⊎ (d ≡ second_end c)
      → ⊥
  never i k x c d l a b (inl s) (inl t) = firsts i k x c l a b (sym s ∙ t)
  never i k x c d l a b (inl s) (inr t) =
      let same : first_end x ≡ second_end c = sym s ∙ t in
      let others : Some (second_end x) ≡ Some (first_end c) = sym (front i x a) ∙ ap (map_far m) same ∙ far-back (first_end c) (second_end c) (front k c b) in
      let other : second_end x ≡ first_end c = cc in
      port-asym (first_end x) (second_end x) a.rises ((λ j. port_below (other j) (same j)) ∙ b.rises)
  never i k x c d l a b (inr s) (inl t) =
      let same : second_end x ≡ first_end c = sym s ∙ t in
      let others : Some (first_end x) ≡ Some (second_end c) = sym (far-back (first_end x) (second_end x) (front i x a)) ∙ ap (map_far m) same ∙ front k c b in
      let other : first_end x ≡ second_end c = cc in
      port-asym (first_end x) (second_end x) a.rises ((λ j. port_below (same j) (other j)) ∙ b.rises)
  never i k x c d l a b (inr s) (inr t) =
      let same : second_end x ≡ second_end c = sym s ∙ t in
      let others : Some (first_end x) ≡ Some (first_end c) = sym (far-back (first_end x) (second_end x) (front i x a)) ∙ ap (map_far m) same ∙ far-back (first_end c) (second_end c) (front k c b) in
      firsts i k x c l a b (let one : first_end x ≡ first_end c = cc in one)

  -- an end of the next cable is none of those before
  unused : (k : ℕ) (c : MapCable) (d : MapPort) → IsRising m (port_of_place k) c → (d ≡ first_end c) ⊎ (d ≡ second_end c) → far_port (cables_below m k) d ≡ None
  unused k c d r at = by (far_port (cables_below m k) d) refl
    where
      by : (o : Option MapPort) → far_port (cables_below m k) d ≡ o → far_port (cables_below m k) d ≡ None
      by None e = e
      by (Some f) e =
          let t = end-of (cables_below m k) d (far-end (cables_below m k) d f e) in
          let b = below-member m k t.cable t.member in
          absurd (never b.place k t.cable c d b.below (cable-rises m (port_of_place b.place) t.cable b.from) r t.is at)

  -- an end of the cables in order is one of the map
  inside : (k : ℕ) (d : MapPort) → IsMember d (map_ends (cables_below m k)) → IsMember d (map_ends m.cables)
  inside k d i =
      let t = end-of (cables_below m k) d i in
      let b = below-member m k t.cable t.member in
      by t.cable (front b.place t.cable (cable-rises m (port_of_place b.place) t.cable b.from)) t.is
    where
      by : (x : MapCable) → map_far m (first_end x) ≡ Some (second_end x) → (d ≡ first_end x) ⊎ (d ≡ second_end x) → IsMember d (map_ends m.cables)
      by x f (inl e) = subst (λ y. IsMember y (map_ends m.cables)) (sym e) (far-end m.cables (first_end x) (second_end x) f)
      by x f (inr e) = subst (λ y. IsMember y (map_ends m.cables)) (sym e) (far-end m.cables (second_end x) (first_end x) (far-back (first_end x) (second_end x) f))

  near-below : (k : ℕ) (d e : MapPort) → map_far m d ≡ Some e → are_near (cables_below m k) d ≡ true
  near-below k d e f =
      near-from (map_ends (cables_below m k)) d
      (all-from-members (λ x. x.v ≡ d.v → is_turn (x.p -ℤ d.p) ≡ true) (map_ends (cables_below m k))
      (λ x i v. near-two (map_ends m.cables) d x is.ports_near (far-end m.cables d e f) (inside k x i) v))

  -- a cabled port of the map is one that it may have
  may : (k : ℕ) (d e : MapPort) → map_far m d ≡ Some e → may_have (ordered_to m k) d ≡ true
  may k d e f =
      let turn : is_turn d.p ≡ true = port-holds (λ x. IsTurn x.p) m.cables d e is.ports_in_range f in
      let low : d.v < length m.vertices = port-holds (λ x. x.v < length m.vertices) m.cables d e is.cabled_vertices f in
      let port = port-holds (λ x. (h : ℕ) → host_of_vertex m x.v ≡ Some h → x.p ≡ pos 0) m.cables d e is.host_ports f in
      and_from (is_turn d.p) _ turn
      (and_from (is_switch_vertex m d.v || int_eq d.p (pos 0)) _ (host-or-switch (slice_get m.vertices d.v) d.p (some-below m.vertices d.v low) port) (near-below k d e f))

  low : (d e : MapPort) → map_far m d ≡ Some e → nat_lt d.v (length m.vertices) ≡ true
  low d e f = lt-ltb d.v (length m.vertices) (port-holds (λ x. x.v < length m.vertices) m.cables d e is.cabled_vertices f)

  -- the two ends of a cable of the map
  near-ends : (d e : MapPort) → map_far m d ≡ Some e → is_near d e ≡ true
  near-ends d e f =
      (and_parts (is_near d e) true
      (near-from (d ∷ []) e ((λ v. near-two (map_ends m.cables) e d is.ports_near (far-end m.cables e d (far-back d e f)) (far-end m.cables d e f) v), tt))).0

  two-ends : (d e : MapPort) → IsCabled m d e → d ≢ e
  two-ends d e (forth k {c = c} s) = ends-differ m.cables k c is.ports_once s
  two-ends d e (back k {c = c} s) = λ same. ends-differ m.cables k c is.ports_once s (sym same)

  differ : (d e : MapPort) → map_far m d ≡ Some e → d ≢ e
  differ d e f = two-ends d e ((far_is_cabled m d e is).0 f)

  -- each cable in order is one of the map, with its lesser end in front
  upright-member : (d e : MapPort) → IsCabled m d e → port_below d e ≡ true → IsMember (record { v = d.v; p = d.p; w = e.v; q = e.p }) (map upright m.cables)
  upright-member d e (forth k {c = c} s) rises = subst (λ y. IsMember y (map upright m.cables)) (ap (upright_of c) rises) (member-map upright c m.cables (place-member m.cables k c s))
  upright-member d e (back k {c = c} s) rises = subst (λ y. IsMember y (map upright m.cables)) (ap (upright_of c) (falls (port_below (first_end c) (second_end c)) refl)) (member-map upright c m.cables (place-member m.cables k c s))
    where
      falls : (b : Bool) → port_below (first_end c) (second_end c) ≡ b → port_below (first_end c) (second_end c) ≡ false
      falls true t = absurd (port-asym (first_end c) (second_end c) t rises)
      falls false t = t

  few : (k : ℕ) (c : MapCable) → cable_from m (port_of_place k) ≡ Some c → length (cables_below m k) + 1 ≤ length m.cables
  few k c e =
      let all : length (cables_below m (suc k)) ≤ length (map upright m.cables) =
      no-more (cables_below m (suc k)) (map upright m.cables) (apart-order (cables_below m (suc k)) (below-in_order m (suc k))) (λ x i. member x (below-member m (suc k) x i)) in
      let one : length (cables_below m (suc k)) ≡ length (cables_below m k) + 1 = length-append (cables_below m k) (option_to_list (cable_from m (port_of_place k))) ∙ ap (λ o. length (cables_below m k) + length (option_to_list o)) e in
      let same : length (map upright m.cables) ≡ length m.cables = length-map m.cables upright in
      omega arith
    where
      member : (x : MapCable) → IsBelow m (suc k) x → IsMember x (map upright m.cables)
      member x b =
          let r = cable-rises m (port_of_place b.place) x b.from in
          upright-member (first_end x) (second_end x) ((far_is_cabled m (first_end x) (second_end x) is).0 (front b.place x r)) r.rises

-- the next cable in order is refused for nothing
pub next-taken : (m : NetMap) (k : ℕ) (c : MapCable) → IsFabricMap m → cable_from m (port_of_place k) ≡ Some c → cable_refusal (ordered_to m k) c ≡ None
next-taken m k c is from =
    let r = cable-rises m (port_of_place k) c from in
    let f = front m is.is_map k c r in
    let b = far-back m is.is_map (first_end c) (second_end c) f in
    let count = few m is.is_map k c from in
    let most = is.few_cables in
    let room : length (cables_below m k) < 4294967295 = omega arith in
    taken (ordered_to m k) c (low m is.is_map (first_end c) (second_end c) f) (low m is.is_map (second_end c) (first_end c) b) (may m is.is_map k (first_end c) (second_end c) f) (may m is.is_map k (second_end c) (first_end c) b)
    (near-ends m is.is_map (first_end c) (second_end c) f)
    (λ i. is_some (unused m is.is_map k c (first_end c) r (inl refl) i) || is_some (unused m is.is_map k c (second_end c) r (inr refl) i) || same_port-false (first_end c) (second_end c) (differ m is.is_map (first_end c) (second_end c) f) i)
    (not-full (length (cables_below m k)) room)
