-- The circuit map keeps the rules of maps, since the map of the whole tree does.
use Rattle.std.proofs.Common.{◌≡◌, ◌≢◌, ◌<◌, ◌≤◌, ℕ, suc, List, [], ◌∷◌, map, length, true, Some, sym, ◌∙◌, subst, ap, arith, inl, inr}
use Rattle.std.specs.Prelude.{ℤ, pos, negsuc, ◌+ℤ◌, ◌-ℤ◌, slice_get}
use Rattle.std.specs.List.{AllByRecursion}
use Rattle.std.proofs.lemmas.Bool.Decides.{nat_tests}
use Rattle.std.proofs.lemmas.Int.{ints}
use Rattle.std.proofs.lemmas.List.{length-map}
use Rattle.net_defs.specs.Network.{Network, IsFabric, Apart}
use Rattle.net_defs.specs.Turn.{IsTurn}
use Rattle.net_defs.proofs.Distinct.{all-weaker}
use Rattle.journal_defs.specs.declared.entry.Entry.{Entry}
use Rattle.journal_defs.specs.Counting.{numbers_below}
use Rattle.journal_defs.specs.Truth.{IsTrueWhereFound}
use Rattle.journal_defs.proofs.Members.{IsMember, all-from-members, all-member, member-place}
use Rattle.journal_defs.proofs.Standing.{turn-between}
use Rattle.map_defs.specs.declared.vertex.MapCable.{MapCable}
use Rattle.map_defs.specs.NetMap.{NetMap, MapPort, IsMap, IsCabled, IsNearPort, AreNearPorts, first_end, second_end, map_ends, host_of_vertex, switches_of}
use Rattle.map_defs.specs.NetMap.IsCabled.{forth, back}
use Rattle.map_defs.specs.Quotient.{IsQuotient}
use Rattle.map_laws.proofs.Least.{below-get, get-below, get-map}
use Rattle.map_laws.proofs.Listed.{all-ends, host-below, hosts-apart, near-ports, ports-apart, switches-numbered}
use Rattle.map_laws.proofs.Pigeons.{few-below}
use Rattle.map_laws.proofs.OneMap.{AreRising, place-member, rising-places}
use Rattle.map_laws.proofs.Ruled.{one-far, quotient_hosts, quotient_is_map}
use Rattle.circ_laws.proofs.Telling.{circuit-true}
use Rattle.circ_defs.specs.CircuitMap.{IsKeptCable, IsWithoutOutside}
use Rattle.circ_laws.specs.Laws.{CircuitMapIsMap}
use Rattle.circ_laws.proofs.Numbering.{count, host-is, one-place}

-- both ends of a cable are among the ends
end-member : (cs : List MapCable) (c : MapCable) → IsMember c cs → IsMember (first_end c) (map_ends cs) × IsMember (second_end c) (map_ends cs)
end-member [] c m = absurd m
end-member (x ∷ cs) c (inl e) = (inl (ap first_end e), inr (inl (ap second_end e)))
end-member (x ∷ cs) c (inr m) = let rest = end-member cs c m in (inr (inr rest.0), inr (inr rest.1))

cabled-member : (m : NetMap) (d e : MapPort) → IsCabled m d e → IsMember d (map_ends m.cables)
cabled-member m d e (forth i {c = c} p) = (end-member m.cables c (place-member m.cables i c p)).0
cabled-member m d e (back i {c = c} p) = (end-member m.cables c (place-member m.cables i c p)).1

-- no turn, and a turn the other way
none_apart : (p q : ℤ) → p ≡ q → IsTurn (p -ℤ q)
none_apart p q e = turn-between 0 0 (p -ℤ q) (omega arith) (omega arith) (omega (arith, ints))

other_way : (t u : ℤ) → IsTurn t → t +ℤ u ≡ pos 0 → IsTurn u
other_way (pos k) u t e = let low : k < 16 = grind (arith, nat_tests) in turn-between 0 k u (omega arith) low (omega (arith, ints))
other_way (negsuc k) u t e = let low : suc k < 16 = grind (arith, nat_tests) in turn-between (suc k) 0 u low (omega arith) (omega (arith, ints))

opposite : (p q : ℤ) → (p -ℤ q) +ℤ (q -ℤ p) ≡ pos 0
opposite p q = omega (arith, ints)

-- any two of near ports are near
near-two : (ds : List MapPort) (x y : MapPort) → AreNearPorts ds → IsMember x ds → IsMember y ds → IsNearPort x y
near-two [] x y r a b = absurd a
near-two (d ∷ ds) x y r (inl a) (inl b) = λ v. none_apart x.p y.p (ap (λ (z : MapPort). z.p) (a ∙ sym b))
near-two (d ∷ ds) x y r (inl a) (inr b) = subst (λ z. IsNearPort z y) (sym a) (all-member (IsNearPort d) y ds r.0 b)
near-two (d ∷ ds) x y r (inr a) (inl b) = λ v. other_way (y.p -ℤ x.p) (x.p -ℤ y.p) (turned (sym v)) (opposite y.p x.p)
  where
    turned : IsNearPort y x
    turned = subst (λ z. IsNearPort z x) (sym b) (all-member (IsNearPort d) x ds r.0 a)
near-two (d ∷ ds) x y r (inr a) (inr b) = near-two ds x y r.1 a b

one_port : (v w : ℕ) (p q : ℤ) → v ≡ w → p ≡ q → ◌≡◌ {A = MapPort} (record { v = v; p = p }) (record { v = w; p = q })
one_port v w p q a b = λ i. record { v = a i; p = b i }

some_one : (x y : ℕ) → Some x ≡ Some y → x ≡ y
some_one x y e = cc

-- a cabled port stands for a port of the map of the whole tree
record StandsFor (m : NetMap) (kept : List ℕ) (d : MapPort) : Type 0 where
  pub from : ℕ
  pub there : slice_get kept d.v ≡ Some from
  pub port : IsMember (record { v = from; p = d.p }) (map_ends m.cables)

module _ (n : Network) (host : ℕ) (j : List Entry) (m k : NetMap) (fabric : IsFabric n) (found : IsTrueWhereFound n host j) (q : IsQuotient host j m) (s : IsWithoutOutside m k) where
  rules : IsMap m
  rules = quotient_is_map n host j m fabric found q

  kept_cable : (d e : MapPort) → IsCabled k d e → IsKeptCable m s.kept d.v d.p e.v e.p
  kept_cable d e c = (s.cabled d.v e.v d.p e.p).0 c

  stands : (d e : MapPort) → IsCabled k d e → StandsFor m s.kept d
  stands d e c =
      let h = kept_cable d e c in
      record { from = h.from; there = h.from_there; port = cabled-member m (record { v = h.from; p = d.p }) (record { v = h.to; p = e.p }) h.cabled }

  each_end : (P : MapPort → Type 0) → ((d e : MapPort) → IsCabled k d e → P d) → AllByRecursion P (map_ends k.cables)
  each_end P holds = all-ends P k.cables (λ c i. let place = member-place c k.cables i in (holds (first_end c) (second_end c) (forth place.0 place.1), holds (second_end c) (first_end c) (back place.0 place.1)))

  cabled_vertices : AllByRecursion (λ d. d.v < length k.vertices) (map_ends k.cables)
  cabled_vertices = each_end (λ d. d.v < length k.vertices) (λ d e c. let p = stands d e c in subst (λ l. d.v < l) (sym (count m k s)) (get-below s.kept d.v p.from p.there))

  host_ports : AllByRecursion (λ d. (h : ℕ) → host_of_vertex k d.v ≡ Some h → d.p ≡ pos 0) (map_ends k.cables)
  host_ports = each_end (λ d. (h : ℕ) → host_of_vertex k d.v ≡ Some h → d.p ≡ pos 0) (λ d e c. by d (stands d e c))
    where
      by : (d : MapPort) → StandsFor m s.kept d → (h : ℕ) → host_of_vertex k d.v ≡ Some h → d.p ≡ pos 0
      by d p h is = all-member (λ x. (g : ℕ) → host_of_vertex m x.v ≡ Some g → x.p ≡ pos 0) (record { v = p.from; p = d.p }) (map_ends m.cables) rules.host_ports p.port h (sym (host-is m k s d.v p.from p.there) ∙ is)

  ports_in_range : AllByRecursion (λ d. IsTurn d.p) (map_ends k.cables)
  ports_in_range = each_end (λ d. IsTurn d.p) (λ d e c. let p = stands d e c in all-member (λ x. IsTurn x.p) (record { v = p.from; p = d.p }) (map_ends m.cables) rules.ports_in_range p.port)

  ports_near : AreNearPorts (map_ends k.cables)
  ports_near = near-ports (StandsFor m s.kept) near (map_ends k.cables) (each_end (StandsFor m s.kept) stands)
    where
      near : (d e : MapPort) → StandsFor m s.kept d → StandsFor m s.kept e → IsNearPort d e
      near d e a b v =
          let one : a.from ≡ b.from = some_one a.from b.from (sym a.there ∙ ap (slice_get s.kept) v ∙ b.there) in
          near-two (map_ends m.cables) (record { v = a.from; p = d.p }) (record { v = b.from; p = e.p }) rules.ports_near a.port b.port one

  -- a port has one far end
  one_far : (d e f : MapPort) → IsCabled k d e → IsCabled k d f → e ≡ f
  one_far d e f a b =
      let g = kept_cable d e a in
      let h = kept_cable d f b in
      let from : h.from ≡ g.from = some_one h.from g.from (sym h.from_there ∙ g.from_there) in
      let other : IsCabled m (record { v = g.from; p = d.p }) (record { v = h.to; p = f.p }) = subst (λ x. IsCabled m (record { v = x; p = d.p }) (record { v = h.to; p = f.p })) from h.cabled in
      let same = one-far n host j m fabric found q (record { v = g.from; p = d.p }) (record { v = g.to; p = e.p }) (record { v = h.to; p = f.p }) g.cabled other in
      let to : g.to ≡ h.to = ap (λ (x : MapPort). x.v) same in
      one_port e.v f.v e.p f.p (one-place m k s e.v f.v h.to (g.to_there ∙ ap Some to) h.to_there) (ap (λ (x : MapPort). x.p) same)

  ports_once : Apart (map_ends k.cables)
  ports_once = ports-apart k.cables s.cables_in_order one_end
    where
      cabled : (c : MapCable) → IsMember c k.cables → IsCabled k (first_end c) (second_end c) × IsCabled k (second_end c) (first_end c)
      cabled c i = let place = member-place c k.cables i in (forth place.0 place.1, back place.0 place.1)

      one_end : (c d : MapCable) → IsMember c k.cables → IsMember d k.cables → (first_end c ≡ first_end d → second_end c ≡ second_end d) × (first_end c ≡ second_end d → second_end c ≡ first_end d) × (second_end c ≡ second_end d → first_end c ≡ first_end d)
      one_end c d i l =
          let a = cabled c i in
          let b = cabled d l in (
            (λ e. one_far (first_end d) (second_end c) (second_end d) (subst (λ x. IsCabled k x (second_end c)) e a.0) b.0),
            (λ e. one_far (second_end d) (second_end c) (first_end d) (subst (λ x. IsCabled k x (second_end c)) e a.0) b.1),
            (λ e. one_far (second_end d) (first_end c) (first_end d) (subst (λ x. IsCabled k x (first_end c)) e a.1) b.1),
          )

  kept_at : (v : ℕ) → v < length k.vertices → (u : ℕ) × (slice_get s.kept v ≡ Some u)
  kept_at v l = below-get s.kept v (subst (λ c. v < c) (count m k s) l)

  hosts_once : (v w h : ℕ) → host_of_vertex k v ≡ Some h → host_of_vertex k w ≡ Some h → v ≡ w
  hosts_once v w h a b =
      let t = kept_at v (host-below k.vertices v h a) in
      let u = kept_at w (host-below k.vertices w h b) in
      let one : t.0 ≡ u.0 = quotient_hosts n host j m fabric found q t.0 u.0 h (sym (host-is m k s v t.0 t.1) ∙ a) (sym (host-is m k s w u.0 u.1) ∙ b) in
      one-place m k s v w u.0 (t.1 ∙ ap Some one) u.1

  ruled : IsMap k
  ruled = record {
    hosts_once = hosts-apart k.vertices hosts_once;
    switches_numbered = ap switches_of s.vertices ∙ switches-numbered (map (host_of_vertex m) s.kept) ∙ ap (λ vs. numbers_below (length (switches_of vs))) (sym s.vertices);
    one_mark_each = ap length s.all_core ∙ length-map k.vertices (λ v. true);
    hosts_marked = λ v h e. let x = below-get k.vertices v (host-below k.vertices v h e) in ap (λ c. slice_get c v) s.all_core ∙ get-map (λ v. true) k.vertices v x.0 x.1;
    cabled_vertices = cabled_vertices;
    ports_once = ports_once;
    host_ports = host_ports;
    ports_in_range = ports_in_range;
    ports_near = ports_near;
  }

pub circuit_map_is_map : CircuitMapIsMap
circuit_map_is_map n host depth j k fabric c = ruled n host j c.with_outside k fabric (circuit-true n host j c.tree.circuit) c.quotient c.without_outside

-- a host of it is one of the map of the whole tree
pub kept-host : (m k : NetMap) (s : IsWithoutOutside m k) (v h : ℕ) → host_of_vertex k v ≡ Some h → (u : ℕ) × (host_of_vertex m u ≡ Some h)
kept-host m k s v h e =
    let u = below-get s.kept v (subst (λ c. v < c) (count m k s) (host-below k.vertices v h e)) in
    (u.0, sym (host-is m k s v u.0 u.1) ∙ e)

-- numbers that rise stand once
below_apart : (x y : ℕ) → x < y → x ≢ y
below_apart x y l e = omega arith

rising-apart : (us : List ℕ) → AreRising (λ u x. u < x) us → Apart us
rising-apart [] r = tt
rising-apart (u ∷ us) r = (all-weaker (λ x. u < x) (λ x. u ≢ x) us (λ x l. below_apart u x l) r.0, rising-apart us r.1)

-- it has no more vertices than the map of the whole tree
pub few-kept : (m k : NetMap) (s : IsWithoutOutside m k) → length k.vertices ≤ length m.vertices
few-kept m k s =
    let apart = rising-apart s.kept (rising-places (λ u x. u < x) s.kept s.in_order) in
    subst (λ c. c ≤ length m.vertices) (sym (count m k s)) (few-below (length m.vertices) s.kept apart (all-from-members (λ u. u < length m.vertices) s.kept (λ u i. let p = member-place u s.kept i in (s.each p.0 u p.1).0)))
