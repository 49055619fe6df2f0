-- A map has one map without what is outside, and so a tree has one circuit map.
use Rattle.std.proofs.Common.{◌≡◌, ◌<◌, ℕ, List, [], ◌∷◌, map, true, sym, ◌∙◌, subst, ap, arith, ◌⊎◌, inl, inr}
use Rattle.journal_defs.proofs.Members.{IsMember, member-place}
use Rattle.map_defs.specs.declared.vertex.MapCable.{MapCable}
use Rattle.map_defs.specs.NetMap.{NetMap, AreInOrder, IsCabled, first_end, host_of_vertex, port_below, second_end}
use Rattle.map_defs.specs.NetMap.IsCabled.{forth}
use Rattle.map_defs.specs.Quotient.{named}
use Rattle.map_laws.proofs.Listed.{in-order, port-asym}
use Rattle.map_laws.proofs.OneMap.{AreRising, place-member, quotient_is_one, rising-one, rising-places}
use Rattle.circ_defs.specs.CircuitMap.{IsKeptCable, IsWithoutOutside}
use Rattle.circ_laws.specs.Laws.{CircuitMapIsOne}
use Rattle.circ_laws.proofs.Ends.{CabledBy, cabled-number}

both_below : (x y : ℕ) → x < y → y < x → ⊥
both_below x y a b = omega arith

-- the order of a map's cables
abbrev StandsBefore : MapCable → MapCable → Type 0
StandsBefore c d = port_below (first_end c) (first_end d) ≡ true

order-rises : (cs : List MapCable) → AreInOrder cs → AreRising StandsBefore cs
order-rises [] o = tt
order-rises (c ∷ cs) o = (o.1, order-rises cs o.2)

one_cable : (c d : MapCable) → first_end c ≡ first_end d → second_end c ≡ second_end d → c ≡ d
one_cable c d a b = λ i. record { v = (a i).v; p = (a i).p; w = (b i).v; q = (b i).p }

module _ (m : NetMap) where
  kept-there : (k l : NetMap) (s : IsWithoutOutside m k) (t : IsWithoutOutside m l) (u : ℕ) → IsMember u s.kept → IsMember u t.kept
  kept-there k l s t u i =
      let p = member-place u s.kept i in
      let inside = s.each p.0 u p.1 in
      let there = t.covered u inside.0 inside.1 in
      place-member t.kept there.number u there.there

  kept-same : (k l : NetMap) (s : IsWithoutOutside m k) (t : IsWithoutOutside m l) → s.kept ≡ t.kept
  kept-same k l s t =
      rising-one (λ u x. u < x) both_below s.kept t.kept (rising-places (λ u x. u < x) s.kept s.in_order) (rising-places (λ u x. u < x) t.kept t.in_order) (kept-there k l s t) (kept-there l k t s)

  cable-there : (k l : NetMap) (s : IsWithoutOutside m k) (t : IsWithoutOutside m l) (c : MapCable) → IsMember c k.cables → IsMember c l.cables
  cable-there k l s t c i =
      let p = member-place c k.cables i in
      let kept : IsKeptCable m s.kept c.v c.p c.w c.q = (s.cabled c.v c.w c.p c.q).0 (forth p.0 p.1) in
      let there : IsCabled l (first_end c) (second_end c) = (t.cabled c.v c.w c.p c.q).1 (subst (λ us. IsKeptCable m us c.v c.p c.w c.q) (kept-same k l s t) kept) in
      let other = cabled-number l (first_end c) (second_end c) there in
      by other.0 other.1 other.1.ends
    where
      by : (z : ℕ) (h : CabledBy l z (first_end c) (second_end c)) → ((first_end h.c ≡ first_end c) × (second_end h.c ≡ second_end c)) ⊎ ((second_end h.c ≡ first_end c) × (first_end h.c ≡ second_end c)) → IsMember c l.cables
      by z h (inl e) = subst (λ d. IsMember d l.cables) (one_cable h.c c e.0 e.1) (place-member l.cables z h.c h.there)
      by z h (inr e) =
          let own = in-order k.cables c s.cables_in_order i in
          let turned = in-order l.cables h.c t.cables_in_order (place-member l.cables z h.c h.there) in
          absurd (port-asym (first_end c) (second_end c) own (subst (λ x. port_below x (first_end c) ≡ true) e.1 (subst (λ x. port_below (first_end h.c) x ≡ true) e.0 turned)))

  cables-same : (k l : NetMap) → IsWithoutOutside m k → IsWithoutOutside m l → k.cables ≡ l.cables
  cables-same k l s t =
      rising-one StandsBefore (λ c d. port-asym (first_end c) (first_end d)) k.cables l.cables (order-rises k.cables s.cables_in_order) (order-rises l.cables t.cables_in_order) (cable-there k l s t) (cable-there l k t s)

  without-one : (k l : NetMap) → IsWithoutOutside m k → IsWithoutOutside m l → k ≡ l
  without-one k l s t =
      let vertices : k.vertices ≡ l.vertices = s.vertices ∙ ap (λ us. named 0 (map (host_of_vertex m) us)) (kept-same k l s t) ∙ sym t.vertices in
      let cables : k.cables ≡ l.cables = cables-same k l s t in
      let core : k.core ≡ l.core = s.all_core ∙ ap (map (λ v. true)) vertices ∙ sym t.all_core in
      λ i. record { vertices = vertices i; cables = cables i; core = core i }

pub circuit_map_is_one : CircuitMapIsOne
circuit_map_is_one n host depth j k l a b =
    let one : a.with_outside ≡ b.with_outside = quotient_is_one host j a.with_outside b.with_outside a.quotient b.quotient in
    without-one b.with_outside k l (subst (λ m. IsWithoutOutside m k) one a.without_outside) b.without_outside
