-- Ports one after another.
use Rattle.std.proofs.Common.{◌≡◌, ◌<◌, ◌≤◌, ◌+◌, ◌-◌, ◌⊎◌, inl, inr, ℕ, Bool, true, false, ◌&&◌, not, nat_lt, Option, Some, None, refl, ap, sym, ◌∙◌, subst, arith, IfSome}
use Rattle.std.specs.Prelude.{ℤ, pos, negsuc, ◌+ℤ◌, ◌-ℤ◌, ◌≤ℤ◌, ◌<ℤ◌, int_le, is_some}
use Rattle.std.proofs.lemmas.Bool.{and_parts, cases_order}
use Rattle.std.proofs.lemmas.Bool.Decides.{nat_tests}
use Rattle.std.proofs.lemmas.Int.{ints}
use Rattle.net_defs.specs.declared.vertex.Vertex.{Vertex}
use Rattle.net_defs.specs.declared.vertex.End.{End}
use Rattle.net_defs.specs.Network.{Network, IsFabric, far, has_port, ports_of}
use Rattle.net_defs.specs.Turn.{IsTurn, is_turn}
use Rattle.net_defs.proofs.Cabling.{far-back}
use Rattle.net_defs.proofs.Places.{far-there}
use Rattle.map_defs.specs.NetMap.{NetMap, MapPort, IsMap, map_far}
use Rattle.fabric_map.specs.Table.{far_pair}
use Rattle.fabric_map.proofs.Tables.{far-outside}
use Rattle.map_sameness.specs.declared.pairing.Image.{Image}
use Rattle.map_sameness.specs.Pairing.{Pairs, IsMetAt, is_cabled_at, is_stray, Meets, MeetsBelow}
use Rattle.map_sameness.proofs.Pairs.{grows-along, met-still}

-- a port that a vertex of the fabric doesn't have leads nowhere
pub far-beyond : (n : Network) (x : Vertex) (p : ℕ) → IsFabric n → ports_of n x ≤ p → far n (record { v = x; p = p }) ≡ None
far-beyond n x p f past = by (far n (record { v = x; p = p })) refl
  where
    inside : (e : End) → far n (record { v = x; p = p }) ≡ Some e → nat_lt p (ports_of n x) ≡ true
    inside e q = subst (λ o. IfSome o (λ d. has_port n d ≡ true)) (far-back n (record { v = x; p = p }) e f q) (far-there n e f)

    by : (o : Option End) → far n (record { v = x; p = p }) ≡ o → far n (record { v = x; p = p }) ≡ None
    by None q = q
    by (Some e) q = absurd (let low : p < ports_of n x = below (inside e q) in omega (arith, low, past))
      where
        below : nat_lt p (ports_of n x) ≡ true → p < ports_of n x
        below t = grind (arith, nat_tests)

-- one port more
pub below-next : (n : Network) (m : NetMap) (s t u : Pairs) (v : ℕ) (i : Image) (k : ℕ) → MeetsBelow n m s t v i k → Meets n m t u v i k → MeetsBelow n m s u v i (k + 1)
below-next n m s t u v i k b c = record {
  pairing = c.pairing;
  grows = grows-along s t u b.grows c.grows;
  met = λ p l. by p (cases_order p k) l;
}
  where
    by : (p : ℕ) → (p ≡ k) ⊎ ((p < k) ⊎ (k < p)) → p < k + 1 → IsMetAt n m u v i p
    by p (inl e) l = subst (IsMetAt n m u v i) (sym e) c.met
    by p (inr (inl h)) l = λ e f. met-still m t u (record { v = v; p = pos p -ℤ i.offset }) e c.grows (b.met p h e f)
    by p (inr (inr h)) l = absurd (omega (arith, l, h))

-- all ports
pub below-all : (n : Network) (m : NetMap) (s t : Pairs) (v : ℕ) (i : Image) (k : ℕ) → ports_of n i.vertex ≤ k → MeetsBelow n m s t v i k → (p : ℕ) → Meets n m s t v i p
below-all n m s t v i k past b p = record { pairing = b.pairing; grows = b.grows; met = by (cases_order p k) }
  where
    beyond : ports_of n i.vertex ≤ p → IsMetAt n m t v i p
    beyond l e f = absurd (none-some e (sym (far-beyond n i.vertex p b.pairing.is_fabric l) ∙ f))
      where
        none-some : (x : End) → None ≡ Some x → ⊥
        none-some x q = cc

    by : (p ≡ k) ⊎ ((p < k) ⊎ (k < p)) → IsMetAt n m t v i p
    by (inl e) = beyond (omega (arith, e, past))
    by (inr (inl h)) = b.met p h
    by (inr (inr h)) = beyond (omega (arith, h, past))

-- ---- ports of the map
-- a port that is no turn leads nowhere
pub map-beyond : (m : NetMap) (d : MapPort) → IsMap m → is_turn d.p ≡ false → map_far m d ≡ None
map-beyond m d r e = far-outside m.cables d r.ports_in_range e

too-low : (p : ℤ) → p <ℤ negsuc 14 → is_turn p ≡ false
too-low p l = by (is_turn p) refl
  where
    by : (b : Bool) → is_turn p ≡ b → b ≡ false
    by true t = absurd (let parts = and_parts (int_le (negsuc 14) p) (int_le p (pos 15)) t in omega (arith, ints, l, parts))
    by false t = refl

too-high : (p : ℤ) → pos 15 <ℤ p → is_turn p ≡ false
too-high p l = by (is_turn p) refl
  where
    by : (b : Bool) → is_turn p ≡ b → b ≡ false
    by true t = absurd (let parts = and_parts (int_le (negsuc 14) p) (int_le p (pos 15)) t in omega (arith, ints, l, parts))
    by false t = refl

pub far_low : (m : NetMap) (v : ℕ) (p : ℤ) → IsMap m → p <ℤ negsuc 14 → None ≡ far_pair (map_far m (record { v = v; p = p }))
far_low m v p r l = sym (ap far_pair (map-beyond m (record { v = v; p = p }) r (too-low p l)))

pub far_high : (m : NetMap) (v : ℕ) (p : ℤ) → IsMap m → pos 15 <ℤ p → None ≡ far_pair (map_far m (record { v = v; p = p }))
far_high m v p r l = sym (ap far_pair (map-beyond m (record { v = v; p = p }) r (too-high p l)))

-- a port of the fabric whose number is negative, or past the last
pub cabled_low : (n : Network) (x : Vertex) (p : ℤ) → p <ℤ pos 0 → false ≡ is_cabled_at n x p
cabled_low n x (pos k) l = absurd (omega (arith, ints, l))
cabled_low n x (negsuc k) l = refl

pub cabled_high : (n : Network) (x : Vertex) (p : ℤ) → IsFabric n → pos (ports_of n x) ≤ℤ p → false ≡ is_cabled_at n x p
cabled_high n x (pos k) f l = sym (ap is_some (far-beyond n x k f (omega (arith, ints, l))))
cabled_high n x (negsuc k) f l = refl

place-of-turn : (p : ℤ) → IsTurn p → (k : ℕ) × ((k < 31) × (p ≡ pos k -ℤ pos 15))
place-of-turn (pos k) t =
    let parts = and_parts (int_le (negsuc 14) (pos k)) (int_le (pos k) (pos 15)) t in
    (k + 15, (omega (arith, ints, parts), omega (arith, ints)))
place-of-turn (negsuc k) t =
    let parts = and_parts (int_le (negsuc 14) (negsuc k)) (int_le (negsuc k) (pos 15)) t in
    let low : k < 15 = omega (arith, ints, parts) in
    (14 - k, (omega (arith, low), omega (arith, ints, low)))

-- none of the ports that a vertex may have is stray, so none is
pub none-stray : (n : Network) (m : NetMap) (v : ℕ) (i : Image) → IsMap m → ((k : ℕ) → k < 31 → is_stray n m v i (pos k -ℤ pos 15) ≡ false) → (p : ℤ) → is_stray n m v i p ≡ false
none-stray n m v i r all p = by (is_turn p) refl
  where
    by : (b : Bool) → is_turn p ≡ b → is_stray n m v i p ≡ false
    by true t = let k = place-of-turn p t in ap (is_stray n m v i) k.1.1 ∙ all k.0 k.1.0
    by false t = ap (λ o. is_some o && not (is_cabled_at n i.vertex (p +ℤ i.offset))) (map-beyond m (record { v = v; p = p }) r t)

-- a port of the map without a cable isn't stray
pub stray-outside : (n : Network) (m : NetMap) (v : ℕ) (i : Image) (p : ℤ) → map_far m (record { v = v; p = p }) ≡ None → is_stray n m v i p ≡ false
stray-outside n m v i p e = ap (λ o. is_some o && not (is_cabled_at n i.vertex (p +ℤ i.offset))) e
