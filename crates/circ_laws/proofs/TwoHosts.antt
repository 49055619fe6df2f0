-- Two hosts at a switch: their whole tree, and so their map.
use Rattle.std.proofs.Common.{◌≡◌, ◌<◌, ℕ, zero, suc, Some, List, [], ◌∷◌, ◌++◌, true, false, rules, sym, subst, ap, refl, arith, ◌⊎◌, inl, inr}
use Rattle.std.specs.Prelude.{ℤ, pos, slice_get}
use Rattle.net_defs.specs.Examples.{two_hosts}
use Rattle.journal_defs.specs.Examples.{two_hosts_journal, answer_to_turn}
use Rattle.journal_defs.specs.Tree.{IsSwitchNode, is_asked}
use Rattle.journal_defs.specs.Growth.{crossed, IsExpanded}
use Rattle.journal_defs.specs.Walks.{IsOnward}
use Rattle.net_defs.proofs.TwoHosts.{two_hosts_fabric}
use Rattle.journal_defs.proofs.Grown.{two_hosts_grown, switch_first}
use Rattle.journal_defs.proofs.OneSwitch.{one-switch-expanded}
use Rattle.map_laws.proofs.Asks.{growing-once, growing-tree}
use Rattle.map_defs.specs.declared.vertex.MapCable.{MapCable}
use Rattle.map_defs.specs.NetMap.{IsCabled, MapPort, first_end, second_end}
use Rattle.map_defs.specs.Core.{is_outside}
use Rattle.map_defs.specs.Examples.{two_hosts_map, cable}
use Rattle.map_defs.proofs.TwoHosts.{two_hosts_quotient}
use Rattle.circ_defs.specs.Circuit.{IsWholeTree}
use Rattle.circ_defs.specs.CircuitMap.{HasNumber, IsCircuitMap, IsKeptCable, IsMapOfCore, IsWithoutOutside}
use Rattle.circ_defs.specs.Examples.{two_hosts_ears}
use Rattle.circ_defs.proofs.TwoHosts.{two_hosts_paths}
use Rattle.circ_laws.proofs.Ends.{cabled-number}
use Rattle.circ_laws.proofs.Numbering.{circuit_map_is_core}

pub two_hosts_tree : IsWholeTree two_hosts 0 5 two_hosts_journal
two_hosts_tree = record {
  circuit = search rules;
  once = growing-once 0 4 two_hosts_journal two_hosts_grown.growing;
  started = refl;
  expanded = λ w s l. subst (λ v. IsExpanded two_hosts_journal v) (sym (switch_first w s)) (one-switch-expanded answer_to_turn);
  only = only;
}
  where
    only : (w : List ℤ) (t : ℤ) → is_asked two_hosts_journal (w ++ t ∷ []) ≡ true → IsSwitchNode two_hosts_journal w × (crossed w < 5) × IsOnward t
    only w t e =
        let up = (growing-tree 0 4 two_hosts_journal two_hosts_grown.growing).parent w t e in
        (up.switch, subst (λ v. crossed v < 5) (sym (switch_first w up.switch)) (omega arith), up.onward)

-- nothing of the map is outside, so without what is outside it is itself
kept_itself : (v u : ℕ) → slice_get (0 ∷ 1 ∷ 2 ∷ []) v ≡ Some u → v ≡ u
kept_itself zero u e = cc
kept_itself (suc zero) u e = cc
kept_itself (suc (suc zero)) u e = cc
kept_itself (suc (suc (suc v))) u e = cc

two_hosts_inside : IsWithoutOutside two_hosts_map two_hosts_map
two_hosts_inside = record {
  kept = 0 ∷ 1 ∷ 2 ∷ [];
  each = each;
  in_order = λ v w u x l a b. subst (λ y. y < x) (kept_itself v u a) (subst (λ y. v < y) (kept_itself w x b) l);
  covered = covered;
  vertices = refl;
  cabled = λ v w p q. (to v w p q, from v w p q);
  cables_in_order = (refl, (refl, tt), (refl, tt, tt));
  all_core = refl;
}
  where
    each : (v u : ℕ) → slice_get (0 ∷ 1 ∷ 2 ∷ []) v ≡ Some u → (u < 3) × (is_outside two_hosts_map u ≡ false)
    each zero u e = let o : 0 ≡ u = cc in subst (λ y. (y < 3) × (is_outside two_hosts_map y ≡ false)) o (omega arith, refl)
    each (suc zero) u e = let o : 1 ≡ u = cc in subst (λ y. (y < 3) × (is_outside two_hosts_map y ≡ false)) o (omega arith, refl)
    each (suc (suc zero)) u e = let o : 2 ≡ u = cc in subst (λ y. (y < 3) × (is_outside two_hosts_map y ≡ false)) o (omega arith, refl)
    each (suc (suc (suc v))) u e = cc

    covered : (u : ℕ) → u < 3 → is_outside two_hosts_map u ≡ false → HasNumber (0 ∷ 1 ∷ 2 ∷ []) u
    covered zero l e = record { number = 0; there = refl }
    covered (suc zero) l e = record { number = 1; there = refl }
    covered (suc (suc zero)) l e = record { number = 2; there = refl }
    covered (suc (suc (suc u))) l e = absurd (omega arith)

    there : (k : ℕ) (c : MapCable) → slice_get two_hosts_map.cables k ≡ Some c → (slice_get (0 ∷ 1 ∷ 2 ∷ []) c.v ≡ Some c.v) × (slice_get (0 ∷ 1 ∷ 2 ∷ []) c.w ≡ Some c.w)
    there zero c e = let o : cable 0 (pos 0) 1 (pos 0) ≡ c = cc in subst (λ (y : MapCable). (slice_get (0 ∷ 1 ∷ 2 ∷ []) y.v ≡ Some y.v) × (slice_get (0 ∷ 1 ∷ 2 ∷ []) y.w ≡ Some y.w)) o (refl, refl)
    there (suc zero) c e = let o : cable 1 (pos 3) 2 (pos 0) ≡ c = cc in subst (λ (y : MapCable). (slice_get (0 ∷ 1 ∷ 2 ∷ []) y.v ≡ Some y.v) × (slice_get (0 ∷ 1 ∷ 2 ∷ []) y.w ≡ Some y.w)) o (refl, refl)
    there (suc (suc k)) c e = cc

    to : (v w : ℕ) (p q : ℤ) → IsCabled two_hosts_map (record { v = v; p = p }) (record { v = w; p = q }) → IsKeptCable two_hosts_map (0 ∷ 1 ∷ 2 ∷ []) v p w q
    to v w p q c = let r = cabled-number two_hosts_map (record { v = v; p = p }) (record { v = w; p = q }) c in by (there r.0 r.1.c r.1.there) r.1.ends
      where
        kept : (v x : ℕ) → slice_get (0 ∷ 1 ∷ 2 ∷ []) x ≡ Some x → x ≡ v → slice_get (0 ∷ 1 ∷ 2 ∷ []) v ≡ Some v
        kept v x e f = subst (λ y. slice_get (0 ∷ 1 ∷ 2 ∷ []) y ≡ Some y) f e

        made : slice_get (0 ∷ 1 ∷ 2 ∷ []) v ≡ Some v → slice_get (0 ∷ 1 ∷ 2 ∷ []) w ≡ Some w → IsKeptCable two_hosts_map (0 ∷ 1 ∷ 2 ∷ []) v p w q
        made a b = record { from = v; to = w; from_there = a; to_there = b; cabled = c }

        by : {d : MapCable} → (slice_get (0 ∷ 1 ∷ 2 ∷ []) d.v ≡ Some d.v) × (slice_get (0 ∷ 1 ∷ 2 ∷ []) d.w ≡ Some d.w) → ((first_end d ≡ record { v = v; p = p }) × (second_end d ≡ record { v = w; p = q })) ⊎ ((second_end d ≡ record { v = v; p = p }) × (first_end d ≡ record { v = w; p = q })) → IsKeptCable two_hosts_map (0 ∷ 1 ∷ 2 ∷ []) v p w q
        by {d} t (inl e) = made (kept v d.v t.0 (ap (λ (x : MapPort). x.v) e.0)) (kept w d.w t.1 (ap (λ (x : MapPort). x.v) e.1))
        by {d} t (inr e) = made (kept v d.w t.1 (ap (λ (x : MapPort). x.v) e.0)) (kept w d.v t.0 (ap (λ (x : MapPort). x.v) e.1))

    from : (v w : ℕ) (p q : ℤ) → IsKeptCable two_hosts_map (0 ∷ 1 ∷ 2 ∷ []) v p w q → IsCabled two_hosts_map (record { v = v; p = p }) (record { v = w; p = q })
    from v w p q k =
        subst (λ x. IsCabled two_hosts_map (record { v = x; p = p }) (record { v = w; p = q })) (sym (kept_itself v k.from k.from_there))
        (subst (λ x. IsCabled two_hosts_map (record { v = k.from; p = p }) (record { v = x; p = q })) (sym (kept_itself w k.to k.to_there)) k.cabled)

pub two_hosts_circuit : IsCircuitMap two_hosts 0 5 two_hosts_journal two_hosts_map
two_hosts_circuit = record { tree = two_hosts_tree; with_outside = two_hosts_map; quotient = two_hosts_quotient; without_outside = two_hosts_inside }

pub two_hosts_core : IsMapOfCore two_hosts 0 two_hosts_map
two_hosts_core = circuit_map_is_core two_hosts 0 5 two_hosts_journal two_hosts_ears two_hosts_map two_hosts_fabric two_hosts_paths (omega arith) two_hosts_circuit
