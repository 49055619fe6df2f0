-- The ways to the hosts below an address.
use Rattle.std.proofs.Common.{◌≡◌, ◌<◌, ◌+◌, ℕ, List, [], ◌∷◌, ◌++◌, length, Some, None, is_some, ap, sym, ◌∙◌, subst, arith, ◌⊎◌, inl, inr}
use Rattle.std.specs.List.{AllByRecursion}
use Rattle.std.proofs.lemmas.Bool.{false≢true, cases_order}
use Rattle.net_defs.proofs.Distinct.{all-push}
use Rattle.map_defs.specs.NetMap.{NetMap, host_of_vertex}
use Rattle.map_defs.specs.Routing.{vertex_of_host, is_host_named}
use Rattle.fabric_map.proofs.Listings.{host-any, position-any}
use Rattle.route_calc.specs.Hosts.{HostWays, AreWaysOf, AreRisingHosts, HasWays, AreAllWays}
use Rattle.route_calc.proofs.Adding.{get-before, get-last}

pub record Gathered (m : NetMap) (order : List ℕ) (ws : List HostWays) (a : ℕ) : Type 0 where
  pub each : AllByRecursion (AreWaysOf m order) ws
  pub rising : AreRisingHosts ws
  pub below : AllByRecursion (λ w. w.host < a) ws
  pub whole : (v h : ℕ) → host_of_vertex m v ≡ Some h → h < a → HasWays ws h

pub gathered-none : (m : NetMap) (order : List ℕ) → Gathered m order [] 0
gathered-none m order = record { each = tt; rising = tt; below = tt; whole = λ v h e l. absurd (omega arith) }

below-more : (ws : List HostWays) (a : ℕ) → AllByRecursion (λ w. w.host < a) ws → AllByRecursion (λ w. w.host < a + 1) ws
below-more [] a all = tt
below-more (w ∷ ws) a all = (let l = all.0 in omega arith, below-more ws a all.1)

rising-push : (ws : List HostWays) (x : HostWays) → AreRisingHosts ws → AllByRecursion (λ w. w.host < x.host) ws → AreRisingHosts (ws ++ x ∷ [])
rising-push [] x r b = (tt, tt)
rising-push (w ∷ ws) x r b = (all-push (λ y. w.host < y.host) ws x r.0 b.0, rising-push ws x r.1 b.1)

-- no host has the address
pub gathered-skip : (m : NetMap) (order : List ℕ) (ws : List HostWays) (a : ℕ) → Gathered m order ws a → vertex_of_host m a ≡ None → Gathered m order ws (a + 1)
gathered-skip m order ws a g none = record { each = g.each; rising = g.rising; below = below-more ws a g.below; whole = λ v h e l. by v h e l (cases_order h a) }
  where
    absent : (v : ℕ) → host_of_vertex m v ≡ Some a → ⊥
    absent v e = false≢true (ap is_some (sym none) ∙ position-any (is_host_named a) m.vertices ∙ host-any a m.vertices v e)

    by : (v h : ℕ) → host_of_vertex m v ≡ Some h → h < a + 1 → (h ≡ a) ⊎ ((h < a) ⊎ (a < h)) → HasWays ws h
    by v h e l (inl p) = absurd (absent v (e ∙ ap Some p))
    by v h e l (inr (inl p)) = g.whole v h e p
    by v h e l (inr (inr p)) = absurd (omega arith)

pub gathered-more : (m : NetMap) (order : List ℕ) (ws : List HostWays) (a : ℕ) (w : HostWays) → Gathered m order ws a → w.host ≡ a → AreWaysOf m order w → Gathered m order (ws ++ w ∷ []) (a + 1)
gathered-more m order ws a w g same right = record {
  each = all-push (AreWaysOf m order) ws w g.each right;
  rising = rising-push ws w g.rising (subst (λ h. AllByRecursion (λ (x : HostWays). x.host < h) ws) (sym same) g.below);
  below = all-push (λ x. x.host < a + 1) ws w (below-more ws a g.below) (omega arith);
  whole = λ v h e l. by v h e l (cases_order h a);
}
  where
    by : (v h : ℕ) → host_of_vertex m v ≡ Some h → h < a + 1 → (h ≡ a) ⊎ ((h < a) ⊎ (a < h)) → HasWays (ws ++ w ∷ []) h
    by v h e l (inl p) = record { place = length ws; ways = w; there = get-last ws w; same = same ∙ sym p }
    by v h e l (inr (inl p)) = let s = g.whole v h e p in record { place = s.place; ways = s.ways; there = get-before ws w s.ways s.place s.there; same = s.same }
    by v h e l (inr (inr p)) = absurd (omega arith)

pub gathered-all : (m : NetMap) (order : List ℕ) (ws : List HostWays) (n : ℕ) → Gathered m order ws n → ((v h : ℕ) → host_of_vertex m v ≡ Some h → h < n) → AreAllWays m order ws
gathered-all m order ws n g low = record { each = g.each; rising = g.rising; whole = λ v h e. g.whole v h e (low v h e) }
