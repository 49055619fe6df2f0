-- The fabric after all changes so far is the one that stands.
use Rattle.std.proofs.Common.{◌≡◌, ◌<◌, ◌≤◌, ℕ, true, false, nat_lt, nat_le, List, [], ◌∷◌, Option, Some, None, refl, subst, arith}
use Rattle.std.specs.Prelude.{IfSome}
use Rattle.std.specs.List.{AllByRecursion}
use Rattle.std.proofs.lemmas.Bool.Decides.{nat_tests}
use Rattle.net_defs.specs.Network.{IsFabric}
use Rattle.world_defs.specs.declared.wire.Wire.{Wire}
use Rattle.world_defs.specs.History.{CableHistory, IsHistory, IsDated, fabric_now, stood_at, is_in_place}
use Rattle.world_defs.specs.CableLaws.{LastIsNow}
use Rattle.world_defs.proofs.Fewer.{kept}
use Rattle.world_defs.proofs.Pulled.{kept-same}

stands-now : (changes k : ℕ) (w : Wire) → changes ≤ k → IsDated changes w → stood_at k w ≡ is_in_place w
stands-now changes k w low d = by w.pulled refl d.pulled
  where
    early : nat_le w.plugged k ≡ true
    early = let p = d.plugged in grind (arith, nat_tests)

    by : (o : Option ℕ) → w.pulled ≡ o → IfSome o (λ change. (w.plugged < change) × (change ≤ changes)) → stood_at k w ≡ is_in_place w
    by None is dates = rw (is, early) refl
    by (Some change) is dates = let gone : nat_lt k change ≡ false = let c = dates.1 in grind (arith, nat_tests) in rw (is, early, gone) refl

pub kept-now : (changes k : ℕ) (ws : List Wire) → changes ≤ k → AllByRecursion (IsDated changes) ws → kept (stood_at k) ws ≡ kept is_in_place ws
kept-now changes k [] low all = refl
kept-now changes k (w ∷ ws) low all = kept-same (stood_at k) is_in_place w w ws ws refl (stands-now changes k w low all.0) (kept-now changes k ws low all.1)

pub last_is_now : LastIsNow
last_is_now h k is low = λ i. record { hosts = h.hosts; switches = h.switches; cables = kept-now h.changes k h.wires low is.dated i }

pub now_is_fabric : (h : CableHistory) → IsHistory h → IsFabric (fabric_now h)
now_is_fabric h is = subst IsFabric (last_is_now h h.changes is (omega arith)) (is.fabrics h.changes)
