-- Marks of the core change nothing of which fabric a map shows.
use Rattle.std.proofs.Common.{◌≡◌, ◌⊎◌, ◌<◌, ◌∙◌, inl, inr, ℕ, List, Bool, length, ap, sym, subst, refl, arith}
use Rattle.net_defs.specs.Network.{Network, IsFabric}
use Rattle.map_defs.specs.NetMap.{NetMap}
use Rattle.map_defs.specs.Sameness.{IsMapOfPart}
use Rattle.map_defs.proofs.Sameness.{same_map_is_right}
use Rattle.map_laws.proofs.Alike.{marks_do_not_matter}
use Rattle.map_canon.specs.Printing.{AreOfFabric}
use Rattle.fabric_map.specs.Growing.{empty_map, with_core}
use Rattle.journal_defs.specs.declared.entry.Entry.{Entry}
use Rattle.journal_defs.specs.Growth.{IsGrown, IsEndedByDepth, IsEndedAtLimit}
use Rattle.journal_defs.specs.Truth.{IsTrueWhereFound}
use Rattle.map_defs.specs.Core.{core_of}
use Rattle.map_defs.specs.Quotient.{IsQuotient}
use Rattle.map_making.proofs.Hosts.{quotient-of_fabric}

-- a map that is right stays right
pub marked-right : (n : Network) (host : ℕ) (m k : NetMap) (core : List Bool) → k ≡ with_core m core → IsMapOfPart n host m → IsMapOfPart n host k
marked-right n host m k core e right =
    subst (IsMapOfPart n host) (sym e) (same_map_is_right n host m (with_core m core) (marks_do_not_matter (with_core m core) m refl refl) right)

-- its hosts stay hosts of the fabric
pub marked-of_fabric : (n : Network) (m k : NetMap) (core : List Bool) → k ≡ with_core m core → AreOfFabric n m → AreOfFabric n k
marked-of_fabric n m k core e all = subst (AreOfFabric n) (sym e) all

-- a map without vertices has none to mark
pub marked-empty : (m k : NetMap) → m ≡ empty_map → k ≡ with_core m (core_of m) → k ≡ empty_map
marked-empty m k none e = e ∙ ap (λ (z : NetMap). with_core z (core_of z)) none

-- the hosts of a map that is made within the limit of nodes are hosts of the fabric; else there are none
pub made-of_fabric : (n : Network) (host depth : ℕ) (j : List Entry) (m k : NetMap) → IsFabric n → host < length n.hosts → IsTrueWhereFound n host j → IsGrown host depth j → (¬ IsEndedAtLimit j → IsQuotient host j m) → (IsEndedAtLimit j → m ≡ empty_map) → k ≡ with_core m (core_of m) → AreOfFabric n k
made-of_fabric n host depth j m k fabric there found grown quotient none e = by grown.ended
  where
    by : IsEndedByDepth host depth j ⊎ IsEndedAtLimit j → AreOfFabric n k
    by (inl d) =
        let within : ¬ IsEndedAtLimit j = λ l. (let kept = d.kept in let passed = l.passed in absurd (omega (arith, kept, passed))) in
        marked-of_fabric n m k (core_of m) e (quotient-of_fabric n host j fabric there found m (quotient within))
    by (inr l) = subst (AreOfFabric n) (sym (marked-empty m k (none l) e)) tt
