-- The hosts of a journal's map are hosts of the fabric.
use Rattle.std.proofs.Common.{◌≡◌, ◌<◌, ℕ, suc, List, [], ◌∷◌, Bool, true, false, map, length, nat_lt, Option, Some, None, sym, subst, refl, arith, if◌then◌else◌}
use Rattle.std.specs.List.{AllByRecursion}
use Rattle.std.proofs.lemmas.Bool.Decides.{nat_tests}
use Rattle.net_defs.specs.Network.{Network, IsFabric}
use Rattle.net_defs.specs.Route.{host_port}
use Rattle.journal_defs.specs.declared.entry.Entry.{Entry}
use Rattle.journal_defs.specs.Tree.{Node, host_of}
use Rattle.journal_defs.specs.Tree.Node.{Mapper, Reached}
use Rattle.journal_defs.specs.Truth.{IsTrueWhereFound}
use Rattle.journal_defs.proofs.Standing.{host-stands, standing-there}
use Rattle.map_defs.specs.NetMap.{NetMap}
use Rattle.map_defs.specs.Quotient.{IsQuotient, named}
use Rattle.map_canon.specs.Printing.{IsOfFabric, AreOfFabric}

-- a host that has a port is one of the fabric
host-below : (h count : ℕ) → nat_lt 0 (if nat_lt h count then 1 else 0) ≡ true → h < count
host-below h count e = by (nat_lt h count) refl e
  where
    by : (b : Bool) → nat_lt h count ≡ b → nat_lt 0 (if b then 1 else 0) ≡ true → h < count
    by true p q = grind (arith, nat_tests)
    by false p q = absurd (grind (arith, nat_tests))

module _ (n : Network) (host : ℕ) (j : List Entry) (fabric : IsFabric n) (there : host < length n.hosts) (found : IsTrueWhereFound n host j) where
  -- a node that is a host is one of the fabric
  node-of_fabric : (u : Node) (h : ℕ) → host_of host j u ≡ Some h → h < length n.hosts
  node-of_fabric Mapper h e = let own : host ≡ h = cc in subst (λ a. a < length n.hosts) own there
  node-of_fabric (Reached w) h e =
      let stands = host-stands n host j (Reached w) h fabric found e in
      host-below h (length n.hosts) (standing-there n host w (host_port h) fabric stands)

  -- the vertices of nodes are of the fabric
  nodes-of_fabric : (s : ℕ) (us : List Node) → AllByRecursion (IsOfFabric n) (named s (map (host_of host j) us))
  nodes-of_fabric s [] = tt
  nodes-of_fabric s (u ∷ us) = by (host_of host j u) refl (nodes-of_fabric s us) (nodes-of_fabric (suc s) us)
    where
      by : (o : Option ℕ) → host_of host j u ≡ o → AllByRecursion (IsOfFabric n) (named s (map (host_of host j) us)) → AllByRecursion (IsOfFabric n) (named (suc s) (map (host_of host j) us)) → AllByRecursion (IsOfFabric n) (named s (o ∷ map (host_of host j) us))
      by (Some h) e host_rest switch_rest = (node-of_fabric u h e, host_rest)
      by None e host_rest switch_rest = (tt, switch_rest)

  pub quotient-of_fabric : (m : NetMap) → IsQuotient host j m → AreOfFabric n m
  quotient-of_fabric m q = subst (AllByRecursion (IsOfFabric n)) (sym q.vertices) (nodes-of_fabric 0 q.least)
