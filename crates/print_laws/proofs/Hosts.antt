-- The hosts of a journal's map are hosts of the fabric.
use Rattle.std.proofs.Common.{◌≡◌, ◌<◌, ℕ, List, Bool, true, false, length, nat_lt, Some, sym, ◌∙◌, subst, refl, arith, if◌then◌else◌}
use Rattle.std.proofs.lemmas.Bool.Decides.{nat_tests}
use Rattle.net_defs.specs.Network.{Network, IsFabric}
use Rattle.net_defs.specs.Route.{host_port}
use Rattle.journal_defs.specs.declared.entry.Entry.{Entry}
use Rattle.journal_defs.specs.Tree.{Node, host_of}
use Rattle.journal_defs.specs.Tree.Node.{Mapper, Reached}
use Rattle.journal_defs.specs.Truth.{IsTrueWhereFound}
use Rattle.journal_defs.proofs.Standing.{host-stands, standing-there}
use Rattle.map_defs.specs.NetMap.{NetMap, host_of_vertex}
use Rattle.map_defs.specs.Quotient.{IsQuotient}
use Rattle.map_laws.proofs.Least.{below-vertex, vertex-host}
use Rattle.map_laws.proofs.Listed.{host-below}
use Rattle.map_canon.specs.Printing.{AreOfFabric}
use Rattle.map_canon.proofs.OfFabric.{each-of_fabric}

-- a host that has a port is one of the fabric
ported-below : (h count : ℕ) → nat_lt 0 (if nat_lt h count then 1 else 0) ≡ true → h < count
ported-below h count e = by (nat_lt h count) refl e
  where
    by : (b : Bool) → nat_lt h count ≡ b → nat_lt 0 (if b then 1 else 0) ≡ true → h < count
    by true p q = grind (arith, nat_tests)
    by false p q = absurd (grind (arith, nat_tests))

-- so is a node that is a host
node-below : (n : Network) (host : ℕ) (j : List Entry) (u : Node) (h : ℕ) → IsFabric n → host < length n.hosts → IsTrueWhereFound n host j → host_of host j u ≡ Some h → h < length n.hosts
node-below n host j Mapper h fabric there found e = let own : host ≡ h = cc in subst (λ a. a < length n.hosts) own there
node-below n host j (Reached w) h fabric there found e = ported-below h (length n.hosts) (standing-there n host w (host_port h) fabric (host-stands n host j (Reached w) h fabric found e))

-- so is each host of the map
pub host-there : (n : Network) (host : ℕ) (j : List Entry) (m : NetMap) → IsFabric n → host < length n.hosts → IsTrueWhereFound n host j → IsQuotient host j m → (v h : ℕ) → host_of_vertex m v ≡ Some h → h < length n.hosts
host-there n host j m fabric there found q v h e =
    let u = below-vertex host j m q v (host-below m.vertices v h e) in
    node-below n host j u.0 h fabric there found (sym (vertex-host host j m q v u.0 u.1) ∙ e)

pub hosts-of_fabric : (n : Network) (host : ℕ) (j : List Entry) (m : NetMap) → IsFabric n → host < length n.hosts → IsTrueWhereFound n host j → IsQuotient host j m → AreOfFabric n m
hosts-of_fabric n host j m fabric there found q = each-of_fabric n m.vertices (host-there n host j m fabric there found q)
