-- Events leave the hosts and the switches of the fabric, so what is printed after them has the names of before.
use Rattle.std.proofs.Common.{◌≡◌, ℕ, true, nat_lt, List, length, sym, subst}
use Rattle.net_defs.specs.declared.vertex.Vertex.TheVariants.{Host}
use Rattle.net_defs.specs.Network.{has_vertex}
use Rattle.world_defs.specs.Later.{IsLater}
use Rattle.world_defs.proofs.CablesLater.{later-kept}
use Rattle.world_defs.specs.World.{WorldState, fabric_of}
use Rattle.run_defs.specs.Output.{Piece}
use Rattle.fab_report.specs.Printed.{printed_of}
use Rattle.fab_report.proofs.Names.{printed-named}

pub printed-before : (w v : WorldState) → IsLater w.links.cables v.links.cables → (out : List Piece) → printed_of (fabric_of v) out ≡ printed_of (fabric_of w) out
printed-before w v l out = let k = later-kept l in printed-named (fabric_of v) (fabric_of w) k.hosts k.switches out

-- a host of the fabric is one still
pub host-stays : (w v : WorldState) (h : ℕ) → IsLater w.links.cables v.links.cables → has_vertex (fabric_of w) (Host h) ≡ true → has_vertex (fabric_of v) (Host h) ≡ true
host-stays w v h l is = let k = later-kept l in subst (λ (names : List (List ℕ)). nat_lt h (length names) ≡ true) (sym k.hosts) is
