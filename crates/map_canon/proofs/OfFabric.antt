-- Maps whose hosts are hosts of the fabric, vertex by vertex.
use Rattle.std.proofs.Common.{◌≡◌, ◌<◌, ℕ, zero, suc, List, [], ◌∷◌, length, Some, subst, refl}
use Rattle.std.specs.Prelude.{slice_get}
use Rattle.std.specs.List.{AllByRecursion}
use Rattle.net_defs.specs.Network.{Network}
use Rattle.map_defs.specs.declared.vertex.MapVertex.{MapVertex}
use Rattle.map_defs.specs.declared.vertex.MapVertex.TheVariants.{Host, Switch}
use Rattle.map_defs.specs.NetMap.{host_at}
use Rattle.map_canon.specs.Printing.{IsOfFabric}

-- where each host of vertices is of the fabric, all are
pub each-of_fabric : (n : Network) (vs : List MapVertex) → ((v h : ℕ) → host_at (slice_get vs v) ≡ Some h → h < length n.hosts) → AllByRecursion (IsOfFabric n) vs
each-of_fabric n [] all = tt
each-of_fabric n (Host h ∷ vs) all = (all 0 h refl, each-of_fabric n vs (λ v. all (suc v)))
each-of_fabric n (Switch s ∷ vs) all = (tt, each-of_fabric n vs (λ v. all (suc v)))

-- and where all are, each host is
pub host-of_fabric : (n : Network) (vs : List MapVertex) (v h : ℕ) → AllByRecursion (IsOfFabric n) vs → host_at (slice_get vs v) ≡ Some h → h < length n.hosts
host-of_fabric n [] v h all e = cc
host-of_fabric n (Host g ∷ vs) zero h all e = let one : g ≡ h = cc in subst (λ a. a < length n.hosts) one all.0
host-of_fabric n (Switch s ∷ vs) zero h all e = cc
host-of_fabric n (x ∷ vs) (suc v) h all e = host-of_fabric n vs v h all.1 e
