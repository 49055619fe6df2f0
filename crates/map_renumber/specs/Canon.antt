-- A map renumbered by least walks from vertex 0, as the map of a journal is ordered.
use Rattle.std.specs.Prelude.{◌≡◌, ◌↔◌, ℕ, ◌<◌, ℤ, pos, ◌+ℤ◌, Bool, true, false, List, map, length, slice_get}
use Rattle.std.specs.Prelude.{slice_index_or, Option, Some}
use Rattle.journal_defs.specs.Tree.{Node, node_below}
use Rattle.journal_defs.specs.Tree.Node.{Mapper, Reached}
use Rattle.map_defs.specs.NetMap.{NetMap, MapPort, IsCabled, AreInOrder, host_of_vertex}
use Rattle.map_defs.specs.Routing.{led_to}
use Rattle.map_defs.specs.Quotient.{named}

-- the port of vertex 0, a host
abbrev pub start_port : MapPort
start_port = record { v = 0; p = pos 0 }

-- the port by which a node enters its vertex: the mapper's host is vertex 0, and a walk leads from there
abbrev pub entered : NetMap → Node → Option MapPort
entered m Mapper = Some start_port
entered m (Reached w) = led_to m (Some start_port) w

-- no lesser node enters the vertex
pub record IsLeastWay (m : NetMap) (u : Node) (d : MapPort) : Type 0 where
  pub enters : entered m u ≡ Some d
  pub least : (x : Node) (q : ℤ) → entered m x ≡ Some (record { v = d.v; p = q }) → node_below x u ≡ false

-- the vertex of this number was that one, and its ports count from this one's entry port
pub record IsPortOf (entries : List MapPort) (d from : MapPort) : Type 0 where
  pub entry : ℤ
  pub there : slice_get entries d.v ≡ Some (record { v = from.v; p = entry })
  pub port : from.p ≡ d.p +ℤ entry

-- two ports are joined that were joined before
pub record IsMoved (m : NetMap) (entries : List MapPort) (d e : MapPort) : Type 0 where
  pub from : MapPort
  pub to : MapPort
  pub is_from : IsPortOf entries d from
  pub is_to : IsPortOf entries e to
  pub cabled : IsCabled m from to

-- a vertex has a number
pub record IsRenumbered (entries : List MapPort) (x : ℕ) : Type 0 where
  pub number : ℕ
  pub entry : ℤ
  pub there : slice_get entries number ≡ Some (record { v = x; p = entry })

-- whether a vertex is of the core
abbrev pub is_of_core : NetMap → ℕ → Bool
is_of_core m v = slice_index_or m.core v true

-- Vertices with their marks in the order of their least walks from vertex 0, which is a host; their ports counted
-- from the ports by which these enter; cables as a report orders them.
pub record IsCanon (m k : NetMap) : Type 0 where
  pub ways : List Node
  pub entries : List MapPort
  pub one_each : length ways ≡ length entries
  pub each_least : (v : ℕ) (u : Node) (d : MapPort) → slice_get ways v ≡ Some u → slice_get entries v ≡ Some d
      → IsLeastWay m u d
  pub in_order : (v w : ℕ) (u x : Node) → v < w → slice_get ways v ≡ Some u → slice_get ways w ≡ Some x
      → node_below u x ≡ true
  pub covered : (x : ℕ) → x < length m.vertices → IsRenumbered entries x
  pub vertices : k.vertices ≡ named 0 (map (λ d. host_of_vertex m d.v) entries)
  pub core : k.core ≡ map (λ d. is_of_core m d.v) entries
  pub cabled : (d e : MapPort) → IsCabled k d e ↔ IsMoved m entries d e
  pub cables_in_order : AreInOrder k.cables
