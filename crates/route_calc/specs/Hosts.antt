-- The ways to each host.
use Rattle.std.specs.Prelude.{◌≡◌, ℕ, zero, suc, ◌<◌, ◌*◌, pos, List, [], ◌∷◌, length, slice_get, Option, Some}
use Rattle.std.specs.Prelude.{None}
use Rattle.std.specs.List.{AllByRecursion}
use Rattle.map_defs.specs.NetMap.{NetMap, host_of_vertex}
use Rattle.map_defs.specs.Routing.{vertex_of_host}
use Rattle.route_calc.specs.declared.entered.Entered.{Entered}
use Rattle.route_calc.specs.Exits.{all_exits}
use Rattle.route_calc.specs.Far.{AreDistances}
use Rattle.route_calc.specs.Firsts.{AreFirst}
use Rattle.route_calc.specs.Ways.{entered_by}

-- A host with its vertex, where its cable leads, the distances to it, and the first ports that lead nearer.
pub record HostWays : Type 0 where
  pub host : ℕ
  pub vertex : ℕ
  pub start : Option Entered
  pub far : List ℕ
  pub firsts : List ℕ

-- the ways to a host of a map
pub record AreWaysOf (m : NetMap) (order : List ℕ) (w : HostWays) : Type 0 where
  pub is_vertex : vertex_of_host m w.host ≡ Some w.vertex
  pub starts : w.start ≡ entered_by m order (record { v = w.vertex; p = pos 0 })
  pub are_distances : AreDistances m order w.vertex w.far
  pub are_first : AreFirst (all_exits m order) w.far w.firsts
  pub long : length w.far ≡ 2 * length m.vertices
  pub firsts_long : length w.firsts ≡ length w.far

-- the ways rise by host
abbrev pub AreRisingHosts : List HostWays → Type 0
AreRisingHosts [] = Unit {0}
AreRisingHosts (w ∷ ws) = AllByRecursion (λ x. w.host < x.host) ws × AreRisingHosts ws

-- the ways to a host are among these
pub record HasWays (ws : List HostWays) (host : ℕ) : Type 0 where
  pub place : ℕ
  pub ways : HostWays
  pub there : slice_get ws place ≡ Some ways
  pub same : ways.host ≡ host

-- These are the ways to each host of a map, by address.
pub record AreAllWays (m : NetMap) (order : List ℕ) (ws : List HostWays) : Type 0 where
  pub each : AllByRecursion (AreWaysOf m order) ws
  pub rising : AreRisingHosts ws
  pub whole : (v h : ℕ) → host_of_vertex m v ≡ Some h → HasWays ws h

-- the ways before those at a place
abbrev pub ways_before : List HostWays → ℕ → Option HostWays
ways_before ws zero = None
ways_before ws (suc k) = slice_get ws k
