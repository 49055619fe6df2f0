-- The maps of circuit links that a run prints, and that there is always one to report.
use Rattle.std.specs.Prelude.{◌≡◌, ℕ, ◌≤◌, List, [], ◌∷◌, ◌++◌}
use Rattle.std.specs.List.{AllByRecursion}
use Rattle.net_defs.specs.Network.{Network, IsFabric}
use Rattle.world_defs.specs.World.{fabric_of}
use Rattle.map_defs.specs.NetMap.{NetMap}
use Rattle.circ_defs.specs.PathList.{Ear, most_back}
use Rattle.circ_defs.specs.Cores.{ArePathsOfCore}
use Rattle.circ_defs.specs.CircuitMap.{IsMapOfCore}
use Rattle.run_defs.specs.declared.command.Command.{Command}
use Rattle.run_defs.specs.declared.command.Command.TheVariants.{Circuit as CircuitCommand}
use Rattle.run_defs.specs.declared.line.Line.TheVariants.{Circuit}
use Rattle.run_defs.specs.Circuit.{IsCircuitTold}
use Rattle.run_defs.specs.Output.{Piece, OneLine, MapLines}
use Rattle.run_defs.specs.Session.{SessionState}
use Rattle.run_defs.specs.Run.{IsRun}
use Rattle.run_defs.specs.Headline.{FitsFabric, IsDoneAfter}

-- a run printed a map of circuit links, asked from a host to a depth by so many asks
pub record HasPrintedCircuit (out : List Piece) (host depth asks : ℕ) (m : NetMap) : Type 0 where
  pub before : List Piece
  pub behind : List Piece
  pub there : out ≡ before ++ OneLine (Circuit host depth asks) ∷ MapLines m ∷ behind

-- A map of circuit links was the circuit map to its depth of the fabric as it stood before its command, and its asks
-- are counted; where the depth was at least the most cables in a return walk of some path list of the core, it was the
-- core, up to each switch's offset.
pub record WasTold (n : Network) (commands : List Command) (before : List Piece) (host depth asks : ℕ) (m : NetMap)
    : Type 0 where
  pub done : IsDoneAfter n commands before (CircuitCommand host depth)
  pub told : IsCircuitTold (fabric_of done.session.world) host depth
      (OneLine (Circuit host depth asks) ∷ MapLines m ∷ [])
  pub core : (es : List Ear) → ArePathsOfCore (fabric_of done.session.world) host es → most_back es ≤ depth
      → IsMapOfCore (fabric_of done.session.world) host m

-- each map of circuit links that a run prints was so
abbrev pub CircuitMapsAreTrue : Type 0
CircuitMapsAreTrue =
    (n : Network) (commands : List Command) (out : List Piece) (last : SessionState) (host depth asks : ℕ) (m : NetMap)
    → IsFabric n → AllByRecursion (FitsFabric n) commands → IsRun n commands out last
    → (printed : HasPrintedCircuit out host depth asks m) → WasTold n commands printed.before host depth asks m

-- What is reported of the circuit links of a fabric, asked from a host to a depth.
pub record HasToldCircuit (n : Network) (host depth : ℕ) : Type 0 where
  pub out : List Piece
  pub told : IsCircuitTold n host depth out

-- There is something to report, whatever the host and the depth.
abbrev pub CircuitIsTold : Type 0
CircuitIsTold = (n : Network) (host depth : ℕ) → IsFabric n → HasToldCircuit n host depth
