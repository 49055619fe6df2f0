-- That a run is acts which may happen, one after another: so whatever holds of every world that such acts lead to
-- holds along every run.
use Rattle.std.specs.Prelude.{ℕ, ◌<◌, ◌≤◌, List, length}
use Rattle.std.specs.List.{AllByRecursion}
use Rattle.net_defs.specs.Network.{Network, IsFabric}
use Rattle.net_defs.specs.declared.route.Route.{Route}
use Rattle.map_defs.specs.NetMap.{NetMap, IsMap}
use Rattle.map_defs.specs.Orientation.{order_of}
use Rattle.map_defs.specs.Routing.{AreRoutesOf}
use Rattle.map_defs.specs.Sameness.{IsMapOfPart}
use Rattle.net_defs.specs.Dependencies.{IsBefore, HasNoCycle}
use Rattle.world_defs.specs.EightBits.{IsByteFault}
use Rattle.world_defs.specs.Sound.{installed_channels}
use Rattle.run_defs.specs.declared.command.Command.{Command}
use Rattle.run_defs.specs.declared.command.Command.TheVariants.{Map, Circuit, Plan, Step}
use Rattle.run_defs.specs.declared.command.StepLine.{StepLine}
use Rattle.run_defs.specs.declared.command.StepLine.TheVariants.{Flip}
use Rattle.run_defs.specs.Output.{Piece}
use Rattle.run_defs.specs.Session.{SessionState}
use Rattle.run_defs.specs.Outcome.{fault_of}
use Rattle.run_defs.specs.Run.{IsRun}
use Rattle.world_defs.specs.Acts.{AreAdoptable, IsReached}

-- a single event flips eight bits at most
abbrev pub IsByteStep : StepLine → Type 0
IsByteStep (Flip e bit pattern) = pattern < 256
IsByteStep _ = Unit {0}

-- a command over a fabric: it maps from a host of the fabric to at most 65 cables, maps its circuit links from a host
-- of it, plans a fault for an injection to come, and flips eight bits at most
abbrev pub IsActOf : Network → Command → Type 0
IsActOf n (Map host depth tries) = (host < length n.hosts) × (depth ≤ 65)
IsActOf n (Circuit host depth) = host < length n.hosts
IsActOf n (Plan ahead kind) = (1 ≤ ahead) × IsByteFault (fault_of kind)
IsActOf n (Step line) = IsByteStep line
IsActOf n _ = Unit {0}

-- the routes of a right map may be adopted: the ranks of its ports number the channels of the fabric, rising along
-- each route
abbrev pub RightRoutesAreAdoptable : Type 0
RightRoutesAreAdoptable = (n : Network) (host : ℕ) (m : NetMap) (routes : List Route) → IsFabric n → IsMap m
    → IsMapOfPart n host m → AreRoutesOf m (order_of m) routes → AreAdoptable n routes

-- acts that may happen lead to the world of every run
abbrev pub RunIsReached : Type 0
RunIsReached = (n : Network) (commands : List Command) (out : List Piece) (last : SessionState) → IsFabric n
    → AllByRecursion (IsActOf n) commands → IsRun n commands out last → IsReached n last.world

-- so after every run the channels of the installed routes wait in no cycle
abbrev pub RunHasNoCycle : Type 0
RunHasNoCycle = (n : Network) (commands : List Command) (out : List Piece) (last : SessionState) → IsFabric n
    → AllByRecursion (IsActOf n) commands → IsRun n commands out last
    → HasNoCycle (IsBefore (installed_channels last.world))
