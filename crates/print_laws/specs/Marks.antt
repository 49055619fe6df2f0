-- The marks of a complete map are those of the fabric as it stood before its command: outside is what a cable between
-- two switches cuts off from all hosts.
use Rattle.std.specs.Prelude.{◌≡◌, ◌↔◌, ℕ, ◌<◌, true, false, List, length, slice_get, Some}
use Rattle.net_defs.specs.Network.{Network, IsFabric}
use Rattle.map_defs.specs.NetMap.{NetMap, IsMap}
use Rattle.map_defs.specs.Core.{is_outside}
use Rattle.map_defs.specs.Sameness.{IsMapOfPart}
use Rattle.circ_defs.specs.Cores.{IsCutOff}
use Rattle.world_defs.specs.World.{fabric_of}
use Rattle.run_defs.specs.declared.command.Command.{Command}
use Rattle.run_defs.specs.declared.line.MapWords.TheVariants.{Complete}
use Rattle.print_laws.specs.Shown.{IsPrintedAfter}

-- a vertex of a right map is outside exactly where the vertex that it stands for is cut off
abbrev pub OutsideIsCutOff : Type 0
OutsideIsCutOff =
    (n : Network) (host : ℕ) (m : NetMap) → IsFabric n → IsMap m → (same : IsMapOfPart n host m) → (v : ℕ)
    → v < length m.vertices → (is_outside m v ≡ true) ↔ IsCutOff n (same.image v)

-- so a printed map that is complete marks a vertex as outside exactly there
abbrev pub MarksAreRight : Type 0
MarksAreRight =
    (n : Network) (commands : List Command) (host : ℕ) (m : NetMap) → IsFabric n
    → (p : IsPrintedAfter n commands host Complete m) → (same : IsMapOfPart (fabric_of p.session.world) host m)
    → (v : ℕ) → v < length m.vertices
    → (slice_get m.core v ≡ Some false) ↔ IsCutOff (fabric_of p.session.world) (same.image v)
