-- What each packet's body and each host have of the adopted set.
use Rattle.std.specs.Prelude.{◌≡◌, ℕ, List, IfSome, Option, Some}
use Rattle.packet_defs.specs.declared.kind.Kind.{Kind}
use Rattle.packet_defs.specs.declared.kind.Kind.TheVariants.{Mapping}
use Rattle.world_defs.specs.Mapping.{RoutePart, Part, decode_mapping}
use Rattle.world_defs.specs.Table.{Adoption}
use Rattle.world_defs.specs.Node.{NodeState, Staged, StagedProbe, StagedPart}
use Rattle.table_laws.specs.Set.{IsPart, IsTable, IsFitPart}

-- a body that is read as a part is read as one of the adopted set, for the host that it names
pub record IsBody (o : Option Adoption) (kind : Kind) (payload : List ℕ) : Type 0 where
  pub part : (p : RoutePart) → kind ≡ Mapping → decode_mapping payload ≡ Some (Part p) → IsPart o p.dst p

-- a staged part is one of the adopted set, and its numbers fit
abbrev pub IsStaged : Option Adoption → Staged → Type 0
IsStaged o (StagedProbe walk looped) = Unit {0}
IsStaged o (StagedPart p by) = IsPart o p.dst p × IsFitPart p

-- A host has of the set what it staged, and its table.
pub record IsHostOf (o : Option Adoption) (host : ℕ) (n : NodeState) : Type 0 where
  pub staged : IfSome n.staged (IsStaged o)
  pub table : IsTable o host n.table
