-- What holds of the parts of the adopted set.
use Rattle.std.specs.Prelude.{◌≡◌, ℕ, List, length, Option, Some}
use Rattle.std.specs.List.{AllByRecursion}
use Rattle.world_defs.specs.Mapping.{RouteEntry, RoutePart, Part, mapping_bytes, decode_mapping}
use Rattle.world_defs.specs.Table.{Adoption, TableState, part_count, part_entries, joined_below, applied}
use Rattle.table_laws.specs.Set.{IsPart, IsTable, IsFitPart}

-- parts of one table that are all there make it whole
abbrev pub JoinedIsWhole : Type 0
JoinedIsWhole =
    (whole : List RouteEntry) (ps : List (ℕ × List RouteEntry)) (es : List RouteEntry)
    → AllByRecursion (λ p. p.1 ≡ part_entries whole p.0) ps
    → joined_below (part_count (length whole)) ps ≡ Some es → es ≡ whole

-- a part of the set leaves a table of the set
abbrev pub PartKeepsTable : Type 0
PartKeepsTable = (o : Option Adoption) (host : ℕ) (t : TableState) (p : RoutePart) → IsPart o host p
    → IsTable o host t → IsTable o host (applied t p).1

-- a part that is read is the part that was written, whether it is by the rules or not
abbrev pub PartIsReadAsWritten : Type 0
PartIsReadAsWritten = (p q : RoutePart) → IsFitPart p → decode_mapping (mapping_bytes (Part p)) ≡ Some (Part q) → p ≡ q
