-- What an installation is made of: the parts of a host, and what effects show of them.
use Rattle.std.specs.Prelude.{ℕ, Bool, false, ◌&&◌, ◌||◌, List, [], ◌∷◌, length, nat_eq, is_some}
use Rattle.std.specs.Prelude.{if◌then◌else◌}
use Rattle.std.specs.List.{range_with_len}
use Rattle.world_defs.specs.declared.effect.Effect.{Effect}
use Rattle.world_defs.specs.declared.effect.Effect.TheVariants.{Arrived}
use Rattle.world_defs.specs.declared.heard.Heard.TheVariants.{Routes, RoutesAck}
use Rattle.world_defs.specs.Table.{Adoption, part_count, entries_from}
use Rattle.world_defs.specs.World.{WorldState, node_at}

-- a host heard a part
abbrev pub has_part_come : ℕ → List Effect → Bool
has_part_come dst [] = false
has_part_come dst (Arrived h Routes ∷ xs) = nat_eq h dst || has_part_come dst xs
has_part_come dst (_ ∷ xs) = has_part_come dst xs

-- the mapper heard the acknowledgement of a host's part
abbrev pub is_acknowledged : ℕ → ℕ → ℕ → List Effect → Bool
is_acknowledged mapper dst part [] = false
is_acknowledged mapper dst part (Arrived h (RoutesAck epoch from p) ∷ xs) =
    (nat_eq h mapper && nat_eq from dst && nat_eq p part) || is_acknowledged mapper dst part xs
is_acknowledged mapper dst part (_ ∷ xs) = is_acknowledged mapper dst part xs

-- the host staged its acknowledgement where the part came to it and wasn't old
abbrev pub has_staged_answer : WorldState → ℕ → List Effect → Bool
has_staged_answer w dst xs = has_part_come dst xs && is_some (node_at w dst).part_ack

-- the numbers of a host's parts: the mapper has none
abbrev pub parts_of : Adoption → ℕ → List ℕ
parts_of a dst = if nat_eq dst a.mapper then [] else range_with_len 0 (part_count (length (entries_from a.routes dst)))
