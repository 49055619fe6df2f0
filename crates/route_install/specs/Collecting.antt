-- A host's table with the host, and the parts that stand together in it.
use Rattle.std.specs.Prelude.{ℕ, zero, suc, ◌<◌, ◌^◌, Bool, true, false, ◌&&◌, nat_lt, List, [], ◌∷◌, ◌++◌, nat_eq}
use Rattle.std.specs.Prelude.{nat_le, slice_get, if◌then◌else◌, Option, Some, None, option_map}
use Rattle.std.specs.List.{AllByRecursion}
use Rattle.world_defs.specs.Mapping.{RouteEntry, is_route}
use Rattle.world_defs.specs.Table.{TableState, ActiveTable, with_part, of_epoch}

-- A table and the host that it is of.
pub record HostTable : Type 0 where
  pub host : ℕ
  pub state : TableState

-- a part of a table: its number and its entries
abbrev pub Numbered : Type 0
Numbered = ℕ × List RouteEntry

-- the entries of parts, end to end
abbrev pub joined_all : List Numbered → List RouteEntry
joined_all [] = []
joined_all (p ∷ ps) = p.1 ++ joined_all ps

-- parts stand by rising number
abbrev pub AreNumbered : List Numbered → Type 0
AreNumbered [] = Unit {0}
AreNumbered (p ∷ ps) = AllByRecursion (λ q. p.0 < q.0) ps × AreNumbered ps

-- the place of the first part that isn't below a number
abbrev pub place_of : ℕ → List Numbered → ℕ
place_of number [] = 0
place_of number (p ∷ ps) = if nat_le number p.0 then 0 else suc (place_of number ps)

-- the part at a place has this number
abbrev pub has_number : Option Numbered → ℕ → Bool
has_number None number = false
has_number (Some p) number = nat_eq p.0 number

-- all parts below a number stand: the last of them stands at its own place
abbrev pub are_all : ℕ → List Numbered → Bool
are_all zero ps = true
are_all (suc n) ps = has_number (slice_get ps n) n

-- the active table of an epoch, if there is one
abbrev pub active_of : Option ℕ → List Numbered → Option ActiveTable
active_of epoch ps = option_map (λ e. record { epoch = e; entries = joined_all ps }) epoch

-- one part more of an epoch
abbrev pub with_one : TableState → ℕ → ℕ → List RouteEntry → TableState
with_one t epoch number entries =
    record (of_epoch t epoch) { collected = with_part number entries (of_epoch t epoch).collected }

-- an entry that a body may have
abbrev pub is_fit : RouteEntry → Bool
is_fit e = nat_lt e.to (2 ^ 16) && is_route e.walk
