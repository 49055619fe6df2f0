-- Route distribution: the parts into which a set of routes is cut, and what a host makes of them.
use Rattle.std.specs.Prelude.{ℕ, zero, suc, ◌+◌, ◌-◌, ◌*◌, ◌/◌, ℤ, Bool, true, false, not, ◌&&◌, ◌||◌, List, []}
use Rattle.std.specs.Prelude.{◌∷◌, ◌++◌, map, length, take, drop, find, nat_eq, nat_lt, if◌then◌else◌, is_none}
use Rattle.std.specs.Prelude.{Option, Some, None, option_map, option_and_then}
use Rattle.std.specs.List.{filter}
use Rattle.std.specs.Map.{lookup}
use Rattle.net_defs.specs.declared.route.Route.{Route}
use Rattle.net_defs.specs.RouteSet.{same_routes}
use Rattle.world_defs.specs.Fault.{epoch_limit}
use Rattle.world_defs.specs.Mapping.{RouteEntry, RoutePart}
use Rattle.world_defs.specs.declared.applied.Applied.{Applied}
use Rattle.world_defs.specs.declared.applied.Applied.TheVariants.{Part, Active, Old}
use Rattle.world_defs.specs.declared.standing.Standing.{Standing}

-- the most entries of a part
abbrev pub part_size : ℕ
part_size = 8

-- A set of routes was adopted by this mapper, and has this epoch, which began after so many changes of cables.
pub record Adoption : Type 0 where
  pub mapper : ℕ
  pub epoch : ℕ
  pub at : ℕ
  pub routes : List Route

-- the greatest number of an epoch: the links count no further
abbrev pub last_epoch : ℕ
last_epoch = epoch_limit

-- the epoch of what is adopted; 0 before the first adoption
abbrev pub epoch_in : Option Adoption → ℕ
epoch_in None = 0
epoch_in (Some a) = a.epoch

-- after how many changes of cables its epoch began; 0 before the first adoption
abbrev pub at_in : Option Adoption → ℕ
at_in None = 0
at_in (Some a) = a.at

-- an epoch is kept where the set is the adopted one, no host has given up the epoch, and no cable came or went since it
-- began
abbrev pub is_kept_in : Standing → List Route → Adoption → Bool
is_kept_in s routes a = same_routes routes a.routes && not s.revoked && nat_eq s.changes a.at

-- an adoption keeps the epoch; the first keeps none
abbrev pub keeps_in : Standing → List Route → Option Adoption → Bool
keeps_in s routes None = false
keeps_in s routes (Some a) = is_kept_in s routes a

-- routes may be adopted where nothing is adopted, where the epoch is kept, and where each host has given it up and
-- there is a next one
abbrev pub may_adopt_in : Standing → List Route → Option Adoption → Bool
may_adopt_in s routes None = true
may_adopt_in s routes (Some a) = is_kept_in s routes a || (is_none s.unrevoked && not (nat_eq a.epoch last_epoch))

-- What an adoption leaves: the next epoch, which begins now, or the one that is kept, with the same routes and the same
-- number of changes, where no more than the adopter is another.
abbrev pub adopted_in : Standing → ℕ → List Route → Option Adoption → Adoption
adopted_in s mapper routes o = record {
  mapper = mapper;
  epoch = if keeps_in s routes o then epoch_in o else epoch_in o + 1;
  at = s.changes;
  routes = routes;
}

-- the route of a set from one host to another
abbrev pub route_of : List Route → ℕ → ℕ → Option (List ℤ)
route_of routes from to = option_map (λ r. r.walk) (find (λ r. nat_eq r.from from && nat_eq r.to to) routes)

-- the routes of a set from one host, as entries of its table
abbrev pub entries_from : List Route → ℕ → List RouteEntry
entries_from routes host = map (λ r. record { to = r.to; walk = r.walk }) (filter (λ r. nat_eq r.from host) routes)

-- the number of parts for so many entries
abbrev pub part_count : ℕ → ℕ
part_count entries = (entries + (part_size - 1)) / part_size

-- the entries of a part
abbrev pub part_entries : List RouteEntry → ℕ → List RouteEntry
part_entries entries part = take part_size (drop (part_size * part) entries)

-- a part with its way back
abbrev pub part_with : Adoption → ℕ → ℕ → List RouteEntry → Option (List ℤ) → Option RoutePart
part_with a dst part entries None = None
part_with a dst part entries (Some back) = Some (record {
  epoch = a.epoch;
  mapper = a.mapper;
  dst = dst;
  part = part;
  parts = part_count (length entries);
  back = back;
  entries = part_entries entries part;
})

-- A part of a host's table has at most eight entries by rising destination, and the set's route back to the mapper.
-- The mapper itself has none.
abbrev pub part_for : Adoption → ℕ → ℕ → Option RoutePart
part_for a dst part =
    if nat_eq dst a.mapper then None
    else if nat_lt part (part_count (length (entries_from a.routes dst)))
    then part_with a dst part (entries_from a.routes dst) (route_of a.routes dst a.mapper)
    else None

-- An active table has its epoch and its routes.
pub record ActiveTable : Type 0 where
  pub epoch : ℕ
  pub entries : List RouteEntry

-- A host's table has the latest epoch that it has seen, whether the host gave that up, the parts of that epoch so far,
-- by rising number, and what is active.
pub record TableState : Type 0 where
  pub epoch : ℕ
  pub revoked : Bool
  pub collected : List (ℕ × List RouteEntry)
  pub active : Option ActiveTable

-- the table of a host that has seen no part
abbrev pub new_table : TableState
new_table = record { epoch = 0; revoked = false; collected = []; active = None }

-- the active table of a set's routes from a host
abbrev pub whole_table : List Route → ℕ → ℕ → TableState
whole_table routes host epoch = record {
  epoch = epoch;
  revoked = false;
  collected = [];
  active = Some (record { epoch = epoch; entries = entries_from routes host });
}

-- a host has given up this epoch
abbrev pub has_revoked : ℕ → TableState → Bool
has_revoked epoch t = nat_eq t.epoch epoch && t.revoked

-- the table of a host that gives up an epoch: nothing is collected or active, and the epoch is seen; where a later one
-- was seen, the table stays
abbrev pub revoked_table : TableState → ℕ → TableState
revoked_table t epoch =
    if nat_lt epoch t.epoch then t else record { epoch = epoch; revoked = true; collected = []; active = None }

-- a part of an epoch comes too late: a later one was seen, or the host gave it up
abbrev pub is_old : TableState → ℕ → Bool
is_old t epoch = nat_lt epoch t.epoch || (nat_eq epoch t.epoch && t.revoked)

-- the epoch of the active table
abbrev pub active_epoch : TableState → Option ℕ
active_epoch t = option_map (λ a. a.epoch) t.active

-- the route to a host, by the active table
abbrev pub table_route : TableState → ℕ → Option (List ℤ)
table_route t to = option_and_then (λ a. option_map (λ e. e.walk) (find (λ e. nat_eq e.to to) a.entries)) t.active

-- a part among others by rising number, in the place of an earlier one
abbrev pub with_part : ℕ → List RouteEntry → List (ℕ × List RouteEntry) → List (ℕ × List RouteEntry)
with_part number entries [] = (number, entries) ∷ []
with_part number entries (p ∷ ps) =
    if nat_lt number p.0 then (number, entries) ∷ p ∷ ps
    else if nat_eq number p.0 then (number, entries) ∷ ps
    else p ∷ with_part number entries ps

-- the entries of the parts below a number, end to end, where all of them stand
abbrev pub joined_below : ℕ → List (ℕ × List RouteEntry) → Option (List RouteEntry)
joined_below zero ps = Some []
joined_below (suc n) ps = option_and_then (λ front.
    option_map (λ entries. front ++ entries) (lookup (nat_eq n) ps)) (joined_below n ps)

-- an active table is of this epoch
abbrev pub is_epoch : ℕ → Option ℕ → Bool
is_epoch epoch None = false
is_epoch epoch (Some other) = nat_eq epoch other

-- the table that begins to collect an epoch, or goes on
abbrev pub of_epoch : TableState → ℕ → TableState
of_epoch t epoch = if nat_eq t.epoch epoch then t else record t { epoch = epoch; revoked = false; collected = [] }

-- with all parts there the table is active, and nothing is collected any more
abbrev pub joined_or : TableState → Option (List RouteEntry) → Applied × TableState
joined_or t None = (Part, t)
joined_or t (Some entries) =
    (Active, record t { collected = []; active = Some (record { epoch = t.epoch; entries = entries }) })

-- the table that has collected a part more
abbrev pub collected_with : TableState → RoutePart → TableState
collected_with t p = record t { collected = with_part p.part p.entries t.collected }

-- what a host makes of its collected parts, once one came that says how many there are
abbrev pub joined : ℕ → TableState → Applied × TableState
joined parts t = joined_or t (joined_below parts t.collected)

-- What a host makes of a part: old, where it has seen a later epoch or given up this one; active, where all parts of
-- its epoch stand now; else one part more.
unfoldable pub applied : TableState → RoutePart → Applied × TableState
applied t p =
    if is_old t p.epoch then (Old, t)
    else if is_epoch p.epoch (active_epoch t) then (Active, t)
    else joined p.parts (collected_with (of_epoch t p.epoch) p)
