-- What belongs to the adopted set of routes: a part of it, an active table, and a host's table.
use Rattle.std.specs.Prelude.{◌≡◌, ◌⊎◌, ℕ, ◌+◌, ◌<◌, ◌≤◌, ◌^◌, true, List, [], length, IfSome, Option, Some, None}
use Rattle.std.specs.List.{list_all, AllByRecursion}
use Rattle.net_defs.specs.Turn.{is_turn}
use Rattle.net_defs.specs.declared.route.Route.{Route}
use Rattle.world_defs.specs.Mapping.{RouteEntry, RoutePart}
use Rattle.world_defs.specs.Table.{Adoption, ActiveTable, TableState, epoch_in, entries_from, part_count, part_entries}

-- A part is one of the set for its host, by the number of the set's epoch: whoever adopted the set, it says how many
-- parts there are, and has the entries of its number.
pub record IsPartOfSet (number : ℕ) (routes : List Route) (host : ℕ) (p : RoutePart) : Type 0 where
  pub epoch : p.epoch ≡ number
  pub parts : p.parts ≡ part_count (length (entries_from routes host))
  pub entries : p.entries ≡ part_entries (entries_from routes host) p.part

-- a part is of the set, or of an epoch before it; without an adopted set there is no part
abbrev pub IsPart : Option Adoption → ℕ → RoutePart → Type 0
IsPart None host p = ⊥
IsPart (Some a) host p = ((0 < p.epoch) × (p.epoch < a.epoch)) ⊎ IsPartOfSet a.epoch a.routes host p

-- An active table is of the set's epoch, and has the set's routes from its host.
pub record IsActiveOfSet (number : ℕ) (routes : List Route) (host : ℕ) (t : ActiveTable) : Type 0 where
  pub epoch : t.epoch ≡ number
  pub entries : t.entries ≡ entries_from routes host

-- without an adopted set none is active
abbrev pub IsActive : Option Adoption → ℕ → ActiveTable → Type 0
IsActive None host t = ⊥
IsActive (Some a) host t = IsActiveOfSet a.epoch a.routes host t

-- entries that a host collected under a number are those of that part
abbrev pub IsCollected : Option Adoption → ℕ → ℕ × List RouteEntry → Type 0
IsCollected None host p = ⊥
IsCollected (Some a) host p = p.1 ≡ part_entries (entries_from a.routes host) p.0

-- nothing is active or collected
pub record IsBare (t : TableState) : Type 0 where
  pub active : t.active ≡ None
  pub collected : t.collected ≡ []

-- A host's table is of the set: it has seen the set's epoch, or the one before; that one the host gave up, if it is
-- one. Where the epoch is the one before, or was given up, nothing is active or collected; else what is active and
-- what is collected are the set's.
pub record IsTable (o : Option Adoption) (host : ℕ) (t : TableState) : Type 0 where
  pub no_later : t.epoch ≤ epoch_in o
  pub no_earlier : epoch_in o ≤ t.epoch + 1
  pub before : t.epoch < epoch_in o → (t.epoch ≡ 0) ⊎ (t.revoked ≡ true)
  pub bare : (t.epoch < epoch_in o) ⊎ (t.revoked ≡ true) → IsBare t
  pub active : IfSome t.active (IsActive o host)
  pub collected : AllByRecursion (IsCollected o host) t.collected

-- an entry names a host of two bytes, and its route has turns
pub record IsFit (e : RouteEntry) : Type 0 where
  pub to : e.to < 2 ^ 16
  pub turns : list_all is_turn e.walk ≡ true

-- A part whose numbers fit into their bytes.
pub record IsFitPart (p : RoutePart) : Type 0 where
  pub epoch : p.epoch < 2 ^ 32
  pub mapper : p.mapper < 2 ^ 16
  pub dst : p.dst < 2 ^ 16
  pub back : list_all is_turn p.back ≡ true
  pub entries : AllByRecursion IsFit p.entries
