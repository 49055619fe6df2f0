-- What comes of parts of one set, whatever their order.
use Rattle.std.specs.Prelude.{◌≡◌, ℕ, ◌<◌, Bool, true, false, ◌&&◌, not, List, [], ◌∷◌, length, nat_eq, nat_lt, Some}
use Rattle.std.specs.List.{AllByRecursion, list_any}
use Rattle.net_defs.specs.declared.route.Route.{Route}
use Rattle.net_defs.specs.RouteSet.{AreRising}
use Rattle.world_defs.specs.Mapping.{RoutePart}
use Rattle.world_defs.specs.Table.{Adoption, TableState, entries_from, part_count, part_for, applied, whole_table}
use Rattle.world_defs.specs.Table.{is_epoch, active_epoch}
use Rattle.route_install.specs.Installing.{AreHosts, parts_for}

-- the number of parts of a host's table
abbrev pub parts_of : Adoption → ℕ → ℕ
parts_of a dst = part_count (length (entries_from a.routes dst))

-- a part of a host's table, as the set is cut
abbrev pub IsPartOf : Adoption → ℕ → RoutePart → Type 0
IsPartOf a dst p = part_for a dst p.part ≡ Some p

-- the part of a number is among them
abbrev pub has_part : ℕ → List RoutePart → Bool
has_part n ps = list_any (λ p. nat_eq p.part n) ps

-- a table after parts, one after another
abbrev pub after_parts : TableState → List RoutePart → TableState
after_parts t [] = t
after_parts t (p ∷ ps) = after_parts (applied t p).1 ps

-- a table that has seen nothing of an epoch yet
abbrev pub is_before : TableState → ℕ → Bool
is_before t epoch = nat_lt t.epoch epoch && not (is_epoch epoch (active_epoch t))

-- Parts of one set, in any order and with repeats: once each has come, the table is the set's routes from the host.
abbrev pub PartsMakeTable : Type 0
PartsMakeTable =
    (a : Adoption) (dst : ℕ) (t : TableState) (ps : List RoutePart) → is_before t a.epoch ≡ true
    → AllByRecursion (IsPartOf a dst) ps
    → 0 < parts_of a dst → ((n : ℕ) → n < parts_of a dst → has_part n ps ≡ true)
    → after_parts t ps ≡ whole_table a.routes dst a.epoch

-- and as long as one is missing, what was active stays so
abbrev pub ActiveOnceAllStand : Type 0
ActiveOnceAllStand =
    (a : Adoption) (dst : ℕ) (t : TableState) (ps : List RoutePart) (n : ℕ) → is_before t a.epoch ≡ true
    → AllByRecursion (IsPartOf a dst) ps
    → n < parts_of a dst → has_part n ps ≡ false
    → (after_parts t ps).active ≡ t.active

-- A set of routes over hosts: it rises, and has a route for each two different hosts and no others.
pub record IsSetOver (hosts : List ℕ) (routes : List Route) : Type 0 where
  pub rising : AreRising routes
  pub each : (a b : ℕ) → list_any (nat_eq a) hosts ≡ true → list_any (nat_eq b) hosts ≡ true → nat_eq a b ≡ false
      → list_any (λ r. nat_eq r.from a && nat_eq r.to b) routes ≡ true
  pub only : AllByRecursion (λ r. (list_any (nat_eq r.from) hosts ≡ true) × (list_any (nat_eq r.to) hosts ≡ true)
      × (nat_eq r.from r.to ≡ false)) routes

-- Each host's table has as many parts as an installation on these hosts sends it.
abbrev pub EachHostHasItsParts : Type 0
EachHostHasItsParts =
    (a : Adoption) (hosts : List ℕ) (h : ℕ) → AreHosts hosts → IsSetOver hosts a.routes
    → list_any (nat_eq h) hosts ≡ true
    → parts_of a h ≡ parts_for hosts
