-- When a mapper may adopt routes, what a world keeps of them, and when other routes are adopted.
use Rattle.std.specs.Prelude.{◌≡◌, ◌≢◌, ℕ, ◌≤◌, ◌<◌, ℤ, Bool, true, ◌||◌, List, length, nat_eq, if◌then◌else◌, Option}
use Rattle.std.specs.Prelude.{Some, None, is_none, IfSome}
use Rattle.std.specs.List.{AllByRecursion, list_any}
use Rattle.net_defs.specs.declared.place.Place.TheVariants.{Host as AtHost}
use Rattle.net_defs.specs.declared.route.Route.{Route}
use Rattle.net_defs.specs.Network.{Network, IsFabric}
use Rattle.net_defs.specs.Route.{place}
use Rattle.net_defs.specs.RouteSet.{HasRoute, AreRising, channels_of_all}
use Rattle.net_defs.specs.Dependencies.{IsBefore}
use Rattle.world_defs.specs.Mapping.{RoutePart}
use Rattle.port_graph.specs.Routes.{AreShort}
use Rattle.world_defs.specs.declared.standing.Standing.{Standing}
use Rattle.world_defs.specs.Table.{Adoption, last_epoch, is_kept_in, may_adopt_in, part_count, entries_from, part_for}
use Rattle.world_defs.specs.Table.{route_of}
use Rattle.adopted_routes.specs.declared.routes.AdoptRefusal.{AdoptRefusal}
use Rattle.adopted_routes.specs.declared.routes.AdoptRefusal.TheVariants.{Unrevoked, Epochs}
use Rattle.adopted_routes.specs.declared.routes.PartToSend.{PartToSend}

-- a host is the mapper, or a route of the set goes from it or to it
abbrev pub is_among : ℕ → List Route → ℕ → Bool
is_among mapper routes h = nat_eq h mapper || list_any (λ r. nat_eq r.from h || nat_eq r.to h) routes

-- Routes that a mapper may adopt in a fabric: each leads to its host; of the mapper and the hosts that the routes
-- name each has one to each other, and none to itself; and some numbering of channels rises along every two
-- neighbouring channels of every route.
pub record IsAdoptable (n : Network) (mapper : ℕ) (routes : List Route) : Type 0 where
  pub lead : AllByRecursion (λ r. place n r.from r.walk ≡ AtHost r.to) routes
  pub whole : (a b : ℕ) → is_among mapper routes a ≡ true → is_among mapper routes b ≡ true → a ≢ b
      → HasRoute routes a b
  pub apart : AllByRecursion (λ r. r.from ≢ r.to) routes
  pub number : ℕ → ℕ
  pub rises : (c d : ℕ) → IsBefore (channels_of_all n routes) c d → number c < number d

-- What a world of so many hosts keeps of an adopted set: its adopter is a host, its routes go from hosts to hosts, in
-- their order, each of at most 64 turns; of the adopter and the hosts that they name each has one to each other, and
-- none to itself; and each host's table fits into sixteen parts.
pub record IsSetOfHosts (hosts : ℕ) (a : Adoption) : Type 0 where
  pub mapper : a.mapper < hosts
  pub ends : AllByRecursion (λ r. (r.from < hosts) × (r.to < hosts)) a.routes
  pub in_order : AreRising a.routes
  pub short : AreShort a.routes
  pub whole : (g h : ℕ) → is_among a.mapper a.routes g ≡ true → is_among a.mapper a.routes h ≡ true → g ≢ h
      → HasRoute a.routes g h
  pub apart : AllByRecursion (λ r. r.from ≢ r.to) a.routes
  pub few : (h : ℕ) → length (entries_from a.routes h) ≤ 128

-- routes that a host may adopt in a fabric are a set of its hosts
abbrev pub AdoptableIsOfHosts : Type 0
AdoptableIsOfHosts =
    (n : Network) (hosts mapper epoch at : ℕ) (routes : List Route) → IsFabric n → hosts ≡ length n.hosts
    → mapper < hosts → AreRising routes → AreShort routes → IsAdoptable n mapper routes
    → IsSetOfHosts hosts (record { mapper = mapper; epoch = epoch; at = at; routes = routes })

-- why an epoch isn't followed by another: some host hasn't given it up, of which this is the first, or it is the last
abbrev pub refusal_of : Option ℕ → ℕ → Option AdoptRefusal
refusal_of (Some h) epoch = Some (Unrevoked h)
refusal_of None epoch = if nat_eq epoch last_epoch then Some Epochs else None

-- why routes aren't adopted
abbrev pub adopt_refusal : Standing → List Route → Option Adoption → Option AdoptRefusal
adopt_refusal s routes None = None
adopt_refusal s routes (Some a) = if is_kept_in s routes a then None else refusal_of s.unrevoked a.epoch

-- routes are refused exactly where they may not be adopted
abbrev pub RefusedExactly : Type 0
RefusedExactly =
    (s : Standing) (routes : List Route) (o : Option Adoption)
    → is_none (adopt_refusal s routes o) ≡ may_adopt_in s routes o

-- how many parts the adopted set has for a host's table; its adopter has none
abbrev pub part_count_for : Option Adoption → ℕ → ℕ
part_count_for None dst = 0
part_count_for (Some a) dst = if nat_eq dst a.mapper then 0 else part_count (length (entries_from a.routes dst))

-- a host's table fits into sixteen parts, if routes are adopted
abbrev pub HasFewFor : Option Adoption → ℕ → Type 0
HasFewFor o dst = IfSome o (λ a. length (entries_from a.routes dst) ≤ 128)

-- a part with the adopter that sends it and the route to its host, where there are both
abbrev pub sent_by_route : ℕ → Option RoutePart → Option (List ℤ) → Option PartToSend
sent_by_route mapper (Some p) (Some by) = Some (record { mapper = mapper; part = p; by = by })
sent_by_route mapper _ _ = None

-- the part of a host's table that the adopter of a set has to send, where a set is adopted and has such a part and a
-- route to the host
abbrev pub part_to_send : Option Adoption → ℕ → ℕ → Option PartToSend
part_to_send None dst part = None
part_to_send (Some a) dst part = sent_by_route a.mapper (part_for a dst part) (route_of a.routes a.mapper dst)
