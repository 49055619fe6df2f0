-- Sets of routes: their order, which two hosts have one, whether two are the same, and the channels that they cross.
use Rattle.std.specs.Prelude.{◌≡◌, ℕ, Bool, true, false, ◌&&◌, ◌||◌, List, [], ◌∷◌, nat_lt, nat_eq, slice_get, Some}
use Rattle.std.specs.List.{AllByRecursion}
use Rattle.net_defs.specs.declared.route.Route.{Route}
use Rattle.net_defs.specs.Network.{Network}
use Rattle.net_defs.specs.Route.{channels_of}
use Rattle.net_defs.specs.Turn.{same_turns}

-- routes in their order: by sender, then by receiver
abbrev pub route_below : Route → Route → Bool
route_below r s = nat_lt r.from s.from || (nat_eq r.from s.from && nat_lt r.to s.to)

-- routes rise, each two of them: none stands twice
abbrev pub AreRising : List Route → Type 0
AreRising [] = Unit {0}
AreRising (r ∷ rs) = AllByRecursion (λ s. route_below r s ≡ true) rs × AreRising rs

-- a route of the set goes from one host to another
pub record HasRoute (routes : List Route) (a b : ℕ) : Type 0 where
  pub place : ℕ
  pub route : Route
  pub there : slice_get routes place ≡ Some route
  pub from : route.from ≡ a
  pub to : route.to ≡ b

-- two routes are of the same hosts, with the same turns
abbrev pub same_route : Route → Route → Bool
same_route r s = nat_eq r.from s.from && nat_eq r.to s.to && same_turns r.walk s.walk

-- two sets are the same routes in the same order
abbrev pub same_routes : List Route → List Route → Bool
same_routes [] [] = true
same_routes (r ∷ rs) (s ∷ ss) = same_route r s && same_routes rs ss
same_routes _ _ = false

-- the channels of each route
abbrev pub channels_of_all : Network → List Route → List (List ℕ)
channels_of_all n [] = []
channels_of_all n (r ∷ rs) = channels_of n r.from r.walk ∷ channels_of_all n rs
