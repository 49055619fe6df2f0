-- Where the routes of a right map lead in the fabric, and which channels they cross there.
use Rattle.std.specs.Prelude.{◌≡◌, ◌↔◌, ℕ, ◌<◌, ℤ, pos, ◌+ℤ◌, List, [], ◌∷◌, length, Some}
use Rattle.std.specs.List.{AllByRecursion}
use Rattle.net_defs.specs.declared.place.Place.TheVariants.{Host as AtHost}
use Rattle.net_defs.specs.declared.route.Route.{Route}
use Rattle.net_defs.specs.Network.{Network, IsFabric}
use Rattle.net_defs.specs.Route.{place, channel_from, channels_of}
use Rattle.map_defs.specs.declared.rank.RankEntry.{RankEntry}
use Rattle.map_defs.specs.NetMap.{NetMap, MapPort, IsMap, host_of_vertex}
use Rattle.map_defs.specs.Routing.{LeadsTo, channels_on, port_of_host}
use Rattle.map_defs.specs.Sameness.{IsMapOfPart}
use Rattle.net_defs.specs.Dependencies.{IsBefore, HasNoCycle}
use Rattle.map_defs.specs.Ranks.{IsCertificate}

-- a vertex of the map is the host of this address
pub record HasHost (m : NetMap) (a : ℕ) : Type 0 where
  pub vertex : ℕ
  pub there : host_of_vertex m vertex ≡ Some a

-- Where a map is the mapper's part, turns from one of its hosts lead to a host in the map exactly where they lead to
-- it in the fabric, since offsets cancel in turns.
abbrev pub RoutesLeadInTheFabric : Type 0
RoutesLeadInTheFabric = (n : Network) (host a b : ℕ) (m : NetMap) (turns : List ℤ) → IsFabric n → IsMap m
    → IsMapOfPart n host m → HasHost m a → LeadsTo m a b turns ↔ (place n a turns ≡ AtHost b)

-- The channel of a fabric that a channel of the map stands for: it leaves by the image of its port.
pub record IsChannelOf (n : Network) (host : ℕ) (m : NetMap) (same : IsMapOfPart n host m) (d : MapPort)
    (c : ℕ) : Type 0 where
  pub in_map : d.v < length m.vertices
  pub port : ℕ
  pub moved : pos port ≡ d.p +ℤ same.offset d.v
  pub number : channel_from n (record { v = same.image d.v; p = port }) ≡ Some c

-- the elements of two lists, one after the other, are related
abbrev pub AreMatched : {X Y : Type 0} → (X → Y → Type 0) → List X → List Y → Type 0
AreMatched R [] [] = Unit {0}
AreMatched R (x ∷ xs) (y ∷ ys) = R x y × AreMatched R xs ys
AreMatched R _ _ = ⊥

-- The channels that turns from a host cross on the map stand for those that they cross in the fabric, in order.
abbrev pub ChannelsAreMatched : Type 0
ChannelsAreMatched = (n : Network) (host a : ℕ) (m : NetMap) (turns : List ℤ) → IsFabric n → IsMap m
    → (same : IsMapOfPart n host m) → HasHost m a
    → AreMatched (IsChannelOf n host m same) (channels_on m (port_of_host m a) turns) (channels_of n a turns)

-- a channel of the map stands for one channel of the fabric, and no other of the map stands for that
pub record IsOneToOne {X Y : Type 0} (R : X → Y → Type 0) : Type 0 where
  pub one : (x : X) (y z : Y) → R x y → R x z → y ≡ z
  pub back : (x w : X) (y : Y) → R x y → R w y → x ≡ w

-- the channels of a right map stand one to one for those of the fabric
abbrev pub ChannelsAreOneToOne : Type 0
ChannelsAreOneToOne = (n : Network) (host : ℕ) (m : NetMap) → IsFabric n → (same : IsMapOfPart n host m)
    → IsOneToOne (IsChannelOf n host m same)

-- the channels of each route in the fabric
abbrev pub channels_in_fabric : Network → List Route → List (List ℕ)
channels_in_fabric n [] = []
channels_in_fabric n (r ∷ rs) = channels_of n r.from r.walk ∷ channels_in_fabric n rs

-- each route starts at a host of the map
abbrev pub AreFromHosts : NetMap → List Route → Type 0
AreFromHosts m routes = AllByRecursion (λ r. HasHost m r.from) routes

-- Where routes have a rank certificate on a right map, the channels of the fabric that they cross have no cycle of
-- dependencies.
abbrev pub CertificateHoldsInTheFabric : Type 0
CertificateHoldsInTheFabric = (n : Network) (host : ℕ) (m : NetMap) (routes : List Route) (ranks : List RankEntry)
    → IsFabric n → IsMap m → IsMapOfPart n host m → AreFromHosts m routes → IsCertificate m routes ranks
    → HasNoCycle (IsBefore (channels_in_fabric n routes))
