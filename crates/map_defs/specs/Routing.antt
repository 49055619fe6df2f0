-- Routes on a map: where they lead, which are legal, and which is least.
use Rattle.std.specs.Prelude.{◌≡◌, ◌≢◌, ℕ, ℤ, pos, ◌+ℤ◌, Bool, true, false, not, List, [], ◌∷◌, ◌++◌, map, nat_eq}
use Rattle.std.specs.Prelude.{if◌then◌else◌, Option, Some, None, option_map, option_and_then, option_to_list, position}
use Rattle.std.specs.List.{list_all, AllByRecursion}
use Rattle.journal_defs.specs.Walks.{walk_below}
use Rattle.map_defs.specs.declared.vertex.MapVertex.{MapVertex}
use Rattle.map_defs.specs.declared.vertex.MapVertex.TheVariants.{Host, Switch}
use Rattle.net_defs.specs.declared.route.Route.{Route}
use Rattle.net_defs.specs.RouteSet.{AreRising, HasRoute}
use Rattle.map_defs.specs.NetMap.{NetMap, MapPort, map_far, host_of_vertex, is_switch_vertex}
use Rattle.map_defs.specs.Orientation.{is_up}

-- the port that a turn leaves by, from the port entered: none at a host
abbrev pub turned_to : NetMap → MapPort → ℤ → Option MapPort
turned_to m e turn = if is_switch_vertex m e.v then Some (record { v = e.v; p = e.p +ℤ turn }) else None

-- the next port to leave by: over the cable at one, then by a turn
abbrev pub next_port : NetMap → MapPort → ℤ → Option MapPort
next_port m d turn = option_and_then (λ e. turned_to m e turn) (map_far m d)

-- the port that is entered last
abbrev pub led_to : NetMap → Option MapPort → List ℤ → Option MapPort
led_to m None turns = None
led_to m (Some d) [] = map_far m d
led_to m (Some d) (turn ∷ turns) = led_to m (next_port m d turn) turns

-- a cabled port is the channel that leaves by it
abbrev pub channel_at : NetMap → MapPort → List MapPort
channel_at m d = option_to_list (option_map (λ e. d) (map_far m d))

-- the channels that are crossed from a port on
abbrev pub channels_on : NetMap → Option MapPort → List ℤ → List MapPort
channels_on m None turns = []
channels_on m (Some d) [] = channel_at m d
channels_on m (Some d) (turn ∷ turns) = channel_at m d ++ channels_on m (next_port m d turn) turns

-- the host of an address
abbrev pub is_host_named : ℕ → MapVertex → Bool
is_host_named h (Host g) = nat_eq g h
is_host_named h (Switch s) = false

-- the vertex of a host
abbrev pub vertex_of_host : NetMap → ℕ → Option ℕ
vertex_of_host m h = position (is_host_named h) m.vertices

-- the port of a host, where the map has it
abbrev pub port_of_host : NetMap → ℕ → Option MapPort
port_of_host m h = option_map (λ v. record { v = v; p = pos 0 }) (vertex_of_host m h)

-- the turns lead from one host to another
pub record LeadsTo (m : NetMap) (a b : ℕ) (turns : List ℤ) : Type 0 where
  pub at : MapPort
  pub is_at : port_of_host m b ≡ Some at
  pub led : led_to m (port_of_host m a) turns ≡ Some at

-- no up channel comes after a down channel
abbrev pub no_up_after_down : List Bool → Bool
no_up_after_down [] = true
no_up_after_down (true ∷ ups) = no_up_after_down ups
no_up_after_down (false ∷ ups) = list_all not ups

-- the turns from a host are a legal route
abbrev pub is_legal : NetMap → List ℕ → ℕ → List ℤ → Bool
is_legal m order a turns = no_up_after_down (map (is_up m order) (channels_on m (port_of_host m a) turns))

-- the least of the legal routes from one host to another, in the order of walks
pub record IsLeastLegal (m : NetMap) (order : List ℕ) (a b : ℕ) (turns : List ℤ) : Type 0 where
  pub leads : LeadsTo m a b turns
  pub legal : is_legal m order a turns ≡ true
  pub least : (others : List ℤ) → LeadsTo m a b others → is_legal m order a others ≡ true
      → walk_below others turns ≡ false

-- The routes of a map are, from each host to each other host, the least legal one, and no others.
pub record AreRoutesOf (m : NetMap) (order : List ℕ) (routes : List Route) : Type 0 where
  pub in_order : AreRising routes
  pub between_hosts : AllByRecursion (λ r. r.from ≢ r.to) routes
  pub least : AllByRecursion (λ r. IsLeastLegal m order r.from r.to r.walk) routes
  pub whole : (v w a b : ℕ) → host_of_vertex m v ≡ Some a → host_of_vertex m w ≡ Some b → a ≢ b → HasRoute routes a b
