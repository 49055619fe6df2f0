-- What the calls of this crate answer: why two ports aren't joined, how many hosts give up their epoch, and which of
-- the adopted routes are broken.
use Rattle.std.specs.Prelude.{ℕ, Bool, true, false, ◌&&◌, nat_lt, List, map, length, is_some, is_none, if◌then◌else◌}
use Rattle.std.specs.Prelude.{Option}
use Rattle.std.specs.Prelude.{Some, None}
use Rattle.std.specs.List.{filter}
use Rattle.net_defs.specs.declared.vertex.End.{End}
use Rattle.net_defs.specs.declared.route.Route.{Route}
use Rattle.net_defs.specs.Building.{cable_refusal}
use Rattle.net_defs.specs.Network.{Network, has_port, far}
use Rattle.net_defs.specs.Route.{host_port, entered_after}
use Rattle.world_defs.specs.History.{cable_limit, fabric_left}
use Rattle.world_defs.specs.declared.event.Event.{Event}
use Rattle.world_defs.specs.declared.event.Event.TheVariants.{Revoke}
use Rattle.world_defs.specs.declared.effect.Effect.{Effect}
use Rattle.world_defs.specs.declared.effect.Effect.TheVariants.{Idle, Said}
use Rattle.world_defs.specs.declared.effect.Said.TheVariants.{Done}
use Rattle.world_defs.specs.World.{WorldState, fabric_of, addresses}
use Rattle.world_defs.specs.Step.{steps}
use Rattle.world_defs.specs.Traffic.{is_broken, adopted_routes}
use Rattle.fab_remap.specs.declared.cables.PlugRefusal.{PlugRefusal}
use Rattle.fab_remap.specs.declared.cables.PlugRefusal.TheVariants.{PortUsed, Full}

-- the effect of an event of a cable or of an epoch: idle where it wasn't possible
abbrev pub effect_of : Bool → Effect
effect_of true = Said Done
effect_of false = Idle

-- such an event was possible
abbrev pub is_done : Effect → Bool
is_done (Said Done) = true
is_done _ = false

-- why two ports aren't joined: the fabric as it stands takes no cable there, or all cables were named
abbrev pub plug_refusal : WorldState → End → End → Option PlugRefusal
plug_refusal w a b =
    if is_some (cable_refusal (fabric_of w) a b) then Some PortUsed
    else if nat_lt (length w.links.cables.wires) cable_limit then None
    else Some Full

-- a port is there, and has no cable
abbrev pub is_free : Network → End → Bool
is_free n e = has_port n e && is_none (far n e)

-- each host gives up the epoch of the adopted routes, by rising address
abbrev pub revocations : WorldState → List Event
revocations w = map Revoke (addresses w)

-- how many of them can
abbrev pub revoked_count : WorldState → ℕ
revoked_count w = length (filter is_done (steps w (revocations w)).0)

-- the two hosts of a route
abbrev pub hosts_of : Route → ℕ × ℕ
hosts_of r = (r.from, r.to)

-- the adopted routes that cross a cable pulled since the adoption, in their order: each by its two hosts
abbrev pub broken_pairs : WorldState → List (ℕ × ℕ)
broken_pairs w = map hosts_of (filter (λ r. is_broken w r.from r.to) (adopted_routes w))

-- a route's walk is stuck over what is left of the fabric since the adoption
abbrev pub is_stuck : WorldState → Route → Bool
is_stuck w r =
    is_none (entered_after (fabric_left w.links.cables) (far (fabric_left w.links.cables) (host_port r.from)) r.walk)

-- the routes of a list whose walks are, in their order
abbrev pub stuck_pairs : WorldState → List Route → List (ℕ × ℕ)
stuck_pairs w routes = map hosts_of (filter (is_stuck w) routes)
