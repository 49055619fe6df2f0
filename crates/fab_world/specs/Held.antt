-- The world that its links and its hosts make.
use Rattle.std.specs.Prelude.{◌≡◌, ℕ, ◌<◌, Bool, false, List, Option, IfSome}
use Rattle.net_defs.specs.Network.{IsFabric}
use Rattle.world_defs.specs.History.{IsHistory}
use Rattle.world_defs.specs.declared.event.Event.{Event}
use Rattle.world_defs.specs.declared.event.Event.TheVariants.{Poll}
use Rattle.world_defs.specs.declared.effect.Effect.{Effect}
use Rattle.world_defs.specs.declared.effect.Effect.TheVariants.{Arrived, Said}
use Rattle.world_defs.specs.Table.{Adoption}
use Rattle.world_defs.specs.World.{WorldState, fabric_of, host_count}
use Rattle.world_defs.specs.Step.{after_all}
use Rattle.world_defs.specs.EightBits.{HasByteFaults}
use Rattle.world_laws.specs.Shape.{IsWorld, HasSenders}
use Rattle.faulty_links.specs.Held.{LinksAndPlan}
use Rattle.adopted_routes.specs.Adopting.{IsSetOfHosts}
use Rattle.client_host.specs.Held.{ServedHost, IsFromHosts}
use Rattle.client_host.specs.Hosts.{states, clients_of}
use Rattle.client_host.specs.Telling.{is_refused}

-- the world that these links, their plan and counts, these hosts with their clients and these adopted routes make
abbrev pub world_of : LinksAndPlan → List ServedHost → Option Adoption → WorldState
world_of p hosts adopted = record {
  links = p.links;
  nodes = states hosts;
  clients = clients_of hosts;
  adopted = adopted;
  plan = p.plan;
  injected = p.injected;
  dropped = p.dropped;
  struck = p.struck;
  harmed = p.harmed;
}

-- What a world keeps: its cables have a history, its fabric is one, it is a world of that, the numbers of each
-- connection are in order, planned flips have patterns of eight bits, and adopted routes are of its hosts.
pub record IsMoment (w : WorldState) : Type 0 where
  pub history : IsHistory w.links.cables
  pub fabric : IsFabric (fabric_of w)
  pub world : IsWorld w
  pub senders : HasSenders w
  pub plan : HasByteFaults w
  pub adopted : IfSome w.adopted (IsSetOfHosts (host_count w))

-- some events lead from one world to another
abbrev pub IsLater : WorldState → WorldState → Type 0
IsLater w v = (es : List Event) × (v ≡ after_all w es)

-- a packet reaches a host that is there, and a message that a client receives is from one
abbrev pub IsOfHosts : ℕ → Effect → Type 0
IsOfHosts hosts (Arrived h heard) = h < hosts
IsOfHosts hosts (Said said) = IsFromHosts hosts said
IsOfHosts hosts _ = Unit {0}

-- a message that a poll hands out is from a host that is there
abbrev pub IsPolledOfHosts : ℕ → Event → Effect → Type 0
IsPolledOfHosts hosts (Poll h port) (Said said) = IsFromHosts hosts said
IsPolledOfHosts hosts _ _ = Unit {0}

-- an effect is that a client's call was refused
abbrev pub is_refusal : Effect → Bool
is_refusal (Said said) = is_refused said
is_refusal _ = false
