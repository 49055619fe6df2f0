-- The calls at ports of hosts that are there may be given to a world.
use Rattle.std.proofs.Common.{◌≡◌, ◌<◌, ℕ, subst, sym}
use Rattle.world_defs.specs.declared.event.Event.{Event}
use Rattle.world_defs.specs.declared.event.Event.TheVariants.{Begin, Provide, Send, Poll}
use Rattle.world_defs.specs.World.{WorldState, host_count}
use Rattle.client_host.specs.Calls.{IsClientCall}
use Rattle.fab_world.specs.declared.clients.PortAt.{PortAt}
use Rattle.fab_world.specs.Events.{IsGiven}

pub begun : (w : WorldState) (at : PortAt) (sends recvs : ℕ) (e : Event) → e ≡ Begin at.host at.port sends recvs → at.host < host_count w → at.port < 8 → IsGiven w e
begun w at sends recvs e is low port = subst (IsGiven w) (sym is) (low, port)

pub provided : (w : WorldState) (at : PortAt) (size prio : ℕ) (e : Event) → e ≡ Provide at.host at.port size prio → at.host < host_count w → at.port < 8 → IsGiven w e
provided w at size prio e is low port = subst (IsGiven w) (sym is) (low, port)

pub sent : (w : WorldState) (at to : PortAt) (prio len seed : ℕ) (e : Event) → e ≡ Send at.host at.port to.host to.port prio len seed → at.host < host_count w → to.host < host_count w → at.port < 8 → to.port < 8 → prio < 2 → IsGiven w e
sent w at to prio len seed e is low to_low port to_port few = subst (IsGiven w) (sym is) (low, to_low, port, to_port, few)

pub polled : (w : WorldState) (at : PortAt) (e : Event) → e ≡ Poll at.host at.port → at.host < host_count w → at.port < 8 → IsGiven w e
polled w at e is low port = subst (IsGiven w) (sym is) (low, port)

pub poll_called : (at : PortAt) (e : Event) → e ≡ Poll at.host at.port → IsClientCall e
poll_called at e is = subst IsClientCall (sym is) tt
