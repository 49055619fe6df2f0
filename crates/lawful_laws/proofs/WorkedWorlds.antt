-- The worked examples.
use Rattle.std.proofs.Common.{◌≡◌, ℕ, zero, suc, [], inl, Some, refl, subst, arith, rules}
use Rattle.std.proofs.lemmas.Option.{same_Some}
use Rattle.net_defs.specs.Network.{IsFabric}
use Rattle.net_defs.specs.Examples.{two_hosts, self_cabled}
use Rattle.net_defs.proofs.TwoHosts.{two_hosts_fabric}
use Rattle.world_defs.specs.Links.{Held, packet_in}
use Rattle.world_defs.specs.Examples.{setup_routes}
use Rattle.world_defs.specs.Node.{to_send, packet_for, after_sending}
use Rattle.world_defs.specs.Client.{begun, sent_by}
use Rattle.world_defs.specs.Step.{asked, planned_strikes, sent_out, injected, advanced}
use Rattle.world_defs.specs.Traffic.{IsLawful}
use Rattle.world_defs.specs.Acts.{AreAdoptable}
use Rattle.table_laws.specs.Examples.{adopted_world}
use Rattle.table_laws.proofs.Dependencies.{adopted-adoptable}
use Rattle.table_laws.proofs.TwoHosts.{adopted-reached}
use Rattle.lawful_laws.specs.Examples.{frame_acts, frame_world, FrameWorldIsReached, FrameIsAhead, FrameIsLawful, stuck_acts, StuckWorldIsReached, ProbesAreStuck, strange_acts, StrangeWorldIsReached, StrangeIsUnread, TwoClearsBegin}

setup-adoptable : AreAdoptable two_hosts setup_routes
setup-adoptable = (adopted-adoptable two_hosts adopted_world (record { mapper = 0; epoch = 1; at = 0; routes = setup_routes }) adopted-reached refl).1

pub frame-reached : FrameWorldIsReached
frame-reached = record { fabric = two_hosts_fabric; acts = frame_acts; may = ((setup-adoptable, refl), (tt, (tt, (tt, tt)))); leads = refl }

pub frame-ahead : FrameIsAhead
unfolding to_send packet_for after_sending begun sent_by planned_strikes sent_out injected
frame-ahead = refl

frame-at : (c : ℕ) (held : Held) → packet_in frame_world.links c ≡ Some held → IsLawful frame_world c held
unfolding to_send packet_for after_sending begun sent_by planned_strikes sent_out injected
frame-at zero held e = subst (IsLawful frame_world 0) (same_Some _ held e) (record { unmarked = refl; accepted = refl; place = 0; route = _; behind = []; beyond = []; there = refl; within = refl; stopped = inl refl })
frame-at (suc zero) held e = cc
frame-at (suc (suc zero)) held e = cc
frame-at (suc (suc (suc zero))) held e = cc
frame-at (suc (suc (suc (suc c)))) held e = cc

pub frame-lawful : FrameIsLawful
frame-lawful = record { packets = frame-at }

self_cabled_fabric : IsFabric self_cabled
self_cabled_fabric = record { few_hosts = omega arith; few_switches = omega arith; names_apart = search rules; port_counts = search rules; cabled_ports = search rules; ports_once = search rules }

pub stuck-reached : StuckWorldIsReached
stuck-reached = record { fabric = self_cabled_fabric; acts = stuck_acts; may = (tt, (tt, (tt, (tt, (tt, (tt, (tt, (tt, tt)))))))); leads = refl }

pub probes-stuck : ProbesAreStuck
unfolding to_send packet_for after_sending asked planned_strikes sent_out injected advanced
probes-stuck = refl

pub strange-reached : StrangeWorldIsReached
strange-reached = record { fabric = two_hosts_fabric; acts = strange_acts; may = (tt, (tt, tt)); leads = refl }

pub strange-unread : StrangeIsUnread
unfolding to_send packet_for after_sending asked planned_strikes sent_out injected
strange-unread = refl

pub clears-begin : TwoClearsBegin
clears-begin w = (
  (λ all. (all.0 tt (λ no. no), all.1.1.1.0 tt (λ no. no))),
  (λ p. ((λ is no. p.0), ((λ is no. absurd (no tt)), ((λ is no. absurd is), ((λ is no. p.1), tt))))),
)
