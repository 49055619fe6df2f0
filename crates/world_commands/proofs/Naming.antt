-- Each event names only channels and hosts that are there.
use Rattle.std.proofs.Common.{◌≡◌, ◌<◌, ◌≤◌, ℕ, Bool, true, false, List, length, Option, Some, None, is_some, refl, sym, ap, subst, arith, if◌then◌else◌}
use Rattle.std.specs.Option.{option_map}
use Rattle.std.proofs.lemmas.Bool.Decides.{nat_tests}
use Rattle.net_defs.specs.declared.vertex.Vertex.TheVariants.{Host}
use Rattle.net_defs.specs.Network.{Network, has_vertex}
use Rattle.world_defs.specs.Later.{IsLater}
use Rattle.world_defs.specs.declared.moved.Course.TheVariants.{Enters}
use Rattle.world_defs.specs.declared.replayed.Replayed.{Replayed}
use Rattle.world_defs.specs.declared.replayed.Replayed.TheVariants.{Back, Busy}
use Rattle.world_defs.specs.Shape.{IsLinks}
use Rattle.world_defs.specs.Links.{Caught, LinkState, packet_in}
use Rattle.world_defs.specs.Advance.{course}
use Rattle.world_defs.specs.Fault.{caught_as, released, replay_of, replay}
use Rattle.world_defs.specs.LinkStep.{Step}
use Rattle.link_model.proofs.Limbos.{channel-below}
use Rattle.link_model.proofs.Stepping.{course-below}
use Rattle.world_defs.specs.declared.event.Event.{Event}
use Rattle.world_defs.specs.declared.effect.Effect.{Effect}
use Rattle.world_defs.specs.declared.effect.Effect.TheVariants.{Moved as MovedTo, Blocked, Arrived, Replayed as ReplayedTo}
use Rattle.world_defs.specs.declared.arrival.Arrival.{Arrival}
use Rattle.world_defs.specs.Node.{NodeState}
use Rattle.world_defs.specs.World.{WorldState, fabric_of}
use Rattle.world_defs.specs.Step.{step}
use Rattle.world_defs.proofs.Views.{LinksChange, HostChange, ArrivalChange, Change, view}
use Rattle.faulty_links.proofs.Arrivals.{course-host}
use Rattle.fab_world.specs.Held.{IsMoment}
use Rattle.world_commands.specs.Named.{IsNaming}
use Rattle.world_commands.proofs.Later.{host-stays}

-- the channel that a packet enters is there
next-there : (w : WorldState) (c next : ℕ) (wire : List ℕ) → IsMoment w → course w.links.cables c wire ≡ Enters next → next < length w.links.channels
next-there w c next wire m e = subst (λ count. next < count) (sym m.world.links.slots) (course-below w.links.cables c wire next e)

-- and so is the one that a packet comes back to from limbo
back-there : (s : LinkState) (serial c : ℕ) → IsLinks s → (replay s serial).0 ≡ Back c → c < length s.channels
back-there s serial c is back = by (caught_as s serial) refl back
  where
    into : (b : Bool) (x : Caught) (l : LinkState) → x.channel < length s.channels → (if b then (let r : Replayed × LinkState = (Busy x.channel, s) in r) else (Back x.channel, l)).0 ≡ Back c → c < length s.channels
    into true x l low e = cc
    into false x l low e = let same : x.channel ≡ c = cc in subst (λ d. d < length s.channels) same low

    by : (o : Option Caught) → caught_as s serial ≡ o → (replay_of s serial o).0 ≡ Back c → c < length s.channels
    by None got e = cc
    by (Some x) got e = into (is_some (packet_in s x.channel)) x (released s serial x) (channel-below s serial x.channel is (sym (ap (option_map (λ (y : Caught). y.channel)) got))) e

links-naming : {w : WorldState} {e : Event} {x : Effect} {s : Step} → LinksChange w e x s → IsMoment w → IsNaming w x
links-naming {w = w} (LinksChange.moves {c = c} packet next d e f g) m = next-there w c next packet.wire m e
links-naming (LinksChange.loses k) m = tt
links-naming (LinksChange.resets k) m = tt
links-naming (LinksChange.repeats k) m = tt
links-naming (LinksChange.holds k) m = tt
links-naming (LinksChange.flips k) m = tt
links-naming {w = w} (LinksChange.replays {serial = serial} {c = c} k) m = back-there w.links serial c m.world.links k
links-naming (LinksChange.pulls k) m = tt
links-naming (LinksChange.plugs k) m = tt

host-naming : {w : WorldState} {e : Event} {x : Effect} {h : ℕ} {n : NodeState} → HostChange w e x h n → IsNaming w x
host-naming HostChange.asks = tt
host-naming _ = tt

-- a host that a packet reaches is one of the fabric's
pub reached-there : (n : Network) (h : ℕ) → h < length n.hosts → has_vertex n (Host h) ≡ true
reached-there n h low = grind (arith, nat_tests)

arrival-naming : {w : WorldState} {h : ℕ} {a : Arrival} {x : Effect} {count : ℕ} → h < length (fabric_of w).hosts → ArrivalChange w h a x count → IsNaming w x
arrival-naming {w = w} {h = h} low ArrivalChange.heard = reached-there (fabric_of w) h low
arrival-naming low ArrivalChange.dropped = tt
arrival-naming low ArrivalChange.not_mine = tt

-- every event
change-naming : {w : WorldState} {e : Event} {r : Effect × WorldState} → Change w e r → IsMoment w → IsNaming w r.0
change-naming Change.idle m = tt
change-naming {w = w} (Change.blocked {c = c} packet next d e) m = next-there w c next packet.wire m e
change-naming (Change.links k) m = links-naming k m
change-naming (Change.drops packet why d e f) m = tt
change-naming {w = w} (Change.arrives {c = c} packet h d e f k) m = arrival-naming (course-host w.links.cables c packet.wire h m.history e) k
change-naming (Change.host k) m = host-naming k
change-naming (Change.injects c out d e f g allowed) m = tt
change-naming (Change.calls k) m = tt

-- over a world after it
naming-over : (w v : WorldState) (x : Effect) → IsLater w.links.cables v.links.cables → length w.links.channels ≤ length v.links.channels → IsNaming w x → IsNaming v x
naming-over w v (MovedTo c) later more is = omega (arith, is, more)
naming-over w v (Blocked c) later more is = omega (arith, is, more)
naming-over w v (Arrived h heard) later more is = host-stays w v h later is
naming-over w v (ReplayedTo c) later more is = omega (arith, is, more)
naming-over w v _ later more is = tt

-- what an event did names what is there after it
pub step-naming : (w v : WorldState) (e : Event) (x : Effect) → IsMoment w → step w e ≡ (x, v) → IsLater w.links.cables v.links.cables → length w.links.channels ≤ length v.links.channels → IsNaming v x
step-naming w v e x m is later more = naming-over w v x later more (subst (IsNaming w) (ap (λ p. p.0) is) (change-naming (view w e) m))
