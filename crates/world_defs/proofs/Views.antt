-- Each event as one of a few changes of a world: it rests, the links make a step, a packet is dropped or arrives, a host changes by itself, a packet is injected, or a client calls.
use Rattle.std.proofs.Common.{◌≡◌, ◌<◌, ◌+◌, ℕ, Bool, true, false, ◌||◌, ℤ, List, nat_lt, nat_le, Option, Some, None, is_some, refl, ap, ◌∙◌, subst, arith, if◌then◌else◌}
use Rattle.std.proofs.lemmas.Bool.Decides.{nat_tests}
use Rattle.net_defs.specs.declared.vertex.End.{End}
use Rattle.net_defs.specs.Route.{host_port}
use Rattle.world_defs.specs.Crossed.{leaving}
use Rattle.net_defs.proofs.Growing.{no_some}
use Rattle.packet_defs.specs.declared.host_drop.HostDrop.{HostDrop}
use Rattle.packet_defs.specs.Packet.{stripped}
use Rattle.world_defs.specs.declared.moved.Why.{Why}
use Rattle.world_defs.specs.declared.moved.Course.{Course}
use Rattle.world_defs.specs.declared.moved.Course.TheVariants.{Arrives, Enters, Drops}
use Rattle.world_defs.specs.declared.replayed.Replayed.{Replayed}
use Rattle.world_defs.specs.declared.replayed.Replayed.TheVariants.{Back, Busy, Unknown}
use Rattle.world_defs.specs.Links.{Held, LinkState, packet_in, with_packet, emptied}
use Rattle.world_defs.specs.Advance.{course, entered, gone_on, advance_of}
use Rattle.world_defs.specs.Fault.{lose, reset, repeat, hold, flip, replay, pull, plug}
use Rattle.world_defs.specs.LinkStep.{Step, Advance as AdvanceLinks, Lose as LoseLinks, Reset as ResetLinks, Repeat as RepeatLinks, Hold as HoldLinks, Flip as FlipLinks, Replay as ReplayLinks, Pull as PullLinks, Plug as PlugLinks, stepped}
use Rattle.world_defs.specs.Mapping.{RoutePart}
use Rattle.world_defs.specs.declared.event.Event.{Event}
use Rattle.world_defs.specs.declared.event.Event.TheVariants.{Ask, Part, Inject, Advance, Lose, Repeat, Hold, Flip, Replay, Reset, Expire, GiveUp, Begin, Close, Provide, Send, Poll, Revoke, Pull, Plug}
use Rattle.world_defs.specs.declared.effect.Effect.{Effect}
use Rattle.world_defs.specs.declared.effect.Effect.TheVariants.{Idle, Injected, Moved as MovedTo, Blocked, Arrived, Dropped, Lost, Reset as WasReset, Flipped, Expired, GaveUp, Repeated, Held as WasHeld, Replayed as ReplayedTo, Staged, Said}
use Rattle.world_defs.specs.declared.effect.Said.TheVariants.{Done}
use Rattle.world_defs.specs.declared.effect.Cause.TheVariants.{NotMine}
use Rattle.world_defs.specs.declared.heard.Heard.{Heard}
use Rattle.world_defs.specs.declared.arrival.Arrival.{Arrival}
use Rattle.world_defs.specs.declared.arrival.Arrival.TheVariants.{Heard as Hears, Dropped as HostDropped, NotMine as ArrivalNotMine}
use Rattle.world_defs.specs.Table.{Adoption, part_for, route_of}
use Rattle.world_defs.specs.Node.{NodeState, StagedProbe, StagedPart, Outgoing, to_send, has_staged, given_up, node_expired, unacknowledged_to}
use Rattle.world_defs.specs.Hearing.{hear}
use Rattle.world_defs.specs.Client.{Called, begun, closed, provided_by, sent_by, polled_by}
use Rattle.world_defs.specs.World.{WorldState, host_count, last_count, counted, node_at, with_node, with_links, client_at, with_drop, keeps_out}
use Rattle.world_defs.specs.Step.{of_links, of_limbo, of_replay, lost, was_reset, repeated, held, flipped, replayed, pulled, plugged, asked, stage_at, stage_part, part_staged, planned_strikes, sent_out, inject_one, inject_into, injected, cause_at_switch, cause_at_host, arrived, advanced_by, advanced, expired, gave_up, gives_up_epoch, revoke_of, revoked, of_call, wanted, step}

-- The step of the links that an event made, with its effect.
pub data LinksChange (w : WorldState) : Event → Effect → Step → Type 0 where
  moves : {c : ℕ} (packet : Held) (next : ℕ) → packet_in w.links c ≡ Some packet → course w.links.cables c packet.wire ≡ Enters next → packet_in (emptied w.links c) next ≡ None
      → stepped w.links (AdvanceLinks c) ≡ with_packet (emptied w.links c) next (Some (record packet { wire = stripped packet.wire })) → LinksChange w (Advance c) (MovedTo next) (AdvanceLinks c)
  loses : {c : ℕ} → (lose w.links c).0 ≡ true → LinksChange w (Lose c) Lost (LoseLinks c)
  resets : {c : ℕ} → (reset w.links c).0 ≡ true → LinksChange w (Reset c) WasReset (ResetLinks c)
  repeats : {c serial : ℕ} → (repeat w.links c).0 ≡ Some serial → LinksChange w (Repeat c) (Repeated serial) (RepeatLinks c)
  holds : {c serial : ℕ} → (hold w.links c).0 ≡ Some serial → LinksChange w (Hold c) (WasHeld serial) (HoldLinks c)
  flips : {c bit pattern : ℕ} → (flip w.links c bit pattern).0 ≡ true → LinksChange w (Flip c bit pattern) Flipped (FlipLinks c bit pattern)
  replays : {serial c : ℕ} → (replay w.links serial).0 ≡ Back c → LinksChange w (Replay serial) (ReplayedTo c) (ReplayLinks serial)
  pulls : {at : End} → (pull w.links at).0 ≡ true → LinksChange w (Pull at) (Said Done) (PullLinks at)
  plugs : {a b : End} → (plug w.links a b).0 ≡ true → LinksChange w (Plug a b) (Said Done) (PlugLinks a b)

-- The host that an event changed by itself, with its effect.
pub data HostChange (w : WorldState) : Event → Effect → ℕ → NodeState → Type 0 where
  asks : {h : ℕ} {walk : List ℤ} {looped : Bool} → HostChange w (Ask h walk looped) Staged h (record (node_at w h) { staged = Some (StagedProbe walk looped) })
  stages : {dst part : ℕ} (a : Adoption) (p : RoutePart) (by : List ℤ) → w.adopted ≡ Some a → part_for a dst part ≡ Some p → route_of a.routes a.mapper dst ≡ Some by
      → HostChange w (Part dst part) Staged a.mapper (record (node_at w a.mapper) { staged = Some (StagedPart p by) })
  expires : {h peer : ℕ} → 0 < unacknowledged_to (node_at w h) peer → HostChange w (Expire h peer) Expired h (node_expired (node_at w h) peer)
  gives_up : {h : ℕ} → has_staged (node_at w h) ≡ true → HostChange w (GiveUp h) GaveUp h (given_up (node_at w h))
  revokes : {h : ℕ} (a : Adoption) → w.adopted ≡ Some a → HostChange w (Revoke h) (Said Done) h (gives_up_epoch (node_at w h) a.epoch)

-- The call of the client of a host's port, and what it leaves.
pub data CallChange (w : WorldState) : Event → ℕ → ℕ → Called → Type 0 where
  begins : {h port sends recvs : ℕ} → CallChange w (Begin h port sends recvs) h port (begun (node_at w h) port sends recvs (client_at w h port))
  closes : {h port : ℕ} → CallChange w (Close h port) h port (closed (node_at w h) port (client_at w h port))
  provides : {h port size prio : ℕ} → CallChange w (Provide h port size prio) h port (provided_by (node_at w h) port size prio (client_at w h port))
  accepts : {h port dest dport prio len seed : ℕ} → CallChange w (Send h port dest dport prio len seed) h port (sent_by (node_at w h) (wanted port dest dport prio len seed) (client_at w h port))
  polls : {h port : ℕ} → CallChange w (Poll h port) h port (polled_by (node_at w h) port (client_at w h port))

-- What comes of a packet at a host: its effect, and the number of drops.
pub data ArrivalChange (w : WorldState) (h : ℕ) : Arrival → Effect → ℕ → Type 0 where
  heard : {x : Heard} → ArrivalChange w h (Hears x) (Arrived h x) w.dropped
  dropped : {x : HostDrop} → ArrivalChange w h (HostDropped x) (Dropped (cause_at_host x)) (counted w.dropped)
  not_mine : ArrivalChange w h ArrivalNotMine (Dropped NotMine) (counted w.dropped)

-- What an event makes of a world.
pub data Change (w : WorldState) : Event → Effect × WorldState → Type 0 where
  idle : {e : Event} → Change w e (Idle, w)
  blocked : {c : ℕ} (packet : Held) (next : ℕ) → packet_in w.links c ≡ Some packet → course w.links.cables c packet.wire ≡ Enters next → Change w (Advance c) (Blocked next, w)
  links : {e : Event} {x : Effect} {s : Step} → LinksChange w e x s → Change w e (x, with_links w (stepped w.links s))
  drops : {c : ℕ} (packet : Held) (why : Why) → packet_in w.links c ≡ Some packet → course w.links.cables c packet.wire ≡ Drops why → stepped w.links (AdvanceLinks c) ≡ emptied w.links c
      → Change w (Advance c) (Dropped (cause_at_switch why), with_drop (with_links w (stepped w.links (AdvanceLinks c))))
  arrives : {c : ℕ} {x : Effect} {count : ℕ} (packet : Held) (h : ℕ) → packet_in w.links c ≡ Some packet → course w.links.cables c packet.wire ≡ Arrives h → stepped w.links (AdvanceLinks c) ≡ emptied w.links c
      → ArrivalChange w h (hear h (host_count w) (node_at w h) packet.wire).0 x count
      → Change w (Advance c) (x, record (with_node (with_links w (stepped w.links (AdvanceLinks c))) h (hear h (host_count w) (node_at w h) packet.wire).1) { dropped = count })
  host : {e : Event} {x : Effect} {h : ℕ} {m : NodeState} → HostChange w e x h m → Change w e (x, with_node w h m)
  injects : {h : ℕ} (c : ℕ) (out : Outgoing) → leaving w.links.cables (host_port h) ≡ Some c → to_send h (node_at w h) ≡ Some out → packet_in w.links c ≡ None → w.injected < last_count → keeps_out w c out ≡ false
      → Change w (Inject h) (Injected (w.injected + 1), planned_strikes (sent_out w h c out) c)
  calls : {e : Event} {h port : ℕ} {call : Called} → CallChange w e h port call → Change w e (of_call w h port call)

-- the links alone
of_links-change : (w : WorldState) (e : Event) (x : Effect) (o : Bool × LinkState) → (o.0 ≡ true → Change w e (x, with_links w o.1)) → Change w e (of_links w x o)
of_links-change w e x (true, l) k = k refl
of_links-change w e x (false, l) k = Change.idle

of_limbo-change : (w : WorldState) (e : Event) (x : ℕ → Effect) (o : Option ℕ × LinkState) → ((serial : ℕ) → o.0 ≡ Some serial → Change w e (x serial, with_links w o.1)) → Change w e (of_limbo w x o)
of_limbo-change w e x (Some serial, l) k = k serial refl
of_limbo-change w e x (None, l) k = Change.idle

of_replay-change : (w : WorldState) (e : Event) (o : Replayed × LinkState) → ((c : ℕ) → o.0 ≡ Back c → Change w e (ReplayedTo c, with_links w o.1)) → Change w e (of_replay w o)
of_replay-change w e (Back c, l) k = k c refl
of_replay-change w e (Busy c, l) k = Change.idle
of_replay-change w e (Unknown, l) k = Change.idle

-- an advance
module _ (w : WorldState) (c : ℕ) where
  course-links : (packet : Held) (to : Course) → packet_in w.links c ≡ Some packet → course w.links.cables c packet.wire ≡ to → stepped w.links (AdvanceLinks c) ≡ (gone_on w.links c packet to).1
  course-links packet to e g = ap (λ o. (advance_of w.links c o).1) e ∙ ap (λ t. (gone_on w.links c packet t).1) g

  arrived-change : (l : LinkState) (h : ℕ) (o : Arrival × NodeState) → ((x : Effect) (count : ℕ) → ArrivalChange w h o.0 x count → Change w (Advance c) (x, record (with_node (with_links w l) h o.1) { dropped = count })) → Change w (Advance c) (arrived (with_links w l) h o)
  arrived-change l h (Hears x, n) k = k (Arrived h x) w.dropped ArrivalChange.heard
  arrived-change l h (HostDropped x, n) k = k (Dropped (cause_at_host x)) (counted w.dropped) ArrivalChange.dropped
  arrived-change l h (ArrivalNotMine, n) k = k (Dropped NotMine) (counted w.dropped) ArrivalChange.not_mine

  entered-change : (packet : Held) (next : ℕ) (o : Option Held) → packet_in w.links c ≡ Some packet → course w.links.cables c packet.wire ≡ Enters next → packet_in (emptied w.links c) next ≡ o → Change w (Advance c) (advanced_by w (entered w.links c packet next o))
  entered-change packet next None e g k =
      let d : stepped w.links (AdvanceLinks c) ≡ (entered w.links c packet next None).1 = course-links packet (Enters next) e g ∙ ap (λ o. (entered w.links c packet next o).1) k in
      subst (λ l. Change w (Advance c) (MovedTo next, with_links w l)) d (Change.links (LinksChange.moves packet next e g k d))
  entered-change packet next (Some other) e g k = Change.blocked packet next e g

  gone-change : (packet : Held) (to : Course) → packet_in w.links c ≡ Some packet → course w.links.cables c packet.wire ≡ to → Change w (Advance c) (advanced_by w (gone_on w.links c packet to))
  gone-change packet (Arrives h) e g =
      let d = course-links packet (Arrives h) e g in
      let o : Arrival × NodeState = hear h (host_count w) (node_at w h) packet.wire in
      subst (λ l. Change w (Advance c) (arrived (with_links w l) h o)) d (arrived-change (stepped w.links (AdvanceLinks c)) h o (λ x count k. Change.arrives packet h e g d k))
  gone-change packet (Enters next) e g = entered-change packet next (packet_in (emptied w.links c) next) e g refl
  gone-change packet (Drops why) e g =
      let d = course-links packet (Drops why) e g in
      subst (λ l. Change w (Advance c) (Dropped (cause_at_switch why), with_drop (with_links w l))) d (Change.drops packet why e g d)

  advanced-change : (o : Option Held) → packet_in w.links c ≡ o → Change w (Advance c) (advanced_by w (advance_of w.links c o))
  advanced-change None e = Change.idle
  advanced-change (Some packet) e = gone-change packet (course w.links.cables c packet.wire) e refl

-- a host by itself
stage_at-change : (w : WorldState) (dst part : ℕ) (a : Adoption) (o : Option RoutePart) (r : Option (List ℤ)) → w.adopted ≡ Some a → part_for a dst part ≡ o → route_of a.routes a.mapper dst ≡ r → Change w (Part dst part) (stage_at w a.mapper o r)
stage_at-change w dst part a (Some p) (Some by) d e f = Change.host (HostChange.stages a p by d e f)
stage_at-change w dst part a (Some p) None d e f = Change.idle
stage_at-change w dst part a None r d e f = Change.idle

stage_part-change : (w : WorldState) (dst part : ℕ) (o : Option Adoption) → w.adopted ≡ o → Change w (Part dst part) (stage_part w dst part o)
stage_part-change w dst part None d = Change.idle
stage_part-change w dst part (Some a) d = stage_at-change w dst part a (part_for a dst part) (route_of a.routes a.mapper dst) d refl refl

expired-change : (w : WorldState) (h peer : ℕ) (b : Bool) → nat_lt 0 (unacknowledged_to (node_at w h) peer) ≡ b → Change w (Expire h peer) (if b then (Expired, with_node w h (node_expired (node_at w h) peer)) else (Idle, w))
expired-change w h peer true e = Change.host (HostChange.expires (grind (arith, nat_tests)))
expired-change w h peer false e = Change.idle

gave_up-change : (w : WorldState) (h : ℕ) (b : Bool) → has_staged (node_at w h) ≡ b → Change w (GiveUp h) (if b then (GaveUp, with_node w h (given_up (node_at w h))) else (Idle, w))
gave_up-change w h true e = Change.host (HostChange.gives_up e)
gave_up-change w h false e = Change.idle

revoke_of-change : (w : WorldState) (h : ℕ) (o : Option Adoption) → w.adopted ≡ o → Change w (Revoke h) (revoke_of w h o)
revoke_of-change w h None d = Change.idle
revoke_of-change w h (Some a) d = Change.host (HostChange.revokes a d)

-- an injection
inject_one-change : (w : WorldState) (h c : ℕ) (o : Option Outgoing) → leaving w.links.cables (host_port h) ≡ Some c → to_send h (node_at w h) ≡ o → Change w (Inject h) (inject_one w h c o)
inject_one-change w h c None d e = Change.idle
inject_one-change w h c (Some out) d e = by (is_some (packet_in w.links c)) (nat_le last_count w.injected) (keeps_out w c out) refl refl refl
  where
    by : (a b k : Bool) → is_some (packet_in w.links c) ≡ a → nat_le last_count w.injected ≡ b → keeps_out w c out ≡ k
        → Change w (Inject h) (if a || b || k then (Idle, w) else (Injected (w.injected + 1), planned_strikes (sent_out w h c out) c))
    by true b k f g o = Change.idle
    by false true k f g o = Change.idle
    by false false true f g o = Change.idle
    by false false false f g o = Change.injects c out d e (no_some (packet_in w.links c) f) (grind (arith, nat_tests)) o

inject_into-change : (w : WorldState) (h : ℕ) (o : Option ℕ) → leaving w.links.cables (host_port h) ≡ o → Change w (Inject h) (inject_into w h o)
inject_into-change w h None d = Change.idle
inject_into-change w h (Some c) d = inject_one-change w h c (to_send h (node_at w h)) d refl

-- every event
pub view : (w : WorldState) (e : Event) → Change w e (step w e)
unfolding lost was_reset repeated held flipped replayed pulled plugged asked part_staged injected advanced expired gave_up revoked
view w (Ask h walk looped) = Change.host HostChange.asks
view w (Part dst part) = stage_part-change w dst part w.adopted refl
view w (Inject h) = inject_into-change w h (leaving w.links.cables (host_port h)) refl
view w (Advance c) = advanced-change w c (packet_in w.links c) refl
view w (Lose c) = of_links-change w (Lose c) Lost (lose w.links c) (λ k. Change.links (LinksChange.loses k))
view w (Repeat c) = of_limbo-change w (Repeat c) Repeated (repeat w.links c) (λ serial k. Change.links (LinksChange.repeats k))
view w (Hold c) = of_limbo-change w (Hold c) WasHeld (hold w.links c) (λ serial k. Change.links (LinksChange.holds k))
view w (Flip c bit pattern) = of_links-change w (Flip c bit pattern) Flipped (flip w.links c bit pattern) (λ k. Change.links (LinksChange.flips k))
view w (Replay serial) = of_replay-change w (Replay serial) (replay w.links serial) (λ c k. Change.links (LinksChange.replays k))
view w (Reset c) = of_links-change w (Reset c) WasReset (reset w.links c) (λ k. Change.links (LinksChange.resets k))
view w (Expire h peer) = expired-change w h peer (nat_lt 0 (unacknowledged_to (node_at w h) peer)) refl
view w (GiveUp h) = gave_up-change w h (has_staged (node_at w h)) refl
view w (Begin h port sends recvs) = Change.calls CallChange.begins
view w (Close h port) = Change.calls CallChange.closes
view w (Provide h port size prio) = Change.calls CallChange.provides
view w (Send h port dest dport prio len seed) = Change.calls CallChange.accepts
view w (Poll h port) = Change.calls CallChange.polls
view w (Revoke h) = revoke_of-change w h w.adopted refl
view w (Pull at) = of_links-change w (Pull at) (Said Done) (pull w.links at) (λ k. Change.links (LinksChange.pulls k))
view w (Plug a b) = of_links-change w (Plug a b) (Said Done) (plug w.links a b) (λ k. Change.links (LinksChange.plugs k))
