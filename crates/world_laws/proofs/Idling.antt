-- An event is idle exactly in its cases, and then leaves the world as it was.
use Rattle.std.proofs.Common.{◌≡◌, ◌≤◌, ◌+◌, ◌*◌, ℕ, Bool, true, false, not, ◌&&◌, ◌||◌, ℤ, List, length, nat_lt, nat_le, Option, Some, None, is_some, refl, sym, ◌∙◌, ap, arith, true≢false, if◌then◌else◌}
use Rattle.std.proofs.lemmas.Bool.Decides.{nat_tests}
use Rattle.net_defs.specs.Network.{far}
use Rattle.net_defs.specs.Route.{host_port}
use Rattle.world_defs.specs.Crossed.{leaving, is_new}
use Rattle.net_defs.proofs.Growing.{no_some}
use Rattle.packet_defs.specs.Burst.{flipped as flipped_bytes, may_flip}
use Rattle.world_defs.specs.declared.moved.Course.{Course}
use Rattle.world_defs.specs.declared.moved.Course.TheVariants.{Arrives, Enters, Drops}
use Rattle.world_defs.specs.declared.moved.Moved.{Moved}
use Rattle.world_defs.specs.declared.moved.Moved.TheVariants.{To, AtHost, Dropped as MovedDropped, Blocked as MovedBlocked, Empty}
use Rattle.world_defs.specs.declared.replayed.Replayed.{Replayed}
use Rattle.world_defs.specs.declared.replayed.Replayed.TheVariants.{Back, Busy}
use Rattle.world_defs.specs.Links.{Held, Caught, LinkState, packet_in, with_packet, emptied}
use Rattle.world_defs.specs.Advance.{course, entered, gone_on, advance_of, advance}
use Rattle.world_defs.specs.Fault.{lose, repeat, repeat_of, hold, hold_of, flip, flip_of, is_used_up, with_caught, caught_as, released, replay_of, pull_by, pull, plug}
use Rattle.world_defs.specs.Mapping.{RoutePart}
use Rattle.world_defs.specs.declared.event.Event.{Event}
use Rattle.world_defs.specs.declared.event.Event.TheVariants.{Ask, Part, Inject, Advance, Lose, Repeat, Hold, Flip, Replay, Reset, Expire, GiveUp, Begin, Close, Provide, Send, Poll, Revoke, Pull, Plug}
use Rattle.world_defs.specs.declared.effect.Cause.{Cause}
use Rattle.world_defs.specs.declared.effect.Effect.{Effect}
use Rattle.world_defs.specs.declared.effect.Effect.TheVariants.{Idle, Injected, Expired, GaveUp, Lost, Reset as WasReset, Flipped, Repeated, Held as WasHeld, Said}
use Rattle.world_defs.specs.declared.effect.Said.TheVariants.{Done}
use Rattle.world_defs.specs.declared.arrival.Arrival.{Arrival}
use Rattle.world_defs.specs.declared.arrival.Arrival.TheVariants.{Heard as Hears, Dropped as HostDropped, NotMine as ArrivalNotMine}
use Rattle.world_defs.specs.Table.{Adoption, part_for, route_of}
use Rattle.world_defs.specs.Node.{NodeState, Outgoing, is_message, to_send, given_up, node_expired, unacknowledged_to}
use Rattle.world_defs.specs.Hearing.{hear}
use Rattle.world_defs.specs.Client.{Called, begun, closed, provided_by, sent_by, polled_by}
use Rattle.world_defs.specs.World.{WorldState, fabric_of, host_count, last_count, node_at, with_node, with_links, client_at, keeps_out}
use Rattle.world_defs.specs.Step.{of_links, of_limbo, of_replay, lost, was_reset, repeated, held, flipped, replayed, pulled, plugged, asked, stage_at, stage_part, part_staged, planned_strikes, sent_out, inject_one, inject_into, injected, cause_at_switch, arrived, advanced_by, advanced, expired, gave_up, gives_up_epoch, revoke_of, revoked, of_call, wanted, step}
use Rattle.world_laws.specs.Idle.{has_part, HasNoPart, CannotInject, IsEmpty, CannotCatch, CannotFlip, CannotReplay, CannotPlug, HasNothingStaged, IsIdleCase}
use Rattle.world_laws.proofs.Joining.{pull-none, plug-cannot}

-- what comes of an event is idle exactly in a case, and then the world is as it was
pub record IdleBy (w : WorldState) (C : Type 0) (r : Effect × WorldState) : Type 0 where
  pub to : C → r.0 ≡ Idle
  pub from : r.0 ≡ Idle → C
  pub still : r.0 ≡ Idle → r.1 ≡ w

idle_case : (w : WorldState) (C : Type 0) → C → IdleBy w C (Idle, w)
idle_case w C c = record { to = λ _. refl; from = λ _. c; still = λ _. refl }

busy_case : (w : WorldState) (C : Type 0) (r : Effect × WorldState) → (C → ⊥) → (r.0 ≡ Idle → ⊥) → IdleBy w C r
busy_case w C r never busy = record { to = λ c. absurd (never c); from = λ e. absurd (busy e); still = λ e. absurd (busy e) }

of_links-idle : (w : WorldState) (C : Type 0) (x : Effect) (o : Bool × LinkState) → (x ≡ Idle → ⊥) → (C → o.0 ≡ false) → (o.0 ≡ false → C) → IdleBy w C (of_links w x o)
of_links-idle w C x (true, l) busy f g = busy_case w C (x, with_links w l) (λ c. true≢false (f c)) busy
of_links-idle w C x (false, l) busy f g = idle_case w C (g refl)

some_none : {X : Type 0} (x : X) → Some x ≡ None → ⊥
some_none x e = cc

of_limbo-idle : (w : WorldState) (C : Type 0) (x : ℕ → Effect) (o : Option ℕ × LinkState) → ((n : ℕ) → x n ≡ Idle → ⊥) → (C → o.0 ≡ None) → (o.0 ≡ None → C) → IdleBy w C (of_limbo w x o)
of_limbo-idle w C x (Some n, l) busy f g = busy_case w C (x n, with_links w l) (λ c. some_none n (f c)) (busy n)
of_limbo-idle w C x (None, l) busy f g = idle_case w C (g refl)

-- effects that aren't idle
lost_busy : Lost ≡ Idle → ⊥
lost_busy e = cc

reset_busy : WasReset ≡ Idle → ⊥
reset_busy e = cc

flipped_busy : Flipped ≡ Idle → ⊥
flipped_busy e = cc

repeated_busy : (n : ℕ) → Repeated n ≡ Idle → ⊥
repeated_busy n e = cc

held_busy : (n : ℕ) → WasHeld n ≡ Idle → ⊥
held_busy n e = cc

injected_busy : (n : ℕ) → Injected n ≡ Idle → ⊥
injected_busy n e = cc

expired_busy : Expired ≡ Idle → ⊥
expired_busy e = cc

gave_up_busy : GaveUp ≡ Idle → ⊥
gave_up_busy e = cc

staged_busy : Effect.Staged ≡ Idle → ⊥
staged_busy e = cc

moved_busy : (n : ℕ) → Effect.Moved n ≡ Idle → ⊥
moved_busy n e = cc

blocked_busy : (n : ℕ) → Effect.Blocked n ≡ Idle → ⊥
blocked_busy n e = cc

dropped_busy : (x : Cause) → Effect.Dropped x ≡ Idle → ⊥
dropped_busy x e = cc

replayed_busy : (n : ℕ) → Effect.Replayed n ≡ Idle → ⊥
replayed_busy n e = cc

-- no advance of a channel without packet
abbrev was_empty : Moved (List ℕ) → Bool
was_empty Empty = true
was_empty _ = false

some-one : {X : Type 0} (x y : X) → Some x ≡ Some y → x ≡ y
some-one x y e = cc

and-left : (a b : Bool) → a ≡ false → (a && b) ≡ false
and-left a b e = rw e refl

and-right : (a b : Bool) → b ≡ false → (a && b) ≡ false
and-right true b e = e
and-right false b e = refl

-- a packet is caught where there is one, and a serial for it
catch_case : (w : WorldState) (c : ℕ) (o : Option Held) → packet_in w.links c ≡ o → (b : Bool) → is_used_up w.links ≡ b → CannotCatch w c → (o ≡ None → ⊥) → (b ≡ false → ⊥)
catch_case w c o e b f (CannotCatch.empty is) some off = some (sym e ∙ is)
catch_case w c o e b f (CannotCatch.no_serial is) some off = absurd (grind (arith, nat_tests))

repeat-idle : (w : WorldState) (c : ℕ) (o : Option Held) → packet_in w.links c ≡ o → (CannotCatch w c → (repeat_of w.links c o).0 ≡ None) × ((repeat_of w.links c o).0 ≡ None → CannotCatch w c)
repeat-idle w c None e = ((λ _. refl), (λ _. CannotCatch.empty e))
repeat-idle w c (Some held) e = by (is_used_up w.links) refl
  where
    by : (t : Bool) → is_used_up w.links ≡ t → (CannotCatch w c → (if t then (let r : Option ℕ × LinkState = (None, w.links) in r) else (Some w.links.next_serial, with_caught w.links c held)).0 ≡ None) × ((if t then (let r : Option ℕ × LinkState = (None, w.links) in r) else (Some w.links.next_serial, with_caught w.links c held)).0 ≡ None → CannotCatch w c)
    by true u = ((λ _. refl), (λ _. CannotCatch.no_serial (grind (arith, nat_tests))))
    by false u = ((λ k. absurd (catch_case w c (Some held) e false u k (some_none held) refl)), (λ d. absurd (some_none w.links.next_serial d)))

hold-idle : (w : WorldState) (c : ℕ) (o : Option Held) → packet_in w.links c ≡ o → (CannotCatch w c → (hold_of w.links c o).0 ≡ None) × ((hold_of w.links c o).0 ≡ None → CannotCatch w c)
hold-idle w c None e = ((λ _. refl), (λ _. CannotCatch.empty e))
hold-idle w c (Some held) e = by (is_used_up w.links) refl
  where
    by : (t : Bool) → is_used_up w.links ≡ t → (CannotCatch w c → (if t then (let r : Option ℕ × LinkState = (None, w.links) in r) else (Some w.links.next_serial, with_caught (emptied w.links c) c held)).0 ≡ None) × ((if t then (let r : Option ℕ × LinkState = (None, w.links) in r) else (Some w.links.next_serial, with_caught (emptied w.links c) c held)).0 ≡ None → CannotCatch w c)
    by true u = ((λ _. refl), (λ _. CannotCatch.no_serial (grind (arith, nat_tests))))
    by false u = ((λ k. absurd (catch_case w c (Some held) e false u k (some_none held) refl)), (λ d. absurd (some_none w.links.next_serial d)))

-- a flip
flip_case : (w : WorldState) (c bit pattern : ℕ) (held : Held) → packet_in w.links c ≡ Some held → CannotFlip w c bit pattern → (not held.marked && may_flip held.wire bit pattern) ≡ false
flip_case w c bit pattern held e (CannotFlip.empty is) = absurd (some_none held (sym e ∙ is))
flip_case w c bit pattern held e (CannotFlip.marked other there is) = let same : held ≡ other = some-one held other (sym e ∙ there) in rw (ap (λ h. h.marked) same ∙ is) refl
flip_case w c bit pattern held e (CannotFlip.no_bits is) = and-right (not held.marked) (may_flip held.wire bit pattern) (and-left (nat_lt 0 pattern) (nat_lt (bit + 7) (8 * length held.wire)) (grind (arith, nat_tests)))
flip_case w c bit pattern held e (CannotFlip.past_the_end other there is) =
    let same : held ≡ other = some-one held other (sym e ∙ there) in
    let long : 8 * length held.wire ≤ bit + 7 = rw same is in
    and-right (not held.marked) (may_flip held.wire bit pattern) (and-right (nat_lt 0 pattern) (nat_lt (bit + 7) (8 * length held.wire)) (grind (arith, nat_tests)))

flip_from : (w : WorldState) (c bit pattern : ℕ) (held : Held) → packet_in w.links c ≡ Some held → (a b d : Bool) → held.marked ≡ a → nat_lt 0 pattern ≡ b → nat_lt (bit + 7) (8 * length held.wire) ≡ d → (not a && (b && d)) ≡ false → CannotFlip w c bit pattern
flip_from w c bit pattern held e true b d p q r f = CannotFlip.marked held e p
flip_from w c bit pattern held e false false d p q r f = CannotFlip.no_bits (grind (arith, nat_tests))
flip_from w c bit pattern held e false true false p q r f = CannotFlip.past_the_end held e (grind (arith, nat_tests))
flip_from w c bit pattern held e false true true p q r f = absurd (true≢false f)

flip-idle : (w : WorldState) (c bit pattern : ℕ) (o : Option Held) → packet_in w.links c ≡ o → (CannotFlip w c bit pattern → (flip_of w.links c bit pattern o).0 ≡ false) × ((flip_of w.links c bit pattern o).0 ≡ false → CannotFlip w c bit pattern)
flip-idle w c bit pattern None e = ((λ _. refl), (λ _. CannotFlip.empty e))
flip-idle w c bit pattern (Some held) e = by (not held.marked && may_flip held.wire bit pattern) refl
  where
    by : (t : Bool) → (not held.marked && may_flip held.wire bit pattern) ≡ t → (CannotFlip w c bit pattern → (if t then (let r : Bool × LinkState = (true, with_packet w.links c (Some (record held { wire = flipped_bytes held.wire bit pattern; marked = true }))) in r) else (false, w.links)).0 ≡ false) × ((if t then (let r : Bool × LinkState = (true, with_packet w.links c (Some (record held { wire = flipped_bytes held.wire bit pattern; marked = true }))) in r) else (false, w.links)).0 ≡ false → CannotFlip w c bit pattern)
    by true u = ((λ k. absurd (true≢false (sym u ∙ flip_case w c bit pattern held e k))), (λ d. absurd (true≢false d)))
    by false u = ((λ _. refl), (λ _. flip_from w c bit pattern held e held.marked (nat_lt 0 pattern) (nat_lt (bit + 7) (8 * length held.wire)) refl refl refl u))

-- a replay
replay_case : (w : WorldState) (serial : ℕ) (caught : Caught) → caught_as w.links serial ≡ Some caught → is_some (packet_in w.links caught.channel) ≡ false → CannotReplay w serial → ⊥
replay_case w serial caught e f (CannotReplay.unknown is) = some_none caught (sym e ∙ is)
replay_case w serial caught e f (CannotReplay.channel_full other there full) =
    let same : caught ≡ other = some-one caught other (sym e ∙ there) in
    true≢false (sym full ∙ (ap (λ x. is_some (packet_in w.links x.channel)) (sym same) ∙ f))

replay-idle : (w : WorldState) (serial : ℕ) (o : Option Caught) → caught_as w.links serial ≡ o → IdleBy w (CannotReplay w serial) (of_replay w (replay_of w.links serial o))
replay-idle w serial None e = idle_case w (CannotReplay w serial) (CannotReplay.unknown e)
replay-idle w serial (Some caught) e = by (is_some (packet_in w.links caught.channel)) refl
  where
    by : (t : Bool) → is_some (packet_in w.links caught.channel) ≡ t → IdleBy w (CannotReplay w serial) (of_replay w (if t then (let r : Replayed × LinkState = (Busy caught.channel, w.links) in r) else (Back caught.channel, released w.links serial caught)))
    by true u = idle_case w (CannotReplay w serial) (CannotReplay.channel_full caught e u)
    by false u = busy_case w (CannotReplay w serial) (Effect.Replayed caught.channel, with_links w (released w.links serial caught)) (replay_case w serial caught e u) (replayed_busy caught.channel)

-- an advance
arrived_busy : (w : WorldState) (h : ℕ) (o : Arrival × NodeState) → (arrived w h o).0 ≡ Idle → ⊥
arrived_busy w h (Hears heard, n) e = cc
arrived_busy w h (HostDropped drop, n) e = cc
arrived_busy w h (ArrivalNotMine, n) e = cc

advanced_by-idle : (w : WorldState) (C : Type 0) (o : Moved (List ℕ) × LinkState) → (C → o.0 ≡ Empty) → (o.0 ≡ Empty → C) → IdleBy w C (advanced_by w o)
advanced_by-idle w C (To next, l) f g = busy_case w C (Effect.Moved next, with_links w l) (λ c. true≢false (sym (ap was_empty (f c)))) (moved_busy next)
advanced_by-idle w C (AtHost h wire, l) f g =
    busy_case w C (advanced_by w (AtHost h wire, l)) (λ c. true≢false (sym (ap was_empty (f c)))) (arrived_busy (with_links w l) h (hear h (host_count w) (node_at w h) wire))
advanced_by-idle w C (MovedDropped why, l) f g = busy_case w C (advanced_by w (MovedDropped why, l)) (λ c. true≢false (sym (ap was_empty (f c)))) (dropped_busy (cause_at_switch why))
advanced_by-idle w C (MovedBlocked next, l) f g = busy_case w C (Effect.Blocked next, w) (λ c. true≢false (sym (ap was_empty (f c)))) (blocked_busy next)
advanced_by-idle w C (Empty, l) f g = idle_case w C (g refl)

entered_not_empty : (s : LinkState) (c : ℕ) (held : Held) (next : ℕ) (o : Option Held) → (entered s c held next o).0 ≡ Empty → ⊥
entered_not_empty s c held next None e = cc
entered_not_empty s c held next (Some other) e = cc

gone_on_not_empty : (s : LinkState) (c : ℕ) (held : Held) (to : Course) → (gone_on s c held to).0 ≡ Empty → ⊥
gone_on_not_empty s c held (Arrives h) e = cc
gone_on_not_empty s c held (Enters next) e = entered_not_empty s c held next (packet_in (emptied s c) next) e
gone_on_not_empty s c held (Drops why) e = cc

advance_empty : (s : LinkState) (c : ℕ) (o : Option Held) → (o ≡ None → (advance_of s c o).0 ≡ Empty) × ((advance_of s c o).0 ≡ Empty → o ≡ None)
advance_empty s c None = ((λ _. refl), (λ _. refl))
advance_empty s c (Some held) = ((λ e. absurd (some_none held e)), (λ e. absurd (gone_on_not_empty s c held (course s.cables c held.wire) e)))

-- a part
part_case : (w : WorldState) (dst part : ℕ) (a : Adoption) (p : RoutePart) (by : List ℤ) → w.adopted ≡ Some a → part_for a dst part ≡ Some p → route_of a.routes a.mapper dst ≡ Some by → HasNoPart w dst part → ⊥
part_case w dst part a p by is e f (HasNoPart.no_set none) = some_none a (sym is ∙ none)
part_case w dst part a p by is e f (HasNoPart.no_part b there none) =
    let same : a ≡ b = some-one a b (sym is ∙ there) in
    let has : has_part a dst part ≡ true = rw (e, f) refl in
    true≢false (sym has ∙ (ap (λ x. has_part x dst part) same ∙ none))

part-idle : (w : WorldState) (dst part : ℕ) (a : Adoption) → w.adopted ≡ Some a → (o : Option RoutePart) (by : Option (List ℤ)) → part_for a dst part ≡ o → route_of a.routes a.mapper dst ≡ by → IdleBy w (HasNoPart w dst part) (stage_at w a.mapper o by)
part-idle w dst part a is (Some p) (Some by) e f = busy_case w (HasNoPart w dst part) (stage_at w a.mapper (Some p) (Some by)) (part_case w dst part a p by is e f) staged_busy
part-idle w dst part a is (Some p) None e f = idle_case w (HasNoPart w dst part) (HasNoPart.no_part a is (rw (e, f) refl))
part-idle w dst part a is None by e f = idle_case w (HasNoPart w dst part) (HasNoPart.no_part a is (rw e refl))

adopted-idle : (w : WorldState) (dst part : ℕ) (o : Option Adoption) → w.adopted ≡ o → IdleBy w (HasNoPart w dst part) (stage_part w dst part o)
adopted-idle w dst part None e = idle_case w (HasNoPart w dst part) (HasNoPart.no_set e)
adopted-idle w dst part (Some a) e = part-idle w dst part a e (part_for a dst part) (route_of a.routes a.mapper dst) refl refl

-- an injection
inject_case : (w : WorldState) (h c : ℕ) (out : Outgoing) → leaving w.links.cables (host_port h) ≡ Some c → to_send h (node_at w h) ≡ Some out → is_some (packet_in w.links c) ≡ false → nat_le last_count w.injected ≡ false → keeps_out w c out ≡ false → CannotInject w h → ⊥
inject_case w h c out there e f g o (CannotInject.no_cable is) = some_none c (sym there ∙ is)
inject_case w h c out there e f g o (CannotInject.nothing_to_send is) = some_none out (sym e ∙ is)
inject_case w h c out there e f g o (CannotInject.channel_full d is full) =
    let same : c ≡ d = some-one c d (sym there ∙ is) in
    true≢false (sym full ∙ (ap (λ x. is_some (packet_in w.links x)) (sym same) ∙ f))
inject_case w h c out there e f g o (CannotInject.used_up is) = grind (arith, nat_tests)
inject_case w h c out there e f g o (CannotInject.new_cable d other is new sends message) =
    let channel : d ≡ c = some-one d c (sym is ∙ there) in
    let same : other ≡ out = some-one other out (sym sends ∙ e) in
    let kept : keeps_out w d other ≡ true = rw (new, message) refl in
    true≢false (sym kept ∙ ((λ i. keeps_out w (channel i) (same i)) ∙ o))

inject_one-idle : (w : WorldState) (h c : ℕ) (o : Option Outgoing) → leaving w.links.cables (host_port h) ≡ Some c → to_send h (node_at w h) ≡ o → IdleBy w (CannotInject w h) (inject_one w h c o)
inject_one-idle w h c None there e = idle_case w (CannotInject w h) (CannotInject.nothing_to_send e)
inject_one-idle w h c (Some out) there e = by (is_some (packet_in w.links c)) (nat_le last_count w.injected) (keeps_out w c out) refl refl refl
  where
    message : (n m : Bool) → is_new w.links.cables c ≡ n → is_message out ≡ m → (n && m) ≡ true → CannotInject w h
    message true true p q k = CannotInject.new_cable c out there p e q
    message true false p q k = absurd (true≢false (sym k))
    message false m p q k = absurd (true≢false (sym k))

    by : (a b k : Bool) → is_some (packet_in w.links c) ≡ a → nat_le last_count w.injected ≡ b → keeps_out w c out ≡ k
        → IdleBy w (CannotInject w h) (if a || b || k then (let r : Effect × WorldState = (Idle, w) in r) else (Injected (w.injected + 1), planned_strikes (sent_out w h c out) c))
    by true b k f g o = idle_case w (CannotInject w h) (CannotInject.channel_full c there f)
    by false true k f g o = idle_case w (CannotInject w h) (CannotInject.used_up (grind (arith, nat_tests)))
    by false false true f g o = idle_case w (CannotInject w h) (message (is_new w.links.cables c) (is_message out) refl refl o)
    by false false false f g o = busy_case w (CannotInject w h) (Injected (w.injected + 1), planned_strikes (sent_out w h c out) c) (inject_case w h c out there e f g o) (injected_busy (w.injected + 1))

inject_into-idle : (w : WorldState) (h : ℕ) (o : Option ℕ) → leaving w.links.cables (host_port h) ≡ o → IdleBy w (CannotInject w h) (inject_into w h o)
inject_into-idle w h None e = idle_case w (CannotInject w h) (CannotInject.no_cable e)
inject_into-idle w h (Some c) e = inject_one-idle w h c (to_send h (node_at w h)) e refl

-- an expiry, and giving up
expire-idle : (w : WorldState) (h peer : ℕ) (b : Bool) → nat_lt 0 (unacknowledged_to (node_at w h) peer) ≡ b → IdleBy w (unacknowledged_to (node_at w h) peer ≡ 0) (if b then (let r : Effect × WorldState = (Expired, with_node w h (node_expired (node_at w h) peer)) in r) else (Idle, w))
expire-idle w h peer true e = busy_case w (unacknowledged_to (node_at w h) peer ≡ 0) (Expired, with_node w h (node_expired (node_at w h) peer)) (λ z. grind (arith, nat_tests)) expired_busy
expire-idle w h peer false e = idle_case w (unacknowledged_to (node_at w h) peer ≡ 0) (grind (arith, nat_tests))

some_false : {X : Type 0} (o : Option X) → is_some o ≡ true → o ≡ None → ⊥
some_false o e f = true≢false (sym e ∙ ap is_some f)

staged-idle : (w : WorldState) (h : ℕ) (a b d : Bool) → is_some (node_at w h).staged ≡ a → is_some (node_at w h).reply ≡ b → is_some (node_at w h).part_ack ≡ d → IdleBy w (HasNothingStaged (node_at w h)) (if a || b || d then (let r : Effect × WorldState = (GaveUp, with_node w h (given_up (node_at w h))) in r) else (Idle, w))
staged-idle w h true b d e f g = busy_case w (HasNothingStaged (node_at w h)) (GaveUp, with_node w h (given_up (node_at w h))) (λ n. some_false (node_at w h).staged e n.no_probe_or_part) gave_up_busy
staged-idle w h false true d e f g = busy_case w (HasNothingStaged (node_at w h)) (GaveUp, with_node w h (given_up (node_at w h))) (λ n. some_false (node_at w h).reply f n.no_reply) gave_up_busy
staged-idle w h false false true e f g = busy_case w (HasNothingStaged (node_at w h)) (GaveUp, with_node w h (given_up (node_at w h))) (λ n. some_false (node_at w h).part_ack g n.no_part_ack) gave_up_busy
staged-idle w h false false false e f g =
    idle_case w (HasNothingStaged (node_at w h)) (record { no_probe_or_part = no_some (node_at w h).staged e; no_reply = no_some (node_at w h).reply f; no_part_ack = no_some (node_at w h).part_ack g })

done_busy : Said Done ≡ Idle → ⊥
done_busy e = cc

revoke-idle : (w : WorldState) (h : ℕ) (o : Option Adoption) → w.adopted ≡ o → IdleBy w (w.adopted ≡ None) (revoke_of w h o)
revoke-idle w h None e = idle_case w (w.adopted ≡ None) e
revoke-idle w h (Some a) e = busy_case w (w.adopted ≡ None) (Said Done, with_node w h (gives_up_epoch (node_at w h) a.epoch)) (λ none. some_none a (sym e ∙ none)) done_busy

said_busy : (w : WorldState) (h port : ℕ) (call : Called) → (of_call w h port call).0 ≡ Idle → ⊥
said_busy w h port call e = cc

called-idle : (w : WorldState) (h port : ℕ) (call : Called) → IdleBy w ⊥ (of_call w h port call)
called-idle w h port call = busy_case w ⊥ (of_call w h port call) (λ c. c) (said_busy w h port call)

empty-idle : (w : WorldState) (c : ℕ) (x : Effect) → (x ≡ Idle → ⊥) → IdleBy w (IsEmpty w c) (of_links w x (lose w.links c))
empty-idle w c x busy = of_links-idle w (IsEmpty w c) x (lose w.links c) busy (λ e. ap is_some e) (λ e. no_some (packet_in w.links c) e)

pub step-idle : (w : WorldState) (e : Event) → IdleBy w (IsIdleCase w e) (step w e)
unfolding lost was_reset repeated held flipped replayed pulled plugged asked part_staged injected advanced expired gave_up revoked
step-idle w (Ask h walk looped) = busy_case w ⊥ (step w (Ask h walk looped)) (λ c. c) staged_busy
step-idle w (Part dst part) = adopted-idle w dst part w.adopted refl
step-idle w (Inject h) = inject_into-idle w h (leaving w.links.cables (host_port h)) refl
step-idle w (Advance c) =
    let k = advance_empty w.links c (packet_in w.links c) in advanced_by-idle w (IsEmpty w c) (advance w.links c) k.0 k.1
step-idle w (Lose c) = empty-idle w c Lost lost_busy
step-idle w (Reset c) = empty-idle w c WasReset reset_busy
step-idle w (Repeat c) = let k = repeat-idle w c (packet_in w.links c) refl in of_limbo-idle w (CannotCatch w c) Repeated (repeat w.links c) repeated_busy k.0 k.1
step-idle w (Hold c) = let k = hold-idle w c (packet_in w.links c) refl in of_limbo-idle w (CannotCatch w c) WasHeld (hold w.links c) held_busy k.0 k.1
step-idle w (Flip c bit pattern) =
    let k = flip-idle w c bit pattern (packet_in w.links c) refl in of_links-idle w (CannotFlip w c bit pattern) Flipped (flip w.links c bit pattern) flipped_busy k.0 k.1
step-idle w (Replay serial) = replay-idle w serial (caught_as w.links serial) refl
step-idle w (Expire h peer) = expire-idle w h peer (nat_lt 0 (unacknowledged_to (node_at w h) peer)) refl
step-idle w (GiveUp h) = staged-idle w h (is_some (node_at w h).staged) (is_some (node_at w h).reply) (is_some (node_at w h).part_ack) refl refl refl
step-idle w (Begin h port sends recvs) = called-idle w h port (begun (node_at w h) port sends recvs (client_at w h port))
step-idle w (Close h port) = called-idle w h port (closed (node_at w h) port (client_at w h port))
step-idle w (Provide h port size prio) = called-idle w h port (provided_by (node_at w h) port size prio (client_at w h port))
step-idle w (Send h port dest dport prio len seed) = called-idle w h port (sent_by (node_at w h) (wanted port dest dport prio len seed) (client_at w h port))
step-idle w (Poll h port) = called-idle w h port (polled_by (node_at w h) port (client_at w h port))
step-idle w (Revoke h) = revoke-idle w h w.adopted refl
step-idle w (Pull at) = let k = pull-none w at in of_links-idle w (far (fabric_of w) at ≡ None) (Said Done) (pull w.links at) done_busy k.0 k.1
step-idle w (Plug a b) = let k = plug-cannot w a b in of_links-idle w (CannotPlug w a b) (Said Done) (plug w.links a b) done_busy k.0 k.1
