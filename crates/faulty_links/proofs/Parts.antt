-- Each event of the links, in every world with this part.
use Rattle.std.proofs.Common.{◌≡◌, ◌+◌, ℕ, Bool, true, false, not, ◌||◌, nat_le, nat_eq, List, Option, Some, None, is_some, true≢false, refl, sym, ap, ◌∙◌, if◌then◌else◌}
use Rattle.std.specs.Map.{lookup}
use Rattle.net_defs.specs.declared.vertex.End.{End}
use Rattle.world_defs.specs.declared.replayed.Replayed.{Replayed}
use Rattle.world_defs.specs.declared.replayed.Replayed.TheVariants.{Back, Busy, Unknown}
use Rattle.world_defs.specs.declared.moved.Moved.{Moved}
use Rattle.world_defs.specs.declared.moved.Moved.TheVariants.{To, AtHost, Dropped as MovedDropped, Blocked as MovedBlocked, Empty}
use Rattle.world_defs.specs.Links.{Held as HeldPacket, LinkState, packet_in, with_packet, put}
use Rattle.world_defs.specs.Advance.{advance}
use Rattle.world_defs.specs.Fault.{lose, reset, repeat, hold, flip, pull, plug, replay}
use Rattle.world_defs.specs.Hops.{changes}
use Rattle.world_defs.specs.LinkLaws.{is_idle_replay}
use Rattle.world_defs.proofs.Slots.{set-same}
use Rattle.link_model.proofs.Counting.{set-set}
use Rattle.net_defs.proofs.Growing.{no_some}
use Rattle.world_defs.proofs.Idling.{lose-idle, repeat-idle, hold-idle, flip-idle, replay-idle, pull-idle, plug-idle}
use Rattle.world_defs.proofs.HopsLeft.{advance-still}
use Rattle.world_defs.specs.declared.effect.Effect.{Effect}
use Rattle.world_defs.specs.declared.effect.Effect.TheVariants.{Idle, Injected, Moved as MovedTo, Blocked, Dropped, Lost, Reset as WasReset, Flipped, Repeated, Held, Replayed as ReplayedTo, Said}
use Rattle.world_defs.specs.declared.effect.Said.TheVariants.{Done}
use Rattle.world_defs.specs.declared.fault.Fault.{Fault}
use Rattle.world_defs.specs.Node.{Outgoing, packet_for, after_sending}
use Rattle.world_defs.specs.Hearing.{hear}
use Rattle.world_defs.specs.World.{WorldState, host_count, last_count, counted, node_at, with_node, without_fault, keeps_out}
use Rattle.world_defs.specs.Step.{of_links, of_limbo, of_replay, lost, was_reset, repeated, held, flipped, replayed, pulled, plugged, advanced, advanced_by, arrived, cause_at_switch, fault_on, is_harm, struck_by, fault_strikes, planned_strikes, sent_out}
use Rattle.world_defs.specs.declared.fault.Fault.TheVariants.{Lose as LoseFault, Repeat as RepeatFault, Hold as HoldFault, Flip as FlipFault, Pull as PullFault}
use Rattle.link_model.specs.Hop.{is_hop, IsHop}
use Rattle.link_model.specs.declared.hop.Hop.{Hop}
use Rattle.link_model.specs.declared.hop.Hop.TheVariants.{Moved as Hopped, Blocked as Waits, Untried}
use Rattle.faulty_links.proofs.Arrivals.{taken_there, reached_is}
use Rattle.faulty_links.specs.Held.{LinksAndPlan, with_part, reached_by, reaching, IsHeardAt, put_under_next, IsHopOf, WorldHasItsPart, PartOfWorldWithPart, InjectionIsPut, InjectionIsKeptOut, InjectionIsIdle}

-- this part with other links
abbrev pub linked : LinksAndPlan → LinkState → LinksAndPlan
linked p l = record p { links = l }

-- the effect of what may not be possible
abbrev pub told : Bool → Effect → Effect
told t x = if t then x else Idle

abbrev pub told_serial : (ℕ → Effect) → Option ℕ → Effect
told_serial x None = Idle
told_serial x (Some serial) = x serial

abbrev pub told_replay : Replayed → Effect
told_replay (Back c) = ReplayedTo c
told_replay (Busy c) = Idle
told_replay Unknown = Idle

of_links-part : (w : WorldState) (p : LinksAndPlan) (x : Effect) (o : Bool × LinkState) → (o.0 ≡ false → o.1 ≡ p.links) → of_links (with_part w p) x o ≡ (told o.0 x, with_part w (linked p o.1))
of_links-part w p x (true, l) idle = refl
of_links-part w p x (false, l) idle = ap (λ k. (Idle, with_part w (linked p k))) (sym (idle refl))

of_limbo-part : (w : WorldState) (p : LinksAndPlan) (x : ℕ → Effect) (o : Option ℕ × LinkState) → (o.0 ≡ None → o.1 ≡ p.links) → of_limbo (with_part w p) x o ≡ (told_serial x o.0, with_part w (linked p o.1))
of_limbo-part w p x (Some serial, l) idle = refl
of_limbo-part w p x (None, l) idle = ap (λ k. (Idle, with_part w (linked p k))) (sym (idle refl))

of_replay-part : (w : WorldState) (p : LinksAndPlan) (o : Replayed × LinkState) → (is_idle_replay o.0 ≡ true → o.1 ≡ p.links) → of_replay (with_part w p) o ≡ (told_replay o.0, with_part w (linked p o.1))
of_replay-part w p (Back c, l) idle = refl
of_replay-part w p (Busy c, l) idle = ap (λ k. (Idle, with_part w (linked p k))) (sym (idle refl))
of_replay-part w p (Unknown, l) idle = ap (λ k. (Idle, with_part w (linked p k))) (sym (idle refl))

-- an event, with what is known of its effect and of the links after it
pub so : (F : WorldState → Effect × WorldState) (old p : LinksAndPlan) (a x : Effect) (k l : LinkState) → p ≡ old → x ≡ a → l ≡ k → ((w : WorldState) → F (with_part w p) ≡ (a, with_part w (linked p k))) → (w : WorldState) → F (with_part w old) ≡ (x, with_part w (linked p l))
so F old p a x k l same effect links part w =
    ap (λ q. F (with_part w q)) (sym same) ∙ part w ∙ ap (λ b. (b, with_part w (linked p k))) (sym effect) ∙ ap (λ m. (x, with_part w (linked p m))) (sym links)

pub lost_part : (w : WorldState) (p : LinksAndPlan) (c : ℕ) → lost (with_part w p) c ≡ (told (lose p.links c).0 Lost, with_part w (linked p (lose p.links c).1))
unfolding lost
lost_part w p c = of_links-part w p Lost (lose p.links c) (lose-idle p.links c)

pub reset_part : (w : WorldState) (p : LinksAndPlan) (c : ℕ) → was_reset (with_part w p) c ≡ (told (reset p.links c).0 WasReset, with_part w (linked p (reset p.links c).1))
unfolding was_reset
reset_part w p c = of_links-part w p WasReset (reset p.links c) (lose-idle p.links c)

pub repeated_part : (w : WorldState) (p : LinksAndPlan) (c : ℕ) → repeated (with_part w p) c ≡ (told_serial Repeated (repeat p.links c).0, with_part w (linked p (repeat p.links c).1))
unfolding repeated
repeated_part w p c = of_limbo-part w p Repeated (repeat p.links c) (repeat-idle p.links c)

pub held_part : (w : WorldState) (p : LinksAndPlan) (c : ℕ) → held (with_part w p) c ≡ (told_serial Held (hold p.links c).0, with_part w (linked p (hold p.links c).1))
unfolding held
held_part w p c = of_limbo-part w p Held (hold p.links c) (hold-idle p.links c)

pub flipped_part : (w : WorldState) (p : LinksAndPlan) (c bit pattern : ℕ) → flipped (with_part w p) c bit pattern ≡ (told (flip p.links c bit pattern).0 Flipped, with_part w (linked p (flip p.links c bit pattern).1))
unfolding flipped
flipped_part w p c bit pattern = of_links-part w p Flipped (flip p.links c bit pattern) (flip-idle p.links c bit pattern)

pub pulled_part : (w : WorldState) (p : LinksAndPlan) (e : End) → pulled (with_part w p) e ≡ (told (pull p.links e).0 (Said Done), with_part w (linked p (pull p.links e).1))
unfolding pulled
pulled_part w p e = of_links-part w p (Said Done) (pull p.links e) (pull-idle p.links e)

pub plugged_part : (w : WorldState) (p : LinksAndPlan) (a b : End) → plugged (with_part w p) a b ≡ (told (plug p.links a b).0 (Said Done), with_part w (linked p (plug p.links a b).1))
unfolding plugged
plugged_part w p a b = of_links-part w p (Said Done) (plug p.links a b) (plug-idle p.links a b)

pub replayed_part : (w : WorldState) (p : LinksAndPlan) (serial : ℕ) → replayed (with_part w p) serial ≡ (told_replay (replay p.links serial).0, with_part w (linked p (replay p.links serial).1))
unfolding replayed
replayed_part w p serial = of_replay-part w p (replay p.links serial) (replay-idle p.links serial)

-- an advance of a packet that reaches a host is that it is lost, and that the host hears it
pub heard_at : (p : LinksAndPlan) (c h : ℕ) (wire : List ℕ) → reaching p.links c ≡ Some (h, wire) → IsHeardAt p c h wire
unfolding advanced lost
heard_at p c h wire e w =
    let to : (advance p.links c).0 ≡ AtHost h wire = reached_is (advance p.links c).0 h wire e in
    ap (λ m. advanced_by (with_part w p) (m, (advance p.links c).1)) to
    ∙ ap (λ (v : WorldState). arrived v h (hear h (host_count w) (node_at w h) wire)) (sym (ap (λ o. (of_links (with_part w p) Lost o).1) (taken_there p.links c h wire to)))

-- the effect of an advance that reaches no host, and the drops
abbrev pub effect_of : Moved (List ℕ) → Effect
effect_of (To next) = MovedTo next
effect_of (AtHost h wire) = Idle
effect_of (MovedDropped why) = Dropped (cause_at_switch why)
effect_of (MovedBlocked next) = Blocked next
effect_of Empty = Idle

abbrev pub drops_by : ℕ → Moved (List ℕ) → ℕ
drops_by n (MovedDropped why) = counted n
drops_by n _ = n

-- a part after an advance of the links
abbrev pub went : LinksAndPlan → Moved (List ℕ) × LinkState → LinksAndPlan
went p o = record p { links = o.1; dropped = drops_by p.dropped o.0 }

advanced_by-part : (w : WorldState) (p : LinksAndPlan) (o : Moved (List ℕ) × LinkState) → reached_by o.0 ≡ None → (changes o.0 ≡ false → o.1 ≡ p.links) → advanced_by (with_part w p) o ≡ (effect_of o.0, with_part w (went p o))
advanced_by-part w p (To next, l) inside still = refl
advanced_by-part w p (AtHost h wire, l) inside still = cc
advanced_by-part w p (MovedDropped why, l) inside still = refl
advanced_by-part w p (MovedBlocked next, l) inside still = ap (λ k. (Blocked next, with_part w (linked p k))) (sym (still refl))
advanced_by-part w p (Empty, l) inside still = ap (λ k. (Idle, with_part w (linked p k))) (sym (still refl))

pub advanced_part : (w : WorldState) (p : LinksAndPlan) (c : ℕ) → reaching p.links c ≡ None → advanced (with_part w p) c ≡ (effect_of (advance p.links c).0, with_part w (went p (advance p.links c)))
unfolding advanced
advanced_part w p c inside = advanced_by-part w p (advance p.links c) inside (advance-still p.links c)

-- an advance that reaches no host, with what is known of its answer and of the part after it
pub goes : (old p q : LinksAndPlan) (c : ℕ) (m : Moved (List ℕ)) (l : LinkState) → p ≡ old → reached_by m ≡ None → m ≡ (advance p.links c).0 → l ≡ (advance p.links c).1 → q ≡ went p (m, l) → (w : WorldState) → advanced (with_part w old) c ≡ (effect_of m, with_part w q)
goes old p q c m l same inside moved links after w =
    ap (λ r. advanced (with_part w r) c) (sym same)
    ∙ advanced_part w p c (ap reached_by (sym moved) ∙ inside)
    ∙ ap (λ n. (effect_of n, with_part w (went p (n, (advance p.links c).1)))) (sym moved)
    ∙ ap (λ k. (effect_of m, with_part w (went p (m, k)))) (sym links)
    ∙ ap (λ r. (effect_of m, with_part w r)) (sym after)

-- a hop, with what is known of the part after it
pub hops : (old p q : LinksAndPlan) (c : ℕ) (h : Hop) (l : LinkState) → p ≡ old → IsHop p.links c h l → q ≡ linked p l → IsHopOf old c h q
hops old p q c (Hopped next) l same is after = goes old p q c (To next) l same refl (sym (ap (λ x. x.0) is)) (sym (ap (λ x. x.1) is)) after
hops old p q c (Waits next) l same is after = goes old p q c (MovedBlocked next) l same refl (sym (ap (λ x. x.0) is)) (sym (ap (λ x. x.1) is)) after
hops old p q c Untried l same is after = (after ∙ ap (linked p) is.0 ∙ same, ap (λ r. is_hop (advance r.links c).0) (sym same) ∙ is.1)

-- a part after a fault that may have struck
abbrev pub struck : LinksAndPlan → Fault → Bool × LinkState → LinksAndPlan
struck p f o = record p { links = o.1; struck = if o.0 then p.struck + 1 else p.struck; harmed = if o.0 then (if is_harm f then p.harmed + 1 else p.harmed) else p.harmed }

pub struck_by_part : (w : WorldState) (p : LinksAndPlan) (f : Fault) (o : Bool × LinkState) → (o.0 ≡ false → o.1 ≡ p.links) → struck_by (with_part w p) f o ≡ with_part w (struck p f o)
struck_by_part w p f (true, l) idle = refl
struck_by_part w p f (false, l) idle = ap (λ k. with_part w (linked p k)) (sym (idle refl))

fault_on-idle : (l : LinkState) (c : ℕ) (f : Fault) → (fault_on l c f).0 ≡ false → (fault_on l c f).1 ≡ l
fault_on-idle l c LoseFault e = lose-idle l c e
fault_on-idle l c RepeatFault e = repeat-idle l c (no_some (repeat l c).0 e)
fault_on-idle l c HoldFault e = hold-idle l c (no_some (hold l c).0 e)
fault_on-idle l c (FlipFault bit pattern) e = flip-idle l c bit pattern e
fault_on-idle l c (PullFault at) e = pull-idle l at e

-- a part in which a packet of these bytes was put into a channel under the next number
abbrev pub put_in : LinksAndPlan → ℕ → List ℕ → LinksAndPlan
put_in p c wire = record p { links = (put p.links c wire).1; injected = p.injected + 1 }

-- where no fault is planned for an injection, none strikes
pub unplanned : (old p q : LinksAndPlan) (c : ℕ) (wire : List ℕ) → p ≡ old → lookup (nat_eq (p.injected + 1)) p.plan ≡ None → q ≡ put_in p c wire → (w : WorldState) → planned_strikes (put_under_next (with_part w old) c wire) c ≡ with_part w q
unfolding planned_strikes
unplanned old p q c wire same none after w =
    ap (λ r. planned_strikes (put_under_next (with_part w r) c wire) c) (sym same)
    ∙ ap (fault_strikes (with_part w (put_in p c wire)) c) none
    ∙ ap (with_part w) (sym after)

-- the fault that is planned for an injection strikes it
pub strikes_it : (old p q : LinksAndPlan) (c : ℕ) (wire : List ℕ) (f : Fault) → p ≡ old → lookup (nat_eq (p.injected + 1)) p.plan ≡ Some f → q ≡ struck (record (put_in p c wire) { plan = without_fault (p.injected + 1) p.plan }) f (fault_on (put p.links c wire).1 c f) → (w : WorldState) → planned_strikes (put_under_next (with_part w old) c wire) c ≡ with_part w q
unfolding planned_strikes
strikes_it old p q c wire f same some after w =
    let r : LinksAndPlan = record (put_in p c wire) { plan = without_fault (p.injected + 1) p.plan } in
    ap (λ r. planned_strikes (put_under_next (with_part w r) c wire) c) (sym same)
    ∙ ap (fault_strikes (with_part w (put_in p c wire)) c) some
    ∙ struck_by_part w r f (fault_on r.links c f) (fault_on-idle r.links c f)
    ∙ ap (with_part w) (sym after)

abbrev put_by : LinkState → ℕ → Option HeldPacket → Bool → Bool × LinkState
put_by s c held t = if t then (false, s) else (true, with_packet s c held)

-- a packet that was put into an empty channel, and lost again
pub put_and_lost : (s : LinkState) (c : ℕ) (wire : List ℕ) → packet_in s c ≡ None → (lose (put s c wire).1 c).1 ≡ s
put_and_lost s c wire none =
    let held : Option HeldPacket = Some (record { wire = wire; marked = false; born = s.epoch }) in
    ap (λ o. (lose (put_by s c held (is_some o)).1 c).1) none
    ∙ ap (λ l. record s { channels = l }) (set-set s.channels c held None ∙ set-same s.channels c None none)

pub world_has_its_part : WorldHasItsPart
world_has_its_part w = refl

pub part_of_world_with_part : PartOfWorldWithPart
part_of_world_with_part w p = refl

-- an injection of a host by whether the channel can take it
abbrev inject_by : WorldState → ℕ → ℕ → Outgoing → Bool → Effect × WorldState
inject_by w h c out t = if t then (Idle, w) else (Injected (w.injected + 1), planned_strikes (sent_out w h c out) c)

pub injection_is_put : InjectionIsPut
unfolding sent_out
injection_is_put w h c out can free = by (is_some (packet_in w.links c)) (nat_le last_count w.injected) (keeps_out w c out) can free
  where
    by : (full last kept : Bool) → not (full || last) ≡ true → kept ≡ false
        → inject_by w h c out (full || last || kept) ≡ (Injected (w.injected + 1), planned_strikes (put_under_next (with_node w h (after_sending (node_at w h) out)) c (packet_for h (w.injected + 1) out)) c)
    by true last kept e f = absurd (true≢false (sym e))
    by false true kept e f = absurd (true≢false (sym e))
    by false false true e f = absurd (true≢false f)
    by false false false e f = refl

pub injection_is_kept_out : InjectionIsKeptOut
injection_is_kept_out w h c out kept = by (is_some (packet_in w.links c)) (nat_le last_count w.injected) (keeps_out w c out) kept
  where
    by : (full last new : Bool) → new ≡ true → inject_by w h c out (full || last || new) ≡ (Idle, w)
    by true last new e = refl
    by false true new e = refl
    by false false true e = refl
    by false false false e = absurd (true≢false (sym e))

pub injection_is_idle : InjectionIsIdle
injection_is_idle w h c out not_left = by (is_some (packet_in w.links c)) (nat_le last_count w.injected) (keeps_out w c out) not_left
  where
    by : (full last kept : Bool) → not (full || last) ≡ false → inject_by w h c out (full || last || kept) ≡ (Idle, w)
    by true last kept e = refl
    by false true kept e = refl
    by false false kept e = absurd (true≢false e)
