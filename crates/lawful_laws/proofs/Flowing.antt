-- Lawful traffic stays lawful while packets go on, and runs out.
use Rattle.std.proofs.Common.{◌≡◌, ◌<◌, ℕ, zero, suc, Bool, true, false, List, [], ◌∷◌, ◌++◌, get_or, set, ◌⊎◌, inl, inr, ⊎_elim, Option, Some, None, IfSome, refl, sym, ap, ◌∙◌, subst, true≢false}
use Rattle.std.specs.List.{AllByRecursion}
use Rattle.net_defs.specs.declared.route.Route.{Route}
use Rattle.net_defs.specs.Network.{Network}
use Rattle.world_defs.specs.History.{CableHistory, IsHistory, fabric_at, stood_at, is_in_place}
use Rattle.world_defs.specs.Crossed.{channels_at, is_standing, is_new}
use Rattle.world_defs.proofs.Now.{now_is_fabric}
use Rattle.world_defs.proofs.CablesStanding.{compact}
use Rattle.world_defs.specs.Kinds.{is_gm}
use Rattle.world_defs.proofs.KindsKept.{is_gm-stripped}
use Rattle.packet_defs.specs.Packet.{stripped}
use Rattle.world_defs.specs.declared.moved.Moved.{Moved}
use Rattle.world_defs.specs.declared.moved.Moved.TheVariants.{To, AtHost, Dropped as MovedDropped, Blocked as MovedBlocked, Empty}
use Rattle.world_defs.specs.declared.moved.Course.{Course}
use Rattle.world_defs.specs.declared.moved.Course.TheVariants.{Arrives, Enters, Drops}
use Rattle.world_defs.specs.Links.{Held, LinkState, packet_in, with_packet, emptied}
use Rattle.world_defs.specs.Advance.{course, entered, gone_on, advance_of, advance}
use Rattle.world_defs.specs.Fault.{reset}
use Rattle.world_defs.specs.declared.event.Event.{Event}
use Rattle.world_defs.specs.declared.event.Event.TheVariants.{Advance, Reset}
use Rattle.world_defs.specs.declared.effect.Effect.TheVariants.{Reset as WasReset}
use Rattle.world_defs.specs.declared.arrival.Arrival.{Arrival}
use Rattle.world_defs.specs.declared.arrival.Arrival.TheVariants.{Heard as Hears, Dropped as HostDropped, NotMine as ArrivalNotMine}
use Rattle.world_defs.specs.EightBits.{IsByteEvent}
use Rattle.world_defs.specs.Table.{Adoption, at_in}
use Rattle.world_defs.specs.Node.{NodeState}
use Rattle.world_defs.specs.Hearing.{hear}
use Rattle.world_defs.specs.World.{WorldState, host_count, new_world, node_at, with_links}
use Rattle.world_defs.specs.Step.{of_links, was_reset, arrived, advanced_by, advanced, step}
use Rattle.world_defs.specs.Logs.{drain}
use Rattle.world_defs.specs.Traffic.{routes_in, adopted_routes, IsLawful, IsLawfulTraffic}
use Rattle.world_laws.specs.Reached.{IsOfDrain}
use Rattle.world_laws.proofs.Along.{Along, drain-along}
use Rattle.world_laws.proofs.Draining.{advance-links, drain-still}
use Rattle.world_laws.proofs.Resets.{no_resets-idle}
use Rattle.world_defs.specs.Acts.{Act, Happens, acted, acted_all, MayAct, MayActAll, IsReached}
use Rattle.net_defs.specs.RouteSet.{channels_of_all}
use Rattle.table_laws.proofs.Dependencies.{rise-all, routes-rise, adopted-adoptable}
use Rattle.lawful_laws.specs.Lawful.{AdvanceKeepsLawful}
use Rattle.lawful_laws.specs.Stuck.{LawfulIsNotStuck, LawfulDrainsIdle, LawfulNeedsNoReset}
use Rattle.world_defs.proofs.Kept.{step-cables}
use Rattle.world_defs.proofs.Cables.{reached-cables}
use Rattle.lawful_laws.proofs.Ahead.{goes_on, ahead, ahead-next, next-stands, message-old, unmet-old, IsLedBy, led-next}
use Rattle.lawful_laws.proofs.Stands.{packet-stands}
use Rattle.lawful_laws.proofs.Stuck.{RisesAlong, RisesOver, led-flows}
use Rattle.lawful_laws.proofs.Lawful.{led-lawful}

-- what holds of the packet in each channel holds so after an advance
abbrev IsInEach : (ℕ → Held → Type 0) → LinkState → Type 0
IsInEach F s = (j : ℕ) → IfSome (packet_in s j) (F j)

set-in_each : (F : ℕ → Held → Type 0) (ps : List (Option Held)) (c d : ℕ) (p : Option Held) → IfSome p (F c) → ((j : ℕ) → IfSome (get_or ps j None) (F j)) → IfSome (get_or (set ps c p) d None) (F d)
set-in_each F [] c d p here all = all d
set-in_each F (q ∷ ps) zero zero p here all = here
set-in_each F (q ∷ ps) zero (suc d) p here all = all (suc d)
set-in_each F (q ∷ ps) (suc c) zero p here all = all zero
set-in_each F (q ∷ ps) (suc c) (suc d) p here all = set-in_each (λ j. F (suc j)) ps c d p here (λ j. all (suc j))

with_packet-in_each : (F : ℕ → Held → Type 0) (s : LinkState) (c : ℕ) (p : Option Held) → IsInEach F s → IfSome p (F c) → IsInEach F (with_packet s c p)
with_packet-in_each F s c p is here d = set-in_each F s.channels c d p here is

entered-in_each : (F : ℕ → Held → Type 0) (s : LinkState) (c : ℕ) (held : Held) (next : ℕ) (o : Option Held) → IsInEach F s → F next (record held { wire = stripped held.wire }) → IsInEach F (entered s c held next o).1
entered-in_each F s c held next None is here = with_packet-in_each F (emptied s c) next (Some (record held { wire = stripped held.wire })) (with_packet-in_each F s c None is tt) here
entered-in_each F s c held next (Some other) is here = is

-- what a move keeps
abbrev IsCarried : CableHistory → (ℕ → Held → Type 0) → Type 0
IsCarried h F = (c next : ℕ) (held : Held) → course h c held.wire ≡ Enters next → F c held → F next (record held { wire = stripped held.wire })

gone_on-in_each : (F : ℕ → Held → Type 0) (s : LinkState) (c : ℕ) (held : Held) (to : Course) → IsCarried s.cables F → IsInEach F s → F c held → course s.cables c held.wire ≡ to → IsInEach F (gone_on s c held to).1
gone_on-in_each F s c held (Arrives h) k is here e = with_packet-in_each F s c None is tt
gone_on-in_each F s c held (Enters next) k is here e = entered-in_each F s c held next (packet_in (emptied s c) next) is (k c next held e here)
gone_on-in_each F s c held (Drops why) k is here e = with_packet-in_each F s c None is tt

advance_of-in_each : (F : ℕ → Held → Type 0) (s : LinkState) (c : ℕ) (o : Option Held) → IsCarried s.cables F → IsInEach F s → IfSome o (F c) → IsInEach F (advance_of s c o).1
advance_of-in_each F s c None k is here = is
advance_of-in_each F s c (Some held) k is here = gone_on-in_each F s c held (course s.cables c held.wire) k is here refl

-- a packet that no flip has met, of a cable in place, led by a route of a set, that is a message or meets no new cable
record IsPlain (h : CableHistory) (routes : List Route) (c : ℕ) (held : Held) : Type 0 where
  unmarked : held.marked ≡ false
  stands : is_standing h c ≡ true
  led : IsLedBy h routes c held.wire
  stopped : (is_gm held.wire ≡ true) ⊎ AllByRecursion (λ d. is_new h d ≡ false) (ahead h is_in_place c held.wire)

-- it goes into no new cable
plain-old : (h : CableHistory) (routes : List Route) (c : ℕ) (held : Held) (next : ℕ) → IsHistory h → IsPlain h routes c held → course h c held.wire ≡ Enters next → is_new h next ≡ false
plain-old h routes c held next history is e = ⊎_elim (λ gm. message-old h c held.wire next e gm) (λ all. unmet-old h c held.wire next history is.stands e all) is.stopped

-- and stays so in the next channel
plain-next : (h : CableHistory) (routes : List Route) (c : ℕ) (held : Held) (next : ℕ) → IsHistory h → IsPlain h routes c held → course h c held.wire ≡ Enters next → IsPlain h routes next (record held { wire = stripped held.wire })
plain-next h routes c held next history is e =
    let x = goes_on h c held.wire next e in
    let further : ahead h is_in_place c held.wire ≡ c ∷ ahead h is_in_place next (stripped held.wire) = ahead-next h is_in_place (now_is_fabric h history) c held.wire next is.stands e in
    record {
      unmarked = is.unmarked;
      stands = next-stands h c held.wire next e;
      led = led-next h routes c held.wire next history is.stands e (plain-old h routes c held next history is e) is.led;
      stopped = ⊎_elim (λ gm. inl (is_gm-stripped held.wire x.turn x.front ∙ gm)) (λ all. inr (subst (AllByRecursion (λ d. is_new h d ≡ false)) further all).1) is.stopped;
    }

if-each : {X : Type 0} (o : Option X) (P : X → Type 0) → ((x : X) → o ≡ Some x → P x) → IfSome o P
if-each None P f = tt
if-each (Some x) P f = f x refl

lawful-plain : (n : Network) (w : WorldState) (c : ℕ) (held : Held) → IsReached n w → packet_in w.links c ≡ Some held → IsLawful w c held → IsPlain w.links.cables (adopted_routes w) c held
lawful-plain n w c held r e l = record {
  unmarked = l.unmarked;
  stands = packet-stands n w c held r e;
  led = record {
    accepted = l.accepted;
    place = l.place;
    route = l.route;
    behind = l.behind;
    beyond = l.beyond;
    there = l.there;
    within = ap (λ k. channels_at w.links.cables k l.route.from l.route.walk) (reached-cables n w r).accepted ∙ l.within;
  };
  stopped = l.stopped;
}

-- an advance adopts nothing
arrived-adopted : (w : WorldState) (h : ℕ) (o : Arrival × NodeState) → (arrived w h o).1.adopted ≡ w.adopted
arrived-adopted w h (Hears heard, m) = refl
arrived-adopted w h (HostDropped drop, m) = refl
arrived-adopted w h (ArrivalNotMine, m) = refl

advanced_by-adopted : (w : WorldState) (o : Moved (List ℕ) × LinkState) → (advanced_by w o).1.adopted ≡ w.adopted
advanced_by-adopted w (To next, l) = refl
advanced_by-adopted w (AtHost h wire, l) = arrived-adopted (with_links w l) h (hear h (host_count w) (node_at w h) wire)
advanced_by-adopted w (MovedDropped why, l) = refl
advanced_by-adopted w (MovedBlocked next, l) = refl
advanced_by-adopted w (Empty, l) = refl

advance-adopted : (w : WorldState) (c : ℕ) → (step w (Advance c)).1.adopted ≡ w.adopted
unfolding advanced
advance-adopted w c = advanced_by-adopted w (advance w.links c)

plain-now : (n : Network) (w : WorldState) → IsReached n w → IsLawfulTraffic w → IsInEach (IsPlain w.links.cables (adopted_routes w)) w.links
plain-now n w r t j = if-each (packet_in w.links j) (IsPlain w.links.cables (adopted_routes w) j) (λ held e. lawful-plain n w j held r e (t.packets j held e))

-- what leaves cables and set alone leaves lawful traffic, where each packet is led by the set
plain-then : (w v : WorldState) → w.links.cables.accepted ≡ at_in w.adopted → v.links.cables ≡ w.links.cables → v.adopted ≡ w.adopted → IsInEach (IsPlain w.links.cables (adopted_routes w)) v.links → IsLawfulTraffic v
plain-then w v at cables adopted then =
    let same : IsInEach (IsPlain v.links.cables (adopted_routes v)) v.links =
    subst (λ k. IsInEach (IsPlain k (adopted_routes v)) v.links) (sym cables) (subst (λ o. IsInEach (IsPlain w.links.cables (routes_in o)) v.links) (sym adopted) then) in
    let here : v.links.cables.accepted ≡ at_in v.adopted = ap (λ h. h.accepted) cables ∙ at ∙ sym (ap at_in adopted) in
    record { packets = λ j held e. let p : IsPlain v.links.cables (adopted_routes v) j held = subst (λ o. IfSome o (IsPlain v.links.cables (adopted_routes v) j)) e (same j) in led-lawful v j held here p.unmarked p.led p.stopped }

pub advance-lawful : AdvanceKeepsLawful
advance-lawful n w c r t =
    let v : WorldState = (step w (Advance c)).1 in
    let has = reached-cables n w r in
    let F : ℕ → Held → Type 0 = IsPlain w.links.cables (adopted_routes w) in
    let now : IsInEach F w.links = plain-now n w r t in
    let carried : IsCarried w.links.cables F = λ d next held e is. plain-next w.links.cables (adopted_routes w) d held next has.history is e in
    let then : IsInEach F v.links = subst (IsInEach F) (sym (advance-links w c)) (advance_of-in_each F w.links c (packet_in w.links c) carried now (now c)) in
    plain-then w v has.accepted (step-cables w (Advance c) refl) (advance-adopted w c) then

-- a reset takes a packet away at most
reset_by-lawful : (w : WorldState) (o : Bool × LinkState) → w.links.cables.accepted ≡ at_in w.adopted → o.1.cables ≡ w.links.cables → IsInEach (IsPlain w.links.cables (adopted_routes w)) o.1 → IsLawfulTraffic w → IsLawfulTraffic (of_links w WasReset o).1
reset_by-lawful w (true, l) at same is t = plain-then w (with_links w l) at same refl is
reset_by-lawful w (false, l) at same is t = t

pub reset-lawful : (n : Network) (w : WorldState) (c : ℕ) → IsReached n w → IsLawfulTraffic w → IsLawfulTraffic (step w (Reset c)).1
unfolding was_reset
reset-lawful n w c r t = reset_by-lawful w (reset w.links c) (reached-cables n w r).accepted refl (with_packet-in_each (IsPlain w.links.cables (adopted_routes w)) w.links c None (plain-now n w r t) tt) t

-- numbers that rise along the adopted routes
pub record HasNumbers (h : CableHistory) (routes : List Route) : Type 0 where
  pub number : ℕ → ℕ
  pub rises : RisesOver h number routes

pub numbers-of : (n : Network) (w : WorldState) (o : Option Adoption) → IsReached n w → w.adopted ≡ o → HasNumbers w.links.cables (routes_in o)
numbers-of n w None r e = record { number = λ c. c; rises = tt }
numbers-of n w (Some a) r e =
    let h : CableHistory = w.links.cables in
    let may = (adopted-adoptable n w a r e).1 in
    let at : a.at ≡ h.accepted = ap at_in (sym e) ∙ sym (reached-cables n w r).accepted in
    let there = routes-rise h a.at may.number a.routes (rise-all may.number (channels_of_all (fabric_at h a.at) a.routes) may.rises) in
    let number : ℕ → ℕ = λ c. may.number (compact (stood_at a.at) h.wires c) in
    record { number = number; rises = subst (λ k. AllByRecursion (λ x. RisesAlong number (channels_at h k x.from x.walk)) a.routes) at there }

pub lawful-flows : LawfulIsNotStuck
lawful-flows n w r t =
    let h : CableHistory = w.links.cables in
    let history = (reached-cables n w r).history in
    let x : HasNumbers h (adopted_routes w) = numbers-of n w w.adopted r refl in
    led-flows w.links (adopted_routes w) x.number history x.rises
    (λ c held e. let p = lawful-plain n w c held r e (t.packets c held e) in record { stands = p.stands; led = p.led; old = λ next to. plain-old h (adopted_routes w) c held next history p to })

-- events lead from reached worlds to reached worlds
may-last : (w : WorldState) (acts : List Act) (a : Act) → MayActAll w acts → MayAct (acted_all w acts) a → MayActAll w (acts ++ a ∷ [])
may-last w [] a all last = (last, tt)
may-last w (b ∷ acts) a all last = (all.0, may-last (acted w b) acts a all.1 last)

acted_all-last : (w : WorldState) (acts : List Act) (a : Act) → acted_all w (acts ++ a ∷ []) ≡ acted (acted_all w acts) a
acted_all-last w [] a = refl
acted_all-last w (b ∷ acts) a = acted_all-last (acted w b) acts a

pub event-reached : (n : Network) (w : WorldState) (e : Event) → IsByteEvent e → IsReached n w → IsReached n (step w e).1
event-reached n w e low r = record {
  fabric = r.fabric;
  acts = r.acts ++ Happens e ∷ [];
  may = may-last (new_world n) r.acts (Happens e) r.may low;
  leads = ap (λ v. (step v e).1) r.leads ∙ sym (acted_all-last (new_world n) r.acts (Happens e));
}

-- a drain
abbrev IsFlowing : Network → WorldState → Type 0
IsFlowing n w = IsReached n w × IsLawfulTraffic w

drained-event : (n : Network) (w : WorldState) (e : Event) → IsOfDrain e → IsFlowing n w → IsFlowing n (step w e).1
drained-event n w (Advance c) q p = (event-reached n w (Advance c) tt p.0, advance-lawful n w c p.0 p.1)
drained-event n w e q p = absurd q

drained-along : (n : Network) → Along (λ w v. IsFlowing n w → IsFlowing n v) IsOfDrain
drained-along n = record { same = λ w p. p; both = λ u v w f g p. g (f p); event = drained-event n }

pub lawful-drains : LawfulDrainsIdle
lawful-drains n w r t =
    let v : WorldState = (drain w).world in
    let p : IsFlowing n v = drain-along (λ a b. IsFlowing n a → IsFlowing n b) IsOfDrain (drained-along n) (λ c. tt) w (r, t) in
    ⊎_elim (λ e. e) (λ e. absurd (true≢false (sym e ∙ lawful-flows n v p.0 p.1))) (drain-still w)

pub lawful-clears : LawfulNeedsNoReset
lawful-clears n w r t = (no_resets-idle w).1 (lawful-drains n w r t)
