-- The fabric as it stands after a pull, a plug and an injection.
use Rattle.std.proofs.Common.{◌≡◌, ◌≢◌, ◌+◌, ◌*◌, ◌/◌, ◌||◌, ◌&&◌, ℕ, suc, Bool, true, false, nat_eq, nat_lt, nat_le, length, List, [], ◌∷◌, ◌++◌, Option, Some, None, is_some, is_none, refl, sym, ap, ◌∙◌, subst, arith, if◌then◌else◌, ⊎_elim}
use Rattle.std.specs.Prelude.{slice_get, slice_set, Result, Ok, Err, OnErr, IfOk}
use Rattle.std.specs.List.{filter}
use Rattle.std.specs.Map.{lookup}
use Rattle.net_defs.specs.declared.vertex.End.{End}
use Rattle.net_defs.specs.declared.vertex.Cable.{Cable}
use Rattle.net_defs.specs.declared.fault.GraphFault.{GraphFault}
use Rattle.net_defs.specs.Network.{Network, same_end, far_end, far}
use Rattle.net_defs.specs.Route.{host_port}
use Rattle.net_defs.specs.Building.{with_cable, cable_refusal}
use Rattle.net_defs.specs.declared.fault.GraphFault.TheVariants.{NoMemory}
use Rattle.net_defs.specs.Refusal.{Refuses}
use Rattle.net_defs.proofs.Ends.{same_end-refl}
use Rattle.port_graph.specs.Removing.{without_end, without_cable}
use Rattle.world_defs.specs.declared.wire.Wire.{Wire}
use Rattle.world_defs.specs.History.{CableHistory, fabric_now, is_in_place, may_plug, with_plugged, pulled_by, with_pulled, cable_limit}
use Rattle.world_defs.specs.Crossed.{channel_by, leaving, pulled_with, pulled_at}
use Rattle.world_defs.proofs.Fewer.{kept, kept_if, none-far}
use Rattle.world_defs.specs.Links.{LinkState, packet_in}
use Rattle.world_defs.specs.Fault.{pull}
use Rattle.world_defs.specs.LinkStep.{Lose as LoseLinks, Repeat as RepeatLinks, Hold as HoldLinks, Flip as FlipLinks, stepped}
use Rattle.world_defs.proofs.Idling.{pick, pull-idle}
use Rattle.world_defs.proofs.LinksLater.{pull-cables}
use Rattle.world_defs.proofs.Shapes.{stepped-cables}
use Rattle.world_defs.specs.Cables.{is_of_cables}
use Rattle.world_defs.specs.declared.event.Event.{Event}
use Rattle.world_defs.specs.declared.event.Event.TheVariants.{Ask, Part, Inject, Advance, Lose, Repeat, Hold, Flip, Replay, Reset, Expire, GiveUp, Begin, Close, Provide, Send, Poll, Revoke, Pull, Plug}
use Rattle.world_defs.specs.declared.effect.Effect.{Effect}
use Rattle.world_defs.specs.declared.effect.Effect.TheVariants.{Idle, Injected, Said}
use Rattle.world_defs.specs.declared.effect.Said.TheVariants.{Done}
use Rattle.world_defs.specs.declared.fault.Fault.{Fault}
use Rattle.world_defs.specs.declared.fault.Fault.TheVariants.{Lose as LoseFault, Repeat as RepeatFault, Hold as HoldFault, Flip as FlipFault, Pull as PullFault}
use Rattle.world_defs.specs.Node.{Outgoing, to_send}
use Rattle.world_defs.specs.World.{WorldState, fabric_of, last_count, node_at, keeps_out}
use Rattle.world_defs.specs.Step.{of_links, pulled, plugged, fault_on, planned_strikes, sent_out, inject_one, inject_into, injected, step}
use Rattle.world_defs.proofs.Kept.{sent-cables, step-cables}
use Rattle.world_defs.proofs.Strikes.{Strike, strike_view, fault_step}
use Rattle.faulty_links.specs.Held.{pull_end}
use Rattle.fab_world.specs.Following.{struck_fabric, kept_fabric}

-- an event that may not change the cables leaves them, whether it happened or ran out of memory
pub still-cables : {E : Type 0} (w v : WorldState) (e : Event) (r : Result Effect E) → is_of_cables e ≡ false → IfOk r (λ x. step w e ≡ (x, v)) → OnErr r (v ≡ w) → v.links.cables ≡ w.links.cables
still-cables w v e (Ok x) still ok err = ap (λ (p : Effect × WorldState). p.1.links.cables) (sym ok) ∙ step-cables w e still
still-cables w v e (Err y) still ok err = ap (λ (u : WorldState). u.links.cables) err

-- ---- cables without the one at an end
-- where none ends there, all stay
without-none : (cs : List Cable) (e : End) → far_end cs e ≡ None → without_end cs e ≡ cs
without-none [] e none = refl
without-none (c ∷ cs) e none = by (same_end c.a e) (same_end c.b e) refl refl none (without-none cs e)
  where
    by : (s t : Bool) → same_end c.a e ≡ s → same_end c.b e ≡ t → (if s then Some c.b else if t then Some c.a else far_end cs e) ≡ None → (far_end cs e ≡ None → without_end cs e ≡ cs) → without_end (c ∷ cs) e ≡ c ∷ cs
    by true t p q n rest = cc
    by false true p q n rest = cc
    by false false p q n rest = rw (p, q) (ap (λ l. c ∷ l) (rest n))

-- a last one that ends there goes, where none before it does
without-last : (cs : List Cable) (c : Cable) (e : End) → far_end cs e ≡ None → same_end c.a e ≡ true → without_end (cs ++ c ∷ []) e ≡ cs
without-last [] c e none ends = rw ends refl
without-last (d ∷ cs) c e none ends = by (same_end d.a e) (same_end d.b e) refl refl none (λ n. without-last cs c e n ends)
  where
    by : (s t : Bool) → same_end d.a e ≡ s → same_end d.b e ≡ t → (if s then Some d.b else if t then Some d.a else far_end cs e) ≡ None → (far_end cs e ≡ None → without_end (cs ++ c ∷ []) e ≡ cs) → without_end (d ∷ cs ++ c ∷ []) e ≡ d ∷ cs
    by true t p q n rest = cc
    by false true p q n rest = cc
    by false false p q n rest = rw (p, q) (ap (λ l. d ∷ l) (rest n))

-- ---- a pull
-- The cable of a channel is the first in place with an end: once it is pulled, the cables in place are without it.
record IsFirst (change k : ℕ) (ws : List Wire) (e : End) (c : ℕ) : Type 0 where
  place : ℕ
  wire : Wire
  number : c / 2 ≡ k + place
  there : slice_get ws place ≡ Some wire
  left : kept is_in_place (slice_set ws place (record wire { pulled = Some change })) ≡ without_end (kept is_in_place ws) e

half-even : (k : ℕ) → (2 * k) / 2 ≡ k + 0
half-even k = omega arith

half-odd : (k : ℕ) → (2 * k + 1) / 2 ≡ k + 0
half-odd k = omega arith

some-number : (a c : ℕ) → Some a ≡ Some c → a ≡ c
some-number a c e = cc

first-in : (change k : ℕ) (ws : List Wire) (e : End) (c : ℕ) → channel_by is_in_place k ws e ≡ Some c → IsFirst change k ws e c
first-in change k [] e c is = cc
first-in change k (w ∷ ws) e c is = by (is_in_place w) (same_end w.cable.a e) (same_end w.cable.b e) refl refl refl is (first-in change (k + 1) ws e c)
  where
    by : (p s t : Bool) → is_in_place w ≡ p → same_end w.cable.a e ≡ s → same_end w.cable.b e ≡ t → (if p && s then Some (2 * k) else if p && t then Some (2 * k + 1) else channel_by is_in_place (k + 1) ws e) ≡ Some c
        → (channel_by is_in_place (k + 1) ws e ≡ Some c → IsFirst change (k + 1) ws e c) → IsFirst change k (w ∷ ws) e c
    by true true t p q r n rest = record { place = 0; wire = w; number = ap (λ d. d / 2) (sym (some-number (2 * k) c n)) ∙ half-even k; there = refl; left = rw (p, q) refl }
    by true false true p q r n rest = record { place = 0; wire = w; number = ap (λ d. d / 2) (sym (some-number (2 * k + 1) c n)) ∙ half-odd k; there = refl; left = rw (p, q, r) refl }
    by true false false p q r n rest =
        let f = rest n in
        let number = f.number in
        record { place = suc f.place; wire = f.wire; number = omega (arith, number); there = f.there; left = rw (p, q, r) (ap (λ l. w.cable ∷ l) f.left) }
    by false s t p q r n rest =
        let f = rest n in
        let number = f.number in
        record { place = suc f.place; wire = f.wire; number = omega (arith, number); there = f.there; left = rw p f.left }

pub now-pulled : (h : CableHistory) (e : End) → fabric_now (pulled_at h e) ≡ without_cable (fabric_now h) e
now-pulled h e = by (leaving h e) refl
  where
    by : (o : Option ℕ) → leaving h e ≡ o → fabric_now (pulled_with h o) ≡ without_cable (fabric_now h) e
    by None is = ap (λ (cs : List Cable). record (fabric_now h) { cables = cs }) (sym (without-none (kept is_in_place h.wires) e (none-far is_in_place 0 h.wires e is)))
    by (Some c) is =
        let f = first-in (h.changes + 1) 0 h.wires e c is in
        let number : c / 2 ≡ f.place = let n = f.number in omega (arith, n) in
        ap (λ k. fabric_now (with_pulled h k)) number ∙ ap (λ o. fabric_now (pulled_by h f.place o)) f.there
        ∙ ap (λ (cs : List Cable). record (fabric_now h) { cables = cs }) f.left

-- ---- a plug
kept-last : (ws : List Wire) (v : Wire) → is_in_place v ≡ true → kept is_in_place (ws ++ v ∷ []) ≡ kept is_in_place ws ++ v.cable ∷ []
kept-last [] v on = rw on refl
kept-last (w ∷ ws) v on = by (is_in_place w) (kept-last ws v on)
  where
    by : (b : Bool) → kept is_in_place (ws ++ v ∷ []) ≡ kept is_in_place ws ++ v.cable ∷ [] → kept_if b w (filter is_in_place (ws ++ v ∷ [])) ≡ kept_if b w (filter is_in_place ws) ++ v.cable ∷ []
    by true rest = ap (λ l. w.cable ∷ l) rest
    by false rest = rest

pub now-plugged : (h : CableHistory) (a b : End) → fabric_now (with_plugged h a b) ≡ with_cable (fabric_now h) a b
now-plugged h a b =
    let v : Wire = record { cable = record { a = a; b = b }; plugged = h.changes + 1; pulled = None } in
    ap (λ (cs : List Cable). record (fabric_now h) { cables = cs }) (kept-last h.wires v refl)

-- a cable that was joined at a free port, and is gone again
unjoined : (n : Network) (a b : End) → far n a ≡ None → without_cable (with_cable n a b) a ≡ n
unjoined n a b free = ap (λ (cs : List Cable). record n { cables = cs }) (without-last n.cables (record { a = a; b = b }) a free (same_end-refl a))

-- what a plug of the links leaves of the fabric that has the cable already
pub plug-follows : {E : Type 0} (w v : WorldState) (a b : End) (r : Result Effect E) (n m : Network) → far (fabric_of w) a ≡ None → n ≡ with_cable (fabric_of w) a b
    → IfOk r (λ x. plugged w a b ≡ (x, v)) → OnErr r (v ≡ w) → m ≡ kept_fabric n a r → m ≡ fabric_of v
unfolding plugged
plug-follows {E} w v a b (Ok x) n m free joined ok err kept =
    kept ∙ ap (λ k. kept_fabric {E = E} k a (Ok x)) joined ∙ by (may_plug w.links.cables a b) ok
  where
    by : (t : Bool) → of_links w (Said Done) (pick t (true, record w.links { cables = with_plugged w.links.cables a b; channels = w.links.channels ++ None ∷ None ∷ [] }) (false, w.links)) ≡ (x, v)
        → kept_fabric {E = E} (with_cable (fabric_of w) a b) a (Ok x) ≡ fabric_of v
    by true is =
        ap (λ (p : Effect × WorldState). kept_fabric {E = E} (with_cable (fabric_of w) a b) a (Ok p.0)) (sym is)
        ∙ sym (now-plugged w.links.cables a b) ∙ ap (λ (p : Effect × WorldState). fabric_of p.1) is
    by false is =
        ap (λ (p : Effect × WorldState). kept_fabric {E = E} (with_cable (fabric_of w) a b) a (Ok p.0)) (sym is)
        ∙ unjoined (fabric_of w) a b free ∙ ap (λ (p : Effect × WorldState). fabric_of p.1) is
plug-follows {E} w v a b (Err e) n m free joined ok err kept =
    kept ∙ ap (λ k. kept_fabric {E = E} k a (Err e)) joined ∙ unjoined (fabric_of w) a b free ∙ sym (ap fabric_of err)

-- a cable that the fabric refuses is refused by the links
pub refused-idle : (w : WorldState) (a b : End) (why : GraphFault) → cable_refusal (fabric_of w) a b ≡ Some why → plugged w a b ≡ (Idle, w)
unfolding plugged
refused-idle w a b why is =
    ap (λ t. of_links w (Said Done) (pick t (true, record w.links { cables = with_plugged w.links.cables a b; channels = w.links.channels ++ None ∷ None ∷ [] }) (false, w.links)))
    (ap (λ (o : Option GraphFault). is_none o && nat_lt (length w.links.cables.wires) cable_limit) is)

pub refused-plug : {E : Type 0} (w : WorldState) (a b : End) (n : Network) (r : Result ℕ GraphFault) (why : GraphFault) (s : Result Effect E) → n ≡ fabric_of w → r ≡ Err why → Refuses (cable_refusal n a b) NoMemory r
    → IfOk s (λ x. (x ≡ Idle) × (why ≢ NoMemory)) → IfOk s (λ x. plugged w a b ≡ (x, w))
refused-plug w a b n r why (Ok x) own is refuses idle =
    ⊎_elim (λ some. refused-idle w a b why (ap (λ k. cable_refusal k a b) (sym own) ∙ some) ∙ ap (λ y. (y, w)) (sym idle.0)) (λ no_room. absurd (idle.1 no_room.1)) (subst (Refuses (cable_refusal n a b) NoMemory) is refuses)
refused-plug w a b n r why (Err e) own is refuses idle = tt

-- ---- a pull of the links
of_links-fabric : (w : WorldState) (x : Effect) (o : Bool × LinkState) → (o.0 ≡ false → o.1 ≡ w.links) → fabric_of (of_links w x o).1 ≡ fabric_now o.1.cables
of_links-fabric w x (true, l) idle = refl
of_links-fabric w x (false, l) idle = ap (λ (k : LinkState). fabric_now k.cables) (sym (idle refl))

pulled-fabric : (s : LinkState) (at : End) → fabric_now (pull s at).1.cables ≡ without_cable (fabric_now s.cables) at
pulled-fabric s at = ap fabric_now (pull-cables s at) ∙ now-pulled s.cables at

pub pull-follows : (w v : WorldState) (at : End) (x : Effect) (n m : Network) → n ≡ fabric_of w → pulled w at ≡ (x, v) → m ≡ without_cable n at → m ≡ fabric_of v
unfolding pulled
pull-follows w v at x n m own is after =
    after ∙ ap (λ k. without_cable k at) own ∙ sym (pulled-fabric w.links at)
    ∙ sym (of_links-fabric w (Said Done) (pull w.links at) (pull-idle w.links at)) ∙ ap (λ (p : Effect × WorldState). fabric_of p.1) is

-- ---- an injection
-- what a fault leaves of the fabric
abbrev after_fault : Network → Option Fault → Network
after_fault n f = struck_fabric n (pull_end f) (Injected 0)

fault-fabric : (s : LinkState) (c : ℕ) (f : Fault) → fabric_now (stepped s (fault_step c f)).cables ≡ after_fault (fabric_now s.cables) (Some f)
fault-fabric s c LoseFault = ap fabric_now (stepped-cables s (LoseLinks c) refl)
fault-fabric s c RepeatFault = ap fabric_now (stepped-cables s (RepeatLinks c) refl)
fault-fabric s c HoldFault = ap fabric_now (stepped-cables s (HoldLinks c) refl)
fault-fabric s c (FlipFault bit pattern) = ap fabric_now (stepped-cables s (FlipLinks c bit pattern) refl)
fault-fabric s c (PullFault at) = pulled-fabric s at

missed-fabric : (s : LinkState) (c : ℕ) (f : Fault) → (fault_on s c f).0 ≡ false → fabric_now s.cables ≡ after_fault (fabric_now s.cables) (Some f)
missed-fabric s c LoseFault miss = refl
missed-fabric s c RepeatFault miss = refl
missed-fabric s c HoldFault miss = refl
missed-fabric s c (FlipFault bit pattern) miss = refl
missed-fabric s c (PullFault at) miss = ap (λ (k : LinkState). fabric_now k.cables) (sym (pull-idle s at miss)) ∙ pulled-fabric s at

strike-fabric : {w v : WorldState} {c : ℕ} → Strike w c v → fabric_of v ≡ after_fault (fabric_of w) (lookup (nat_eq w.injected) w.plan)
strike-fabric {w = w} (Strike.spares e) = ap (after_fault (fabric_of w)) (sym e)
strike-fabric {w = w} {c = c} (Strike.misses f e k) = missed-fabric w.links c f k ∙ ap (after_fault (fabric_of w)) (sym e)
strike-fabric {w = w} {c = c} (Strike.strikes f e k) = fault-fabric w.links c f ∙ ap (after_fault (fabric_of w)) (sym e)

struck-same : (n : Network) (o : Option End) (x y : ℕ) → struck_fabric n o (Injected x) ≡ struck_fabric n o (Injected y)
struck-same n None x y = refl
struck-same n (Some at) x y = refl

struck-idle : (n : Network) (o : Option End) → struck_fabric n o Idle ≡ n
struck-idle n None = refl
struck-idle n (Some at) = refl

-- the end of the cable that is pulled by the next injection
abbrev pulls_next : WorldState → Option End
pulls_next w = pull_end (lookup (nat_eq (w.injected + 1)) w.plan)

sent-fabric : (w : WorldState) (h c : ℕ) (out : Outgoing) → fabric_of (planned_strikes (sent_out w h c out) c) ≡ struck_fabric (fabric_of w) (pulls_next w) (Injected (w.injected + 1))
unfolding sent_out
sent-fabric w h c out =
    strike-fabric (strike_view (sent_out w h c out) c)
    ∙ ap (λ k. struck_fabric (fabric_now k) (pulls_next w) (Injected 0)) (sent-cables w h c out)
    ∙ struck-same (fabric_of w) (pulls_next w) 0 (w.injected + 1)

module _ (w : WorldState) (h : ℕ) where
  -- the fabric after an injection, by its effect
  abbrev Strikes : Effect × WorldState → Type 0
  Strikes r = fabric_of r.1 ≡ struck_fabric (fabric_of w) (pulls_next w) r.0

  one-strikes : (c : ℕ) (o : Option Outgoing) → Strikes (inject_one w h c o)
  one-strikes c None = sym (struck-idle (fabric_of w) (pulls_next w))
  one-strikes c (Some out) = by (is_some (packet_in w.links c) || nat_le last_count w.injected || keeps_out w c out)
    where
      by : (t : Bool) → Strikes (if t then (Idle, w) else (Injected (w.injected + 1), planned_strikes (sent_out w h c out) c))
      by true = sym (struck-idle (fabric_of w) (pulls_next w))
      by false = sent-fabric w h c out

  into-strikes : (o : Option ℕ) → Strikes (inject_into w h o)
  into-strikes None = sym (struck-idle (fabric_of w) (pulls_next w))
  into-strikes (Some c) = one-strikes c (to_send h (node_at w h))

injected-fabric : (w : WorldState) (h : ℕ) → fabric_of (injected w h).1 ≡ struck_fabric (fabric_of w) (pulls_next w) (injected w h).0
unfolding injected
injected-fabric w h = into-strikes w h (leaving w.links.cables (host_port h))

pub inject-follows : (w v : WorldState) (h : ℕ) (x : Effect) (o : Option End) (n m : Network) → n ≡ fabric_of w → o ≡ pulls_next w → injected w h ≡ (x, v) → m ≡ struck_fabric n o x → m ≡ fabric_of v
inject-follows w v h x o n m own next is after =
    after ∙ ap (λ k. struck_fabric k o x) own ∙ ap (λ p. struck_fabric (fabric_of w) p x) next
    ∙ ap (λ (p : Effect × WorldState). struck_fabric (fabric_of w) (pulls_next w) p.0) (sym is)
    ∙ sym (injected-fabric w h) ∙ ap (λ (p : Effect × WorldState). fabric_of p.1) is

-- ---- other events
pub other-still : (e : Event) → ((h : ℕ) → e ≡ Inject h → ⊥) → ((at : End) → e ≡ Pull at → ⊥) → ((a b : End) → e ≡ Plug a b → ⊥) → is_of_cables e ≡ false
other-still (Ask h walk looped) i p q = refl
other-still (Part dst part) i p q = refl
other-still (Inject h) i p q = absurd (i h refl)
other-still (Advance c) i p q = refl
other-still (Lose c) i p q = refl
other-still (Repeat c) i p q = refl
other-still (Hold c) i p q = refl
other-still (Flip c bit pattern) i p q = refl
other-still (Replay serial) i p q = refl
other-still (Reset c) i p q = refl
other-still (Expire h peer) i p q = refl
other-still (GiveUp h) i p q = refl
other-still (Begin h port sends recvs) i p q = refl
other-still (Close h port) i p q = refl
other-still (Provide h port size prio) i p q = refl
other-still (Send h port dest dport prio len seed) i p q = refl
other-still (Poll h port) i p q = refl
other-still (Revoke h) i p q = refl
other-still (Pull at) i p q = absurd (p at refl)
other-still (Plug a b) i p q = absurd (q a b refl)

pub still-follows : {E : Type 0} (w v : WorldState) (e : Event) (r : Result Effect E) (n : Network) → is_of_cables e ≡ false → n ≡ fabric_of w → IfOk r (λ x. step w e ≡ (x, v)) → OnErr r (v ≡ w) → n ≡ fabric_of v
still-follows w v e r n still own ok err = own ∙ ap fabric_now (sym (still-cables w v e r still ok err))
