-- A packet alone goes the way of its walk.
use Rattle.std.proofs.Common.{◌≡◌, ◌<◌, ◌+◌, ℕ, zero, suc, Bool, true, false, nat_le, nat_eq, ◌/◌, ◌%◌, ℤ, List, [], ◌∷◌, length, get_or, set, replicate, Option, Some, None, refl, sym, ap, ◌∙◌, arith, if◌then◌else◌}
use Rattle.std.specs.List.{slice_get, AllByRecursion, prefix_len}
use Rattle.std.specs.Prelude.{drop, is_some, not, ◌&&◌}
use Rattle.std.specs.Option.{option_map, option_and_then}
use Rattle.std.proofs.lemmas.List.{length-replicate, get_or-set_same}
use Rattle.std.proofs.lemmas.Bool.Decides.{nat_tests}
use Rattle.net_defs.specs.declared.vertex.Vertex.{Vertex}
use Rattle.net_defs.specs.declared.vertex.Vertex.TheVariants.{Host, Switch}
use Rattle.net_defs.specs.declared.vertex.End.{End}
use Rattle.net_defs.specs.Network.{Network, ports_of, far}
use Rattle.net_defs.specs.Turn.{IsTurn}
use Rattle.net_defs.specs.Route.{leaving_port, turned, entered_after, place, place_at, place_at_vertex, host_port}
use Rattle.packet_defs.specs.declared.kind.Kind.{Kind}
use Rattle.packet_defs.specs.declared.kind.Kind.TheVariants.{Mapping}
use Rattle.world_defs.specs.declared.moved.Why.TheVariants.{NewCable}
use Rattle.net_defs.specs.declared.place.Place.{Place}
use Rattle.packet_defs.specs.Crc.{crc}
use Rattle.packet_defs.specs.RouteByte.{route_byte, turn_of, is_route_byte}
use Rattle.packet_defs.specs.Packet.{head_of, head, front_turn, stripped, packet_of}
use Rattle.packet_defs.specs.Host.{has_route}
use Rattle.packet_defs.proofs.RouteBytes.{turn_of-route_byte}
use Rattle.packet_defs.proofs.Packets.{head-push, packet_of-stripped, packet_of-front}
use Rattle.world_defs.specs.declared.moved.Course.{Course}
use Rattle.world_defs.specs.declared.moved.Course.TheVariants.{Arrives, Enters, Drops}
use Rattle.world_defs.specs.declared.moved.Moved.TheVariants.{To, AtHost, Dropped}
use Rattle.world_defs.specs.declared.wire.Wire.{Wire}
use Rattle.world_defs.specs.History.{CableHistory, fabric_now, is_in_place}
use Rattle.world_defs.specs.Crossed.{leaving, life_channels, life_head, is_new}
use Rattle.world_defs.proofs.Fewer.{none-far}
use Rattle.world_defs.proofs.ForLife.{leaving_has_its_end}
use Rattle.world_defs.specs.Kinds.{unrouted, kind_in, is_of_mapping, is_mapping}
use Rattle.world_defs.specs.Switch.{out_by}
use Rattle.world_defs.specs.Links.{Held, LinkState, bare_links, packet_in, with_packet, emptied}
use Rattle.world_defs.specs.Advance.{course, course_by_channel, course_out, course_at, course_into, entered, gone_on, advance_of, advance}
use Rattle.world_defs.specs.Lone.{lone, lone_after, ended_place, lone_place, LonePacketWalks, LonePacketWalksWhereNoneIsNew, NoChannelIsStuck}

-- a write to empty slots, and one after it
set-twice : {X : Type 0} (xs : List X) (c : ℕ) (a b : X) → set (set xs c a) c b ≡ set xs c b
set-twice [] c a b = refl
set-twice (x ∷ xs) zero a b = refl
set-twice (x ∷ xs) (suc c) a b = ap (λ l. x ∷ l) (set-twice xs c a b)

set-empty : {X : Type 0} (k c : ℕ) (x : X) → set (replicate k x) c x ≡ replicate k x
set-empty zero c x = refl
set-empty (suc k) zero x = refl
set-empty (suc k) (suc c) x = ap (λ l. x ∷ l) (set-empty k c x)

pub get-empty : {X : Type 0} (k c : ℕ) (x : X) → get_or (replicate k x) c x ≡ x
get-empty zero c x = refl
get-empty (suc k) zero x = refl
get-empty (suc k) (suc c) x = get-empty k c x

pub lone-emptied : (h : CableHistory) (c : ℕ) (wire : List ℕ) → emptied (lone h c wire) c ≡ bare_links h
lone-emptied h c wire =
    let p : Option Held = Some (record { wire = wire; marked = false; born = 0 }) in
    let e : set (set (replicate (life_channels h) None) c p) c None ≡ replicate (life_channels h) None = set-twice (replicate (life_channels h) None) c p None ∙ set-empty (life_channels h) c None in
    ap (λ l. record (bare_links h) { channels = l }) e

gone_on-lone : (h : CableHistory) (c : ℕ) (wire : List ℕ) (to : Course) → gone_on (lone h c wire) c (record { wire = wire; marked = false; born = 0 }) to ≡ lone_after h wire to
gone_on-lone h c wire (Arrives a) = ap (λ t. (AtHost a wire, t)) (lone-emptied h c wire)
gone_on-lone h c wire (Enters next) =
    let s : LinkState = lone h c wire in
    let held : Held = record { wire = wire; marked = false; born = 0 } in
    let on : Option Held = Some (record { wire = stripped wire; marked = false; born = 0 }) in
    let free : packet_in (emptied s c) next ≡ None = ap (λ t. packet_in t next) (lone-emptied h c wire) ∙ get-empty (life_channels h) next None in
    ap (entered s c held next) free ∙ ap (λ t. (To next, with_packet t next on)) (lone-emptied h c wire)
gone_on-lone h c wire (Drops why) = ap (λ t. (Dropped why, t)) (lone-emptied h c wire)

-- an advance of a packet alone
pub lone-advance : (h : CableHistory) (c : ℕ) (wire : List ℕ) → c < life_channels h → advance (lone h c wire) c ≡ lone_after h wire (course h c wire)
lone-advance h c wire low =
    let p : Option Held = Some (record { wire = wire; marked = false; born = 0 }) in
    let room : c < length (replicate {A = Option Held} (life_channels h) None) = omega (arith, low, length-replicate {A = Option Held} (life_channels h) None) in
    let there : packet_in (lone h c wire) c ≡ p = get_or-set_same (replicate (life_channels h) None) c p None room in
    ap (advance_of (lone h c wire) c) there ∙ gone_on-lone h c wire (course h c wire)

-- a channel has a head
has_head : (o : Option Wire) (c : ℕ) (e : End) → option_map (λ w. if nat_eq (c % 2) 0 then w.cable.a else w.cable.b) o ≡ Some e → (d : End) × (option_map (λ w. if nat_eq (c % 2) 0 then w.cable.b else w.cable.a) o ≡ Some d)
has_head None c e is = cc
has_head (Some w) c e is = ((if nat_eq (c % 2) 0 then w.cable.b else w.cable.a), refl)

-- a walk that is stuck stays so
stuck-stays : (n : Network) (route : List ℤ) → entered_after n None route ≡ None
stuck-stays n [] = refl
stuck-stays n (turn ∷ route) = stuck-stays n route

-- a packet with a turn left has a route, and one without turns has none
has_route-turn : (turn : ℤ) (route : List ℤ) (kind : Kind) (payload : List ℕ) → has_route (head (packet_of (turn ∷ route) kind payload)) ≡ true
has_route-turn turn route kind payload =
    let h = head_of (turn ∷ route) kind payload in
    let high : nat_le 128 (route_byte turn) ≡ true = grind (arith, nat_tests) in
    ap has_route (head-push h (crc h)) ∙ high

has_route-none : (kind : Kind) (payload : List ℕ) → has_route (head (packet_of [] kind payload)) ≡ false
has_route-none kind payload = let h = head_of [] kind payload in ap has_route (head-push h (crc h))

front_turn-none : (kind : Kind) (payload : List ℕ) → front_turn (packet_of [] kind payload) ≡ None
front_turn-none kind payload = let h = head_of [] kind payload in ap (λ l. option_and_then turn_of (slice_get l 0)) (head-push h (crc h))

-- a head without the route bytes in front
abbrev past_route : List ℕ → List ℕ
past_route front = drop (prefix_len is_route_byte front) front

one_byte : (k : ℕ) → 1 + k ≡ suc k
one_byte k = omega arith

past-push : (byte : ℕ) (rest : List ℕ) → is_route_byte byte ≡ true → past_route (byte ∷ rest) ≡ past_route rest
past-push byte rest valid = rw valid (ap (λ k. drop k (byte ∷ rest)) (one_byte (prefix_len is_route_byte rest)))

past-turns : (route : List ℤ) (payload : List ℕ) → AllByRecursion IsTurn route → past_route (head_of route Mapping payload) ≡ 0 ∷ 5 ∷ payload
past-turns [] payload all = refl
past-turns (turn ∷ route) payload all = past-push (route_byte turn) (head_of route Mapping payload) (ap is_some (turn_of-route_byte turn all.0)) ∙ past-turns route payload all.1

mapping-is : (route : List ℤ) (payload : List ℕ) → AllByRecursion IsTurn route → is_mapping (packet_of route Mapping payload) ≡ true
mapping-is route payload all =
    let front = head_of route Mapping payload in
    let past : unrouted (packet_of route Mapping payload) ≡ 0 ∷ 5 ∷ payload = ap past_route (head-push front (crc front)) ∙ past-turns route payload all in
    ap (λ l. is_of_mapping (kind_in l)) past

-- no new cable stops a packet of these turns, nor one of fewer
abbrev Passes : CableHistory → Kind → List ℕ → Type 0
Passes h kind payload = (route : List ℤ) (d : ℕ) → AllByRecursion IsTurn route → (is_new h d && not (is_mapping (packet_of route kind payload))) ≡ false

mapping-passes : (h : CableHistory) (payload : List ℕ) → Passes h Mapping payload
mapping-passes h payload route d all = ap (λ t. is_new h d && not t) (mapping-is route payload all) ∙ by (is_new h d)
  where
    by : (b : Bool) → (b && not true) ≡ false
    by true = refl
    by false = refl

old-passes : (h : CableHistory) (kind : Kind) (payload : List ℕ) → ((d : ℕ) → is_new h d ≡ false) → Passes h kind payload
old-passes h kind payload old route d all = ap (λ b. b && not (is_mapping (packet_of route kind payload))) (old d)

-- what holds of packets from a channel on whose head is an end
abbrev Follows : CableHistory → List ℤ → Kind → List ℕ → Type 0
Follows h route kind payload = (c : ℕ) (e : End) → life_head h c ≡ Some e → lone_place (length route + 1) h c (packet_of route kind payload) ≡ place_at (entered_after (fabric_now h) (Some e) route)

-- one more advance
one_more : (m : ℕ) → suc m + 1 ≡ suc (m + 1)
one_more m = omega arith

-- the last channel
follows-none : (h : CableHistory) (kind : Kind) (payload : List ℕ) (c : ℕ) (v : Vertex) (p : ℕ) → life_head h c ≡ Some (record { v = v; p = p })
    → ended_place h c (packet_of [] kind payload) (λ next. lone_place 0 h next (stripped (packet_of [] kind payload))) (course_at h v p (packet_of [] kind payload)) ≡ place_at_vertex v p
follows-none h kind payload c (Host a) p e = rw (has_route-none kind payload) refl
follows-none h kind payload c (Switch s) p e = rw (front_turn-none kind payload) (ap place_at e)

-- a channel before others
follows-turn : (h : CableHistory) (turn : ℤ) (route : List ℤ) (kind : Kind) (payload : List ℕ) → Passes h kind payload → AllByRecursion IsTurn (turn ∷ route) → Follows h route kind payload
    → (c : ℕ) (v : Vertex) (p : ℕ) → ended_place h c (packet_of (turn ∷ route) kind payload) (λ next. lone_place (length route + 1) h next (stripped (packet_of (turn ∷ route) kind payload))) (course_at h v p (packet_of (turn ∷ route) kind payload))
    ≡ place_at (entered_after (fabric_now h) (turned (fabric_now h) (Some (record { v = v; p = p })) turn) route)
follows-turn h turn route kind payload passes all rest c (Host a) p = rw (has_route-turn turn route kind payload) (sym (ap place_at (stuck-stays (fabric_now h) route)))
follows-turn h turn route kind payload passes all rest c (Switch s) p = rw (packet_of-front turn route kind payload all.0) (by_port (leaving_port (ports_of (fabric_now h) (Switch s)) p turn))
  where
    w : List ℕ
    w = packet_of (turn ∷ route) kind payload

    further : ℕ → Place
    further next = lone_place (length route + 1) h next (stripped w)

    by_far : (q d : ℕ) → leaving h (record { v = Switch s; p = q }) ≡ Some d → further d ≡ place_at (entered_after (fabric_now h) (far (fabric_now h) (record { v = Switch s; p = q })) route)
    by_far q d is =
        let ends = leaving_has_its_end h (record { v = Switch s; p = q }) d is in
        let there = has_head (slice_get h.wires (d / 2)) d (record { v = Switch s; p = q }) ends.tail in
        let to : far (fabric_now h) (record { v = Switch s; p = q }) ≡ Some there.0 = sym ends.head ∙ there.1 in
        ap (lone_place (length route + 1) h d) (packet_of-stripped turn route kind payload) ∙ rest d there.0 there.1 ∙ ap (λ o. place_at (entered_after (fabric_now h) o route)) (sym to)

    by_channel : (q : ℕ) (o : Option ℕ) → leaving h (record { v = Switch s; p = q }) ≡ o → ended_place h c w further (course_by_channel h w o) ≡ place_at (entered_after (fabric_now h) (far (fabric_now h) (record { v = Switch s; p = q })) route)
    by_channel q None is = sym (ap (λ o. place_at (entered_after (fabric_now h) o route)) (none-far is_in_place 0 h.wires (record { v = Switch s; p = q }) is) ∙ ap place_at (stuck-stays (fabric_now h) route))
    by_channel q (Some d) is =
        let on : course_by_channel h w (Some d) ≡ Enters d = ap (λ t. if t then Drops NewCable else Enters d) (passes (turn ∷ route) d all) in
        ap (ended_place h c w further) on ∙ by_far q d is

    by_port : (o : Option ℕ) → ended_place h c w further (course_out h s w (out_by o)) ≡ place_at (entered_after (fabric_now h) (option_and_then (far (fabric_now h)) (option_map (λ q. record { v = Switch s; p = q }) o)) route)
    by_port None = sym (ap place_at (stuck-stays (fabric_now h) route))
    by_port (Some q) = by_channel q (leaving h (record { v = Switch s; p = q })) refl

follows : (h : CableHistory) (route : List ℤ) (kind : Kind) (payload : List ℕ) → Passes h kind payload → AllByRecursion IsTurn route → Follows h route kind payload
follows h [] kind payload passes all c e is = rw is (follows-none h kind payload c e.v e.p is)
follows h (turn ∷ route) kind payload passes all c e is =
    let w = packet_of (turn ∷ route) kind payload in
    ap (λ k. lone_place k h c w) (one_more (length route))
    ∙ ap (λ o. ended_place h c w (λ next. lone_place (length route + 1) h next (stripped w)) (course_into h o w)) is
    ∙ follows-turn h turn route kind payload passes all (follows h route kind payload passes all.1) c e.v e.p

lone-end : (h : CableHistory) (host : ℕ) (route : List ℤ) (kind : Kind) (payload : List ℕ) (c : ℕ) → Passes h kind payload → AllByRecursion IsTurn route → leaving h (host_port host) ≡ Some c
    → lone_place (length route + 1) h c (packet_of route kind payload) ≡ place (fabric_now h) host route
lone-end h host route kind payload c passes all is =
    let ends = leaving_has_its_end h (host_port host) c is in
    let there = has_head (slice_get h.wires (c / 2)) c (host_port host) ends.tail in
    let to : far (fabric_now h) (host_port host) ≡ Some there.0 = sym ends.head ∙ there.1 in
    follows h route kind payload passes all c there.0 there.1 ∙ ap (λ o. place_at (entered_after (fabric_now h) o route)) (sym to)

pub lone-place : LonePacketWalks
lone-place h host route payload c all is = lone-end h host route Mapping payload c (mapping-passes h payload) all is

pub lone-place_of_old : LonePacketWalksWhereNoneIsNew
lone-place_of_old h host route kind payload c old all is = lone-end h host route kind payload c (old-passes h kind payload old) all is

pub no_channel-place : NoChannelIsStuck
no_channel-place h host route is = ap (λ o. place_at (entered_after (fabric_now h) o route)) (none-far is_in_place 0 h.wires (host_port host) is) ∙ ap place_at (stuck-stays (fabric_now h) route)
