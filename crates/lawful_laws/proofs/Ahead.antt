-- What lies ahead of a packet: its channel, and the channels to which its route bytes lead. An advance takes the first of them off.
use Rattle.std.proofs.Common.{◌≡◌, ◌<◌, ◌≤◌, ◌^◌, ℕ, ℤ, Bool, true, false, not, ◌&&◌, nat_eq, nat_lt, List, [], ◌∷◌, ◌++◌, map, length, ◌/◌, ◌%◌, Option, Some, None, refl, sym, ap, ◌∙◌, subst, append_assoc, arith, if◌then◌else◌}
use Rattle.std.specs.List.{slice_get, list_all, AllByRecursion}
use Rattle.std.specs.Option.{option_map, option_and_then}
use Rattle.std.specs.Prelude.{option_to_list}
use Rattle.std.specs.Int.Bits.{bit_xor}
use Rattle.std.proofs.lemmas.Bool.Decides.{nat_tests}
use Rattle.net_defs.specs.declared.vertex.Vertex.{Vertex}
use Rattle.net_defs.specs.declared.vertex.Vertex.TheVariants.{Host, Switch}
use Rattle.net_defs.specs.declared.vertex.End.{End}
use Rattle.net_defs.specs.declared.route.Route.{Route}
use Rattle.net_defs.specs.Turn.{is_turn}
use Rattle.net_defs.specs.Network.{IsFabric, ports_of, has_port, far}
use Rattle.net_defs.specs.Route.{host_port, leaving_port, exit_at, next_exit}
use Rattle.net_defs.proofs.Ends.{both}
use Rattle.packet_defs.specs.declared.kind.Kind.{Kind}
use Rattle.packet_defs.specs.Crc.{crc, contribution}
use Rattle.packet_defs.specs.RouteByte.{route_byte, turn_of}
use Rattle.packet_defs.specs.Packet.{type_of, head_of, packet_of, head, front_turn, stripped}
use Rattle.packet_defs.proofs.Packets.{ended, head-push, stripped-push}
use Rattle.packet_defs.proofs.RouteBytes.{turn_of-route_byte}
use Rattle.world_defs.specs.declared.turned.Turned.{Turned}
use Rattle.world_defs.specs.declared.turned.Turned.TheVariants.{Out, OutOfRange as TurnedTooFar, NotRoute as NoTurn}
use Rattle.world_defs.specs.declared.moved.Course.TheVariants.{Enters, Drops}
use Rattle.world_defs.specs.declared.moved.Why.TheVariants.{NewCable}
use Rattle.world_defs.specs.Kinds.{is_mapping, is_gm}
use Rattle.world_defs.proofs.KindsKept.{gm-no_mapping}
use Rattle.world_defs.specs.Switch.{aim, aim_of, out_by}
use Rattle.world_defs.specs.Advance.{course, course_at, course_by_channel, course_into, course_out}
use Rattle.world_defs.specs.declared.wire.Wire.{Wire}
use Rattle.world_defs.specs.History.{CableHistory, IsHistory, fabric_by, fabric_now, is_in_place, is_left, may_plug, with_plugged}
use Rattle.world_defs.specs.Crossed.{leaving, channel_by, channels_by, channels_at, life_channels, life_tail, life_head, is_standing, is_new, pulled_at}
use Rattle.world_defs.specs.Fewer.{HasFewer}
use Rattle.world_defs.specs.Later.{OnlyPulled, IsLater, IsChannelKept}
use Rattle.world_defs.proofs.Fewer.{fewer_front}
use Rattle.world_defs.proofs.ForLife.{passes_at, leaving_over, leaving_has_its_end, passing-leaves}
use Rattle.world_defs.proofs.CablesLater.{kept-pull, channel-pull, channel-plug, pulled-left, later-past-channels}
use Rattle.world_defs.proofs.Left.{left-fabric, left-passes, left-plug}
use Rattle.world_defs.proofs.Now.{now_is_fabric}
use Rattle.table_laws.proofs.Sets.{port-there}
use Rattle.world_defs.specs.Traffic.{front_turn_then, front_turns}

-- a packet that goes on from a channel into the next: it comes to a switch, and takes the turn in front
pub record GoesOn (h : CableHistory) (c : ℕ) (wire : List ℕ) (next : ℕ) : Type 0 where
  pub switch : ℕ
  pub entry : ℕ
  pub turn : ℤ
  pub port : ℕ
  pub comes : life_head h c ≡ Some (record { v = Switch switch; p = entry })
  pub front : front_turn wire ≡ Some turn
  pub leaves : leaving_port (ports_of (fabric_now h) (Switch switch)) entry turn ≡ Some port
  pub out : leaving h (record { v = Switch switch; p = port }) ≡ Some next
  pub passes : (is_new h next && not (is_mapping wire)) ≡ false

by_port : (o : Option ℕ) (port : ℕ) → out_by o ≡ Out port → o ≡ Some port
by_port None port e = cc
by_port (Some p) port e = cc

aimed : (ports entry : ℕ) (o : Option ℤ) (port : ℕ) → aim_of ports entry o ≡ Out port → (turn : ℤ) × ((o ≡ Some turn) × (leaving_port ports entry turn ≡ Some port))
aimed ports entry None port e = cc
aimed ports entry (Some turn) port e = (turn, (refl, by_port (leaving_port ports entry turn) port e))

-- the channel that a packet may enter
record MayEnter (h : CableHistory) (wire : List ℕ) (o : Option ℕ) (next : ℕ) : Type 0 where
  there : o ≡ Some next
  passes : (is_new h next && not (is_mapping wire)) ≡ false

one_course : (m next : ℕ) → Enters m ≡ Enters next → m ≡ next
one_course m next e = cc

by_channel : (h : CableHistory) (wire : List ℕ) (o : Option ℕ) (next : ℕ) → course_by_channel h wire o ≡ Enters next → MayEnter h wire o next
by_channel h wire None next e = cc
by_channel h wire (Some m) next e = by (is_new h m && not (is_mapping wire)) refl e
  where
    by : (b : Bool) → (is_new h m && not (is_mapping wire)) ≡ b → (if b then Drops NewCable else Enters m) ≡ Enters next → MayEnter h wire (Some m) next
    by true f d = cc
    by false f d = let same = one_course m next d in record { there = ap Some same; passes = subst (λ k. (is_new h k && not (is_mapping wire)) ≡ false) same f }

goes_out : (h : CableHistory) (c : ℕ) (wire : List ℕ) (next s p : ℕ) (t : Turned) → life_head h c ≡ Some (record { v = Switch s; p = p }) → aim (ports_of (fabric_now h) (Switch s)) p wire ≡ t → course_out h s wire t ≡ Enters next → GoesOn h c wire next
goes_out h c wire next s p (Out port) comes a e =
    let x = aimed (ports_of (fabric_now h) (Switch s)) p (front_turn wire) port a in
    let m = by_channel h wire (leaving h (record { v = Switch s; p = port })) next e in
    record { switch = s; entry = p; turn = x.0; port = port; comes = comes; front = x.1.0; leaves = x.1.1; out = m.there; passes = m.passes }
goes_out h c wire next s p TurnedTooFar comes a e = cc
goes_out h c wire next s p NoTurn comes a e = cc

goes_at : (h : CableHistory) (c : ℕ) (wire : List ℕ) (next : ℕ) (v : Vertex) (p : ℕ) → life_head h c ≡ Some (record { v = v; p = p }) → course_at h v p wire ≡ Enters next → GoesOn h c wire next
goes_at h c wire next (Host a) p is e = cc
goes_at h c wire next (Switch s) p is e = goes_out h c wire next s p (aim (ports_of (fabric_now h) (Switch s)) p wire) is refl e

goes_into : (h : CableHistory) (c : ℕ) (wire : List ℕ) (next : ℕ) (o : Option End) → life_head h c ≡ o → course_into h o wire ≡ Enters next → GoesOn h c wire next
goes_into h c wire next None is e = cc
goes_into h c wire next (Some d) is e = goes_at h c wire next d.v d.p is e

pub goes_on : (h : CableHistory) (c : ℕ) (wire : List ℕ) (next : ℕ) → course h c wire ≡ Enters next → GoesOn h c wire next
goes_on h c wire next e = goes_into h c wire next (life_head h c) refl e

-- the turns in front: a strip takes the first off
front-push : (byte : ℕ) (turn : ℤ) (front : List ℕ) (last : ℕ) → turn_of byte ≡ Some turn → front_turns (head (byte ∷ front ++ last ∷ [])) ≡ turn ∷ front_turns (head (stripped (byte ∷ front ++ last ∷ [])))
front-push byte turn front last e =
    let c = bit_xor last (contribution byte (length front)) in
    let before : front_turns (head (byte ∷ front ++ last ∷ [])) ≡ front_turn_then (turn_of byte) (front_turns front) = ap front_turns (head-push (byte ∷ front) last) in
    let one : front_turn_then (turn_of byte) (front_turns front) ≡ turn ∷ front_turns front = ap (λ o. front_turn_then o (front_turns front)) e in
    let after : front_turns (head (stripped (byte ∷ front ++ last ∷ []))) ≡ front_turns front = ap (λ l. front_turns (head l)) (stripped-push byte front last) ∙ ap front_turns (head-push front c) in
    before ∙ one ∙ ap (λ l. turn ∷ l) (sym after)

front-next : (wire : List ℕ) (turn : ℤ) → front_turn wire ≡ Some turn → front_turns (head wire) ≡ turn ∷ front_turns (head (stripped wire))
front-next [] turn e = cc
front-next (byte ∷ []) turn e = cc
front-next (byte ∷ next ∷ wire) turn e =
    let w = ended next wire in
    let begins : front_turn (byte ∷ w.front ++ w.last ∷ []) ≡ turn_of byte = ap (λ l. option_and_then turn_of (slice_get l 0)) (head-push (byte ∷ w.front) w.last) in
    let is : turn_of byte ≡ Some turn = sym begins ∙ sym (ap (λ l. front_turn (byte ∷ l)) w.whole) ∙ e in
    subst (λ l. front_turns (head (byte ∷ l)) ≡ turn ∷ front_turns (head (stripped (byte ∷ l)))) (sym w.whole) (front-push byte turn w.front w.last is)

turns-written : (route : List ℤ) (rest : List ℕ) → list_all is_turn route ≡ true → front_turns (map route_byte route ++ 0 ∷ rest) ≡ route
turns-written [] rest e = refl
turns-written (turn ∷ route) rest e =
    let b = both (is_turn turn) (list_all is_turn route) e in
    ap (λ o. front_turn_then o (front_turns (map route_byte route ++ 0 ∷ rest))) (turn_of-route_byte turn b.0) ∙ ap (λ l. turn ∷ l) (turns-written route rest b.1)

-- a packet that was built has the turns of its route in front
pub front-built : (route : List ℤ) (kind : Kind) (payload : List ℕ) → list_all is_turn route ≡ true → front_turns (head (packet_of route kind payload)) ≡ route
front-built route kind payload e =
    let h = head_of route kind payload in
    ap front_turns (head-push h (crc h)) ∙ turns-written route (type_of kind ∷ payload) e

-- channels that are crossed from an end on begin with its own
begins : (h : CableHistory) (test : Wire → Bool) (e : End) (c : ℕ) (turns : List ℤ) → channel_by test 0 h.wires e ≡ Some c → (more : List ℕ) × (channels_by h test (Some e) turns ≡ c ∷ more)
begins h test e c [] is = ([], ap option_to_list is)
begins h test e c (turn ∷ turns) is =
    let further : List ℕ = channels_by h test (next_exit (fabric_by h test) (Some e) turn) turns in (further, ap (λ o. option_to_list o ++ further) is)

has_tail : (o : Option Wire) (c : ℕ) (e : End) → option_map (λ w. if nat_eq (c % 2) 0 then w.cable.b else w.cable.a) o ≡ Some e → (d : End) × (option_map (λ w. if nat_eq (c % 2) 0 then w.cable.a else w.cable.b) o ≡ Some d)
has_tail None c e is = cc
has_tail (Some w) c e is = ((if nat_eq (c % 2) 0 then w.cable.a else w.cable.b), refl)

has_head : (o : Option Wire) (c : ℕ) (e : End) → option_map (λ w. if nat_eq (c % 2) 0 then w.cable.a else w.cable.b) o ≡ Some e → (d : End) × (option_map (λ w. if nat_eq (c % 2) 0 then w.cable.b else w.cable.a) o ≡ Some d)
has_head None c e is = cc
has_head (Some w) c e is = ((if nat_eq (c % 2) 0 then w.cable.b else w.cable.a), refl)

-- a host with a channel is one of the fabric, so it has an address of 16 bits
pub host-near : (h : CableHistory) (host c : ℕ) → IsFabric (fabric_now h) → leaving h (host_port host) ≡ Some c → host < 2 ^ 16
host-near h host c f e = here (nat_lt host (length h.hosts)) refl there
  where
    few : length h.hosts ≤ 128
    few = f.few_hosts

    there : has_port (fabric_now h) (host_port host) ≡ true
    there =
        let ends = leaving_has_its_end h (host_port host) c e in
        let d = has_head (slice_get h.wires (c / 2)) c (host_port host) ends.tail in
        port-there (fabric_now h) (host_port host) d.0 f (sym ends.head ∙ d.1)

    here : (b : Bool) → nat_lt host (length h.hosts) ≡ b → nat_lt 0 (if b then 1 else 0) ≡ true → host < 2 ^ 16
    here true t p = grind (arith, nat_tests)
    here false t p = absurd (grind (arith, nat_tests))

-- what lies ahead of a packet in a channel, over the cables of a test
abbrev pub ahead : CableHistory → (Wire → Bool) → ℕ → List ℕ → List ℕ
ahead h test c wire = channels_by h test (life_tail h c) (front_turns (head wire))

-- its own channel, and then what lies ahead of it in the next
module _ (h : CableHistory) (test : Wire → Bool) (f : IsFabric (fabric_by h test)) (c : ℕ) (wire : List ℕ) (next : ℕ) (here : passes_at test h.wires c ≡ true) (e : course h c wire ≡ Enters next) where
  pub ahead-next : ahead h test c wire ≡ c ∷ ahead h test next (stripped wire)
  ahead-next = (λ i. channels_by h test (t.1 i) (turns i)) ∙ step
    where
      x : GoesOn h c wire next
      x = goes_on h c wire next e

      exit : End
      exit = record { v = Switch x.switch; p = x.port }

      rest : List ℤ
      rest = front_turns (head (stripped wire))

      t : (d : End) × (life_tail h c ≡ Some d)
      t = has_tail (slice_get h.wires (c / 2)) c (record { v = Switch x.switch; p = x.entry }) x.comes

      turns : front_turns (head wire) ≡ x.turn ∷ rest
      turns = front-next wire x.turn x.front

      back : channel_by test 0 h.wires t.0 ≡ Some c
      back = passing-leaves h test c t.0 f t.1 here

      to : far (fabric_by h test) t.0 ≡ Some (record { v = Switch x.switch; p = x.entry })
      to = sym (leaving_over h test t.0 c back).head ∙ x.comes

      next_tail : life_tail h next ≡ Some exit
      next_tail = (leaving_has_its_end h exit next x.out).tail

      leaves : next_exit (fabric_by h test) (Some t.0) x.turn ≡ life_tail h next
      leaves = ap (option_and_then (λ d. exit_at (fabric_by h test) d.v d.p x.turn)) to ∙ ap (option_map (λ p. record { v = Switch x.switch; p = p })) x.leaves ∙ sym next_tail

      step : channels_by h test (Some t.0) (x.turn ∷ rest) ≡ c ∷ channels_by h test (life_tail h next) rest
      step = λ i. option_to_list (back i) ++ channels_by h test (leaves i) rest

  -- and that begins with the next channel, where its cable passes too
  pub ahead-two : passes_at test h.wires next ≡ true → (more : List ℕ) × (ahead h test c wire ≡ c ∷ next ∷ more)
  ahead-two there =
      let x = goes_on h c wire next e in
      let exit : End = record { v = Switch x.switch; p = x.port } in
      let rest : List ℤ = front_turns (head (stripped wire)) in
      let tail = (leaving_has_its_end h exit next x.out).tail in
      let b = begins h test exit next rest (passing-leaves h test next exit f tail there) in
      (b.0, ahead-next ∙ ap (λ l. c ∷ l) (ap (λ o. channels_by h test o rest) tail ∙ b.1))

-- the next channel is of a cable in place
pub next-stands : (h : CableHistory) (c : ℕ) (wire : List ℕ) (next : ℕ) → course h c wire ≡ Enters next → is_standing h next ≡ true
next-stands h c wire next e = let x = goes_on h c wire next e in (leaving_has_its_end h (record { v = Switch x.switch; p = x.port }) next x.out).in_place

-- a message goes into no new cable
pub message-old : (h : CableHistory) (c : ℕ) (wire : List ℕ) (next : ℕ) → course h c wire ≡ Enters next → is_gm wire ≡ true → is_new h next ≡ false
message-old h c wire next e gm = by (is_new h next) (is_mapping wire) (gm-no_mapping wire gm) (goes_on h c wire next e).passes
  where
    by : (a b : Bool) → b ≡ false → (a && not b) ≡ false → a ≡ false
    by true true p q = p
    by true false p q = q
    by false b p q = refl

-- nor does a packet that meets none
pub unmet-old : (h : CableHistory) (c : ℕ) (wire : List ℕ) (next : ℕ) → IsHistory h → is_standing h c ≡ true → course h c wire ≡ Enters next → AllByRecursion (λ d. is_new h d ≡ false) (ahead h is_in_place c wire) → is_new h next ≡ false
unmet-old h c wire next is stands e all =
    let two = ahead-two h is_in_place (now_is_fabric h is) c wire next stands e (next-stands h c wire next e) in
    (subst (AllByRecursion (λ d. is_new h d ≡ false)) two.1 all).1.0

-- a packet is led by a route of a set: its cable isn't new, and what lies ahead of it over what is left is a stretch of the route
pub record IsLedBy (h : CableHistory) (routes : List Route) (c : ℕ) (wire : List ℕ) : Type 0 where
  pub accepted : is_new h c ≡ false
  pub place : ℕ
  pub route : Route
  pub behind : List ℕ
  pub beyond : List ℕ
  pub there : slice_get routes place ≡ Some route
  pub within : channels_at h h.accepted route.from route.walk ≡ behind ++ (ahead h (is_left h) c wire ++ beyond)

-- and so it is in the next channel
pub led-next : (h : CableHistory) (routes : List Route) (c : ℕ) (wire : List ℕ) (next : ℕ) → IsHistory h → is_standing h c ≡ true → course h c wire ≡ Enters next → is_new h next ≡ false → IsLedBy h routes c wire → IsLedBy h routes next (stripped wire)
led-next h routes c wire next is stands e old l =
    let step : ahead h (is_left h) c wire ≡ c ∷ ahead h (is_left h) next (stripped wire) = ahead-next h (is_left h) (left-fabric h is) c wire next (left-passes h c stands l.accepted) e in
    let rest : List ℕ = ahead h (is_left h) next (stripped wire) ++ l.beyond in
    record {
      accepted = old;
      place = l.place;
      route = l.route;
      behind = l.behind ++ c ∷ [];
      beyond = l.beyond;
      there = l.there;
      within = l.within ∙ ap (λ x. l.behind ++ (x ++ l.beyond)) step ∙ sym (append_assoc l.behind (c ∷ []) rest);
    }

-- and where later changes leave its channel: pulls leave a front of what lies ahead, and a plug leaves it
led-front : (h g : CableHistory) (routes : List Route) (c : ℕ) (wire : List ℕ) → IsHistory h → g.accepted ≡ h.accepted → IsChannelKept h g c → HasFewer g h (is_left g) (is_left h)
    → ((host : ℕ) (turns : List ℤ) → channels_at g h.accepted host turns ≡ channels_at h h.accepted host turns) → IsLedBy h routes c wire → IsLedBy g routes c wire
led-front h g routes c wire is accepted kept fewer past l =
    let turns : List ℤ = front_turns (head wire) in
    let front = fewer_front g h (is_left g) (is_left h) (life_tail h c) turns (left-fabric h is) fewer in
    let less : ahead h (is_left h) c wire ≡ ahead g (is_left g) c wire ++ front.rest = front.whole ∙ ap (λ t. channels_by g (is_left g) t turns ++ front.rest) (sym kept.tail) in
    let whole : channels_at h h.accepted l.route.from l.route.walk ≡ l.behind ++ (ahead g (is_left g) c wire ++ (front.rest ++ l.beyond)) =
    l.within ∙ ap (λ x. l.behind ++ (x ++ l.beyond)) less ∙ ap (λ x. l.behind ++ x) (append_assoc (ahead g (is_left g) c wire) front.rest l.beyond) in
    record {
      accepted = kept.new ∙ l.accepted;
      place = l.place;
      route = l.route;
      behind = l.behind;
      beyond = front.rest ++ l.beyond;
      there = l.there;
      within = ap (λ k. channels_at g k l.route.from l.route.walk) accepted ∙ past l.route.from l.route.walk ∙ whole;
    }

pub led-pull : (h : CableHistory) (at : End) (routes : List Route) (c : ℕ) (wire : List ℕ) → IsHistory h → c < life_channels h → IsLedBy h routes c wire → IsLedBy (pulled_at h at) routes c wire
led-pull h at routes c wire is low l =
    led-front h (pulled_at h at) routes c wire is (kept-pull h at).accepted (channel-pull h at c low) (pulled-left (OnlyPulled.pulls at OnlyPulled.still))
    (λ host turns. later-past-channels h.accepted (Some (host_port host)) turns is.accepted (IsLater.pulls at IsLater.still)) l

pub led-plug : (h : CableHistory) (a b : End) (routes : List Route) (c : ℕ) (wire : List ℕ) → IsHistory h → may_plug h a b ≡ true → c < life_channels h → IsLedBy h routes c wire → IsLedBy (with_plugged h a b) routes c wire
led-plug h a b routes c wire is may low l =
    let g : CableHistory = with_plugged h a b in
    let kept = channel-plug h a b c low in
    let same : ahead g (is_left g) c wire ≡ ahead h (is_left h) c wire = ap (λ t. channels_by g (is_left g) t (front_turns (head wire))) kept.tail ∙ left-plug h a b (life_tail h c) (front_turns (head wire)) is in
    record {
      accepted = kept.new ∙ l.accepted;
      place = l.place;
      route = l.route;
      behind = l.behind;
      beyond = l.beyond;
      there = l.there;
      within = later-past-channels {h = h} {g = g} h.accepted (Some (host_port l.route.from)) l.route.walk is.accepted (IsLater.plugs {h = h} {g = g} a b may IsLater.still) ∙ l.within ∙ ap (λ x. l.behind ++ (x ++ l.beyond)) (sym same);
    }
