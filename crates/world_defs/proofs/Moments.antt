-- Moments of small worlds: what is sound, lawful, honest and settled there, and what isn't.
use Rattle.std.proofs.Common.{◌≡◌, ◌<◌, ℕ, zero, suc, true, false, List, [], ◌∷◌, ◌++◌, length, replicate, get_or, Option, Some, None, Result, Ok, Err, refl, sym, ◌∙◌, ap, inl, subst, arith, rules, ◌||◌, nat_eq, true≢false, ◌⊎◌, if◌then◌else◌}
use Rattle.std.specs.Prelude.{ℤ, pos, negsuc, codes, slice_get}
use Rattle.std.specs.List.{AllByRecursion}
use Rattle.net_defs.specs.Examples.{two_hosts}
use Rattle.packet_defs.specs.declared.kind.Kind.{Kind}
use Rattle.packet_defs.specs.declared.kind.Kind.TheVariants.{Gm}
use Rattle.packet_defs.specs.declared.host_drop.HostDrop.{HostDrop}
use Rattle.packet_defs.specs.Host.{body_of}
use Rattle.world_defs.specs.Crossed.{is_new}
use Rattle.world_defs.specs.Kinds.{unrouted, is_gm}
use Rattle.world_defs.specs.Links.{Held, Caught, packet_in}
use Rattle.net_defs.specs.Dependencies.{IsNext, IsBefore, HasNoCycle}
use Rattle.net_defs.specs.Dependencies.IsNext.{here, later}
use Rattle.net_defs.proofs.Cycles.{no_cycle-rising}
use Rattle.gm_defs.specs.declared.message.Message.{Message}
use Rattle.gm_defs.specs.declared.frame.FrameHead.{FrameHead}
use Rattle.gm_defs.specs.declared.frame.Ack.{Ack}
use Rattle.gm_defs.specs.declared.frame.ConnectionKey.{ConnectionKey}
use Rattle.gm_defs.specs.declared.frame.GmBody.TheVariants.{Frame, Ack as Acknowledges}
use Rattle.gm_defs.specs.Body.{frame_bytes, decode, part_in}
use Rattle.gm_defs.specs.Fragment.{IsHonestFrame, IsHonestAck, frame_of, whole_below}
use Rattle.gm_defs.specs.Connection.{connection}
use Rattle.gm_defs.specs.Token.{PortState}
use Rattle.gm_defs.specs.Examples.{message, abc}
use Rattle.world_defs.specs.Table.{applied, table_route}
use Rattle.world_defs.specs.Lane.{LaneState, new_lane}
use Rattle.world_defs.specs.Node.{lane_of, sending_lane, taking_lane, lane_at, to_send, packet_for, after_sending, port_at}
use Rattle.world_defs.specs.Hearing.{hear, port_fits}
use Rattle.world_defs.specs.Client.{ClientState, begun, closed, provided_by, sent_by, polled_by}
use Rattle.world_defs.specs.World.{new_world, host_count, node_at, client_at}
use Rattle.world_defs.specs.Step.{lost, was_reset, repeated, held, flipped, replayed, asked, part_staged, planned_strikes, sent_out, injected, advanced, expired, gave_up}
use Rattle.world_defs.specs.Settled.{IsSettled, IsSettledConnection, IsWaiting}
use Rattle.world_defs.specs.Settled.IsSettledConnection.{all_acknowledged, no_route, no_route_back, cut, cut_back, waiting}
use Rattle.world_defs.specs.Logs.{drain, clear, round_pass, round, settle, sends, host_try, loop_try, ask, part_try, install}
use Rattle.world_defs.specs.Traffic.{IsLawful, IsLawfulTraffic, IsHonest, IsHonestTraffic, adopted_routes, route_channels, is_broken, channels_ahead, sender_on, sent_on, got_on, taken_on}
use Rattle.world_defs.specs.Sound.{IsSound, IsPrefix, AreOwned, installed_channels}
use Rattle.world_defs.specs.Examples.{on_its_way, abc_frame, further_on, abc_further_on, spoiled, forged, unserved}

-- an element of a list of which all holds
pub all-at : {X : Type 0} (P : X → Type 0) (xs : List X) (i : ℕ) (d : X) → AllByRecursion P xs → P d → P (get_or xs i d)
all-at P [] i d all past = past
all-at P (x ∷ xs) zero d all past = all.0
all-at P (x ∷ xs) (suc i) d all past = all-at P xs i d all.1 past

-- an element of equal ones
pub same-at : {X : Type 0} (x : X) (k i : ℕ) → get_or (replicate k x) i x ≡ x
same-at x zero i = refl
same-at x (suc k) zero = refl
same-at x (suc k) (suc i) = same-at x k i

-- a port that isn't open, and no client
pub unowned : (p : Option PortState) (c : Option ClientState) → p ≡ None → c ≡ None → AreOwned p c
unowned None None e f = tt
unowned (Some p) c e f = cc
unowned None (Some c) e f = cc

-- nothing stands next to another in a route of two channels but these
one_channel : (c d a : ℕ) (cs : List ℕ) → a ∷ [] ≡ cs → IsNext c d cs → ⊥
one_channel c d a cs e (here {cs = rest}) = cc
one_channel c d a cs e (later {b = b} {cs = rest} n) = let none : [] ≡ rest = cc in no_channel rest none n
  where
    no_channel : (rest : List ℕ) → [] ≡ rest → IsNext c d rest → ⊥
    no_channel rest e (here {cs = more}) = cc
    no_channel rest e (later {b = b} {cs = more} n) = cc

two_channels : (c d a b : ℕ) (cs : List ℕ) → a ∷ b ∷ [] ≡ cs → IsNext c d cs → (a ≡ c) × (b ≡ d)
two_channels c d a b cs e (here {cs = rest}) = (let x : a ≡ c = cc in x, let y : b ≡ d = cc in y)
two_channels c d a b cs e (later {b = x} {cs = rest} n) = let one : b ∷ [] ≡ rest = cc in absurd (one_channel c d b rest one n)

abbrev pub both_ways : List (List ℕ)
both_ways = (0 ∷ 3 ∷ []) ∷ (2 ∷ 1 ∷ []) ∷ []

-- along both routes channels 0 and 2 come before 3 and 1
abbrev pub rank : ℕ → ℕ
rank c = if nat_eq c 0 || nat_eq c 2 then 0 else 1

pub rises : (c d : ℕ) → IsBefore both_ways c d → rank c < rank d
rises c d b = by b.place b.there
  where
    by : (place : ℕ) → slice_get both_ways place ≡ Some b.route → rank c < rank d
    by zero e =
        let one : 0 ∷ 3 ∷ [] ≡ b.route = cc in
        let pair = two_channels c d 0 3 b.route one b.next in
        subst (λ x. rank x < rank d) pair.0 (subst (λ y. rank 0 < rank y) pair.1 (omega arith))
    by (suc zero) e =
        let one : 2 ∷ 1 ∷ [] ≡ b.route = cc in
        let pair = two_channels c d 2 1 b.route one b.next in
        subst (λ x. rank x < rank d) pair.0 (subst (λ y. rank 2 < rank y) pair.1 (omega arith))
    by (suc (suc k)) e = cc

-- of nothing, everything begins with it
pub front_of_none : (got sent : List Message) → got ≡ [] → IsPrefix got sent
front_of_none [] sent e = record { rest = sent; both = refl }
front_of_none (m ∷ ms) sent e = cc

-- before anything happened
first_lane : (h lane : ℕ) → lane_at (node_at (new_world two_hosts) h) lane ≡ new_lane
first_lane zero lane = same-at new_lane 4 lane
first_lane (suc zero) lane = same-at new_lane 4 lane
first_lane (suc (suc h)) lane = same-at new_lane 0 lane

first_front : (c : ConnectionKey) → IsPrefix (got_on (new_world two_hosts) c) (sent_on (new_world two_hosts) c)
first_front c = front_of_none _ _ (ap (λ l. l.got) (first_lane c.dst (taking_lane c)))

first_owned : (h port : ℕ) → AreOwned (port_at (node_at (new_world two_hosts) h) port) (client_at (new_world two_hosts) h port)
first_owned zero port = unowned _ _ (same-at None 8 port) (same-at None 8 port)
first_owned (suc zero) port = unowned _ _ (same-at None 8 port) (same-at None 8 port)
first_owned (suc (suc h)) port = unowned _ _ (same-at None 8 port) refl

no_routes : (c d : ℕ) → IsBefore (installed_channels (new_world two_hosts)) c d → c < d
no_routes c d b = let none : None ≡ Some b.route = b.there in cc

pub first_is_sound : IsSound (new_world two_hosts)
first_is_sound = record { no_cycle = no_cycle-rising _ (λ c. c) no_routes; in_order = first_front; one_owner = first_owned }

-- a frame is on its way
way_got : (h : ℕ) → AllByRecursion (λ (l : LaneState). l.got ≡ []) (node_at on_its_way h).lanes
unfolding sends host_try loop_try ask begun closed provided_by sent_by polled_by drain clear hear part_try install to_send packet_for after_sending round_pass round settle lost was_reset repeated held flipped replayed asked part_staged planned_strikes sent_out injected advanced expired gave_up applied
way_got zero = (refl, (refl, (refl, (refl, tt))))
way_got (suc zero) = (refl, (refl, (refl, (refl, tt))))
way_got (suc (suc h)) = tt

way_front : (c : ConnectionKey) → IsPrefix (got_on on_its_way c) (sent_on on_its_way c)
way_front c = front_of_none _ _ (all-at (λ (l : LaneState). l.got ≡ []) (node_at on_its_way c.dst).lanes (taking_lane c) new_lane (way_got c.dst) refl)

way_owned : (h port : ℕ) → AreOwned (port_at (node_at on_its_way h) port) (client_at on_its_way h port)
unfolding sends host_try loop_try ask begun closed provided_by sent_by polled_by drain clear hear part_try install to_send packet_for after_sending round_pass round settle lost was_reset repeated held flipped replayed asked part_staged planned_strikes sent_out injected advanced expired gave_up applied
way_owned zero zero = record { sends = record { once = search rules; below = search rules; all = refl }; recvs = record { once = search rules; below = search rules; all = refl } }
way_owned zero (suc port) = unowned _ _ (same-at None 7 port) (same-at None 7 port)
way_owned (suc zero) zero = tt
way_owned (suc zero) (suc zero) = record { sends = record { once = search rules; below = search rules; all = refl }; recvs = record { once = search rules; below = search rules; all = refl } }
way_owned (suc zero) (suc (suc port)) = unowned _ _ (same-at None 6 port) (same-at None 6 port)
way_owned (suc (suc h)) port = unowned _ _ (same-at None 8 port) refl

way_channels : installed_channels on_its_way ≡ both_ways
unfolding sends host_try loop_try ask begun closed provided_by sent_by polled_by drain clear hear part_try install to_send packet_for after_sending round_pass round settle lost was_reset repeated held flipped replayed asked part_staged planned_strikes sent_out injected advanced expired gave_up applied
way_channels = refl

pub way_is_sound : IsSound on_its_way
way_is_sound = record { no_cycle = subst (λ cs. HasNoCycle (IsBefore cs)) (sym way_channels) (no_cycle-rising _ rank rises); in_order = way_front; one_owner = way_owned }

-- a message that nobody sent
forged_got : got_on forged (connection 0 1 0) ≡ message [] ∷ []
unfolding sends host_try loop_try ask begun closed provided_by sent_by polled_by drain clear hear part_try install to_send packet_for after_sending round_pass round settle lost was_reset repeated held flipped replayed asked part_staged planned_strikes sent_out injected advanced expired gave_up applied
forged_got = refl

forged_sent : sent_on forged (connection 0 1 0) ≡ message (codes "ABC") ∷ []
unfolding sends host_try loop_try ask begun closed provided_by sent_by polled_by drain clear hear part_try install to_send packet_for after_sending round_pass round settle lost was_reset repeated held flipped replayed asked part_staged planned_strikes sent_out injected advanced expired gave_up applied
forged_sent = refl

no_front : (got sent : List Message) → got ≡ message [] ∷ [] → sent ≡ message (codes "ABC") ∷ [] → ¬ IsPrefix got sent
no_front got sent e f front =
    let both : message (codes "ABC") ∷ [] ≡ message [] ∷ front.rest = sym f ∙ (front.both ∙ ap (λ g. g ++ front.rest) e) in
    let one : message (codes "ABC") ≡ message [] = cc in
    let bodies : codes "ABC" ≡ [] = ap (λ (m : Message). m.body) one in
    cc

pub forged_is_not_sound : ¬ IsSound forged
forged_is_not_sound s = no_front _ _ forged_got forged_sent (s.in_order (connection 0 1 0))

-- the frame in its channels
pub frame_is_there : packet_in on_its_way.links 0 ≡ Some abc_frame
unfolding sends host_try loop_try ask begun closed provided_by sent_by polled_by drain clear hear part_try install to_send packet_for after_sending round_pass round settle lost was_reset repeated held flipped replayed asked part_staged planned_strikes sent_out injected advanced expired gave_up applied
frame_is_there = refl

way_whole : route_channels on_its_way 0 (pos 3 ∷ []) ≡ 0 ∷ 3 ∷ []
unfolding sends host_try loop_try ask begun closed provided_by sent_by polled_by drain clear hear part_try install to_send packet_for after_sending round_pass round settle lost was_reset repeated held flipped replayed asked part_staged planned_strikes sent_out injected advanced expired gave_up applied
way_whole = refl

way_ahead : channels_ahead on_its_way 0 abc_frame.wire ≡ 0 ∷ 3 ∷ []
unfolding sends host_try loop_try ask begun closed provided_by sent_by polled_by drain clear hear part_try install to_send packet_for after_sending round_pass round settle lost was_reset repeated held flipped replayed asked part_staged planned_strikes sent_out injected advanced expired gave_up applied
way_ahead = refl

way_route : slice_get (adopted_routes on_its_way) 0 ≡ Some (record { from = 0; to = 1; walk = pos 3 ∷ [] })
unfolding sends host_try loop_try ask begun closed provided_by sent_by polled_by drain clear hear part_try install to_send packet_for after_sending round_pass round settle lost was_reset repeated held flipped replayed asked part_staged planned_strikes sent_out injected advanced expired gave_up applied
way_route = refl

way_accepted : is_new on_its_way.links.cables 0 ≡ false
unfolding sends host_try loop_try ask begun closed provided_by sent_by polled_by drain clear hear part_try install to_send packet_for after_sending round_pass round settle lost was_reset repeated held flipped replayed asked part_staged planned_strikes sent_out injected advanced expired gave_up applied
way_accepted = refl

frame_is_gm : is_gm abc_frame.wire ≡ true
frame_is_gm = refl

frame_lawful : IsLawful on_its_way 0 abc_frame
frame_lawful = record {
  unmarked = refl;
  accepted = way_accepted;
  place = 0;
  route = record { from = 0; to = 1; walk = pos 3 ∷ [] };
  behind = [];
  beyond = [];
  there = way_route;
  within = way_whole ∙ sym (ap (λ cs. cs ++ []) way_ahead);
  stopped = inl frame_is_gm;
}

way_channels_hold : on_its_way.links.channels ≡ Some abc_frame ∷ None ∷ None ∷ None ∷ []
unfolding sends host_try loop_try ask begun closed provided_by sent_by polled_by drain clear hear part_try install to_send packet_for after_sending round_pass round settle lost was_reset repeated held flipped replayed asked part_staged planned_strikes sent_out injected advanced expired gave_up applied
way_channels_hold = refl

-- of four channels the first alone holds a packet
first_alone : (P : ℕ → Held → Type 0) (h : Held) → P 0 h → (c : ℕ) (x : Held) → get_or (Some h ∷ None ∷ None ∷ None ∷ []) c None ≡ Some x → P c x
first_alone P h p zero x e = let one : h ≡ x = cc in subst (P 0) one p
first_alone P h p (suc zero) x e = cc
first_alone P h p (suc (suc zero)) x e = cc
first_alone P h p (suc (suc (suc zero))) x e = cc
first_alone P h p (suc (suc (suc (suc c)))) x e = cc

on_the_way : (P : ℕ → Held → Type 0) → P 0 abc_frame → (c : ℕ) (x : Held) → packet_in on_its_way.links c ≡ Some x → P c x
on_the_way P p c x e = first_alone P abc_frame p c x (subst (λ ps. get_or ps c None ≡ Some x) way_channels_hold e)

pub way_is_lawful : IsLawfulTraffic on_its_way
way_is_lawful = record { packets = on_the_way (IsLawful on_its_way) frame_lawful }

pub frame_is_further_on : packet_in further_on.links 3 ≡ Some abc_further_on
unfolding sends host_try loop_try ask begun closed provided_by sent_by polled_by drain clear hear part_try install to_send packet_for after_sending round_pass round settle lost was_reset repeated held flipped replayed asked part_staged planned_strikes sent_out injected advanced expired gave_up applied
frame_is_further_on = refl

further_whole : route_channels further_on 0 (pos 3 ∷ []) ≡ 0 ∷ 3 ∷ []
unfolding sends host_try loop_try ask begun closed provided_by sent_by polled_by drain clear hear part_try install to_send packet_for after_sending round_pass round settle lost was_reset repeated held flipped replayed asked part_staged planned_strikes sent_out injected advanced expired gave_up applied
further_whole = refl

further_ahead : channels_ahead further_on 3 abc_further_on.wire ≡ 3 ∷ []
unfolding sends host_try loop_try ask begun closed provided_by sent_by polled_by drain clear hear part_try install to_send packet_for after_sending round_pass round settle lost was_reset repeated held flipped replayed asked part_staged planned_strikes sent_out injected advanced expired gave_up applied
further_ahead = refl

further_route : slice_get (adopted_routes further_on) 0 ≡ Some (record { from = 0; to = 1; walk = pos 3 ∷ [] })
unfolding sends host_try loop_try ask begun closed provided_by sent_by polled_by drain clear hear part_try install to_send packet_for after_sending round_pass round settle lost was_reset repeated held flipped replayed asked part_staged planned_strikes sent_out injected advanced expired gave_up applied
further_route = refl

further_accepted : is_new further_on.links.cables 3 ≡ false
unfolding sends host_try loop_try ask begun closed provided_by sent_by polled_by drain clear hear part_try install to_send packet_for after_sending round_pass round settle lost was_reset repeated held flipped replayed asked part_staged planned_strikes sent_out injected advanced expired gave_up applied
further_accepted = refl

further_is_gm : is_gm abc_further_on.wire ≡ true
further_is_gm = refl

pub further_is_lawful : IsLawful further_on 3 abc_further_on
further_is_lawful = record {
  unmarked = refl;
  accepted = further_accepted;
  place = 0;
  route = record { from = 0; to = 1; walk = pos 3 ∷ [] };
  behind = 0 ∷ [];
  beyond = [];
  there = further_route;
  within = further_whole ∙ sym (ap (λ cs. 0 ∷ (cs ++ [])) further_ahead);
  stopped = inl further_is_gm;
}

spoiled_frame : packet_in spoiled.links 0 ≡ Some (record { wire = 128 ∷ 4 ∷ 8 ∷ frame_bytes abc (codes "ABC") ++ 146 ∷ []; marked = true; born = 1 })
unfolding sends host_try loop_try ask begun closed provided_by sent_by polled_by drain clear hear part_try install to_send packet_for after_sending round_pass round settle lost was_reset repeated held flipped replayed asked part_staged planned_strikes sent_out injected advanced expired gave_up applied
spoiled_frame = refl

pub spoiled_is_not_lawful : ¬ IsLawfulTraffic spoiled
spoiled_is_not_lawful t = let mark : true ≡ false = (t.packets 0 _ spoiled_frame).unmarked in cc

-- what the frame says
abbrev abc_bytes : List ℕ
abc_bytes = frame_bytes abc (codes "ABC")

frame_body : body_of (unrouted abc_frame.wire) ≡ Ok (Gm, abc_bytes)
frame_body = refl

frame_head : decode abc_bytes ≡ Ok (Frame abc)
frame_head = refl

abbrev body_in : Result (Kind × List ℕ) HostDrop → List ℕ
body_in (Ok (kind, body)) = body
body_in (Err drop) = []

same_body : (wire x y : List ℕ) → body_of wire ≡ Ok (Gm, x) → body_of wire ≡ Ok (Gm, y) → x ≡ y
same_body wire x y e f = ap body_in (sym e ∙ f)

same_head : (body : List ℕ) (h k : FrameHead) → decode body ≡ Ok (Frame h) → decode body ≡ Ok (Frame k) → h ≡ k
same_head body h k e f = cc

no_ack : (body : List ℕ) (h : FrameHead) (a : Ack) → decode body ≡ Ok (Frame h) → decode body ≡ Ok (Acknowledges a) → ⊥
no_ack body h a e f = cc

body_is : (body : List ℕ) → body_of (unrouted abc_frame.wire) ≡ Ok (Gm, body) → abc_bytes ≡ body
body_is body b = same_body (unrouted abc_frame.wire) abc_bytes body frame_body b

head_in : (body : List ℕ) → abc_bytes ≡ body → decode body ≡ Ok (Frame abc)
head_in body e = subst (λ y. decode y ≡ Ok (Frame abc)) e frame_head

way_frame : IsHonestFrame (sent_on on_its_way) abc (part_in abc_bytes)
unfolding sends host_try loop_try ask begun closed provided_by sent_by polled_by drain clear hear part_try install to_send packet_for after_sending round_pass round settle lost was_reset repeated held flipped replayed asked part_staged planned_strikes sent_out injected advanced expired gave_up applied
way_frame = refl

frame_honest : IsHonest on_its_way abc_frame
frame_honest = record { frames = frames; acks = acks }
  where
    frames : (h : FrameHead) (body : List ℕ) → abc_frame.marked ≡ false → body_of (unrouted abc_frame.wire) ≡ Ok (Gm, body) → decode body ≡ Ok (Frame h) → IsHonestFrame (sent_on on_its_way) h (part_in body)
    frames h body u b d =
        let same : abc_bytes ≡ body = body_is body b in
        let head : abc ≡ h = same_head body abc h (head_in body same) d in
        subst (λ (x : FrameHead). IsHonestFrame (sent_on on_its_way) x (part_in body)) head (subst (λ y. IsHonestFrame (sent_on on_its_way) abc (part_in y)) same way_frame)

    acks : (a : Ack) (body : List ℕ) → abc_frame.marked ≡ false → body_of (unrouted abc_frame.wire) ≡ Ok (Gm, body) → decode body ≡ Ok (Acknowledges a) → IsHonestAck (taken_on on_its_way) a
    acks a body u b d = absurd (no_ack body abc a (head_in body (body_is body b)) d)

way_limbo : on_its_way.links.limbo ≡ []
unfolding sends host_try loop_try ask begun closed provided_by sent_by polled_by drain clear hear part_try install to_send packet_for after_sending round_pass round settle lost was_reset repeated held flipped replayed asked part_staged planned_strikes sent_out injected advanced expired gave_up applied
way_limbo = refl

nothing_there : (limbo : List (ℕ × Caught)) (place : ℕ) (x : ℕ × Caught) → limbo ≡ [] → slice_get limbo place ≡ Some x → ⊥
nothing_there limbo place x e f = let none : slice_get [] place ≡ Some x = subst (λ l. slice_get l place ≡ Some x) e f in cc

pub way_is_honest : IsHonestTraffic on_its_way
way_is_honest = record {
  in_channels = on_the_way (λ c x. IsHonest on_its_way x) frame_honest;
  in_limbo = λ place serial caught e. absurd (nothing_there _ place (serial, caught) way_limbo e);
}

-- the same frame where nothing was sent
nothing_sent : frame_of (connection 0 1 0) (sent_on (new_world two_hosts) (connection 0 1 0)) 0 ≡ None
nothing_sent = refl

not_there : (o : Option (FrameHead × List ℕ)) (x : FrameHead × List ℕ) → o ≡ None → o ≡ Some x → ⊥
not_there o x e f = cc

pub unsent_is_not_honest : ¬ IsHonest (new_world two_hosts) abc_frame
unsent_is_not_honest t = not_there _ (abc, part_in abc_bytes) nothing_sent (t.frames abc abc_bytes refl frame_body frame_head)

-- settled worlds
first_numbers : (c : ConnectionKey) → (sender_on (new_world two_hosts) c).base ≡ (sender_on (new_world two_hosts) c).next
first_numbers c =
    ap (λ l. l.sender.base) (first_lane c.src (sending_lane c)) ∙ sym (ap (λ l. l.sender.next) (first_lane c.src (sending_lane c)))

pub first_is_settled : IsSettled (new_world two_hosts)
first_is_settled = record { connections = λ c l m. all_acknowledged (first_numbers c) }

unserved_waits : IsWaiting unserved (connection 0 1 0)
unfolding sends host_try loop_try ask begun closed provided_by sent_by polled_by drain clear hear part_try install to_send packet_for after_sending round_pass round settle lost was_reset repeated held flipped replayed asked part_staged planned_strikes sent_out injected advanced expired gave_up applied
unserved_waits = record { place = 0; message = message (1 ∷ 2 ∷ []); first = refl; there = refl; not_taken = omega arith; not_begun = refl; no_token = refl }

two : host_count unserved ≡ 2
unfolding sends host_try loop_try ask begun closed provided_by sent_by polled_by drain clear hear part_try install to_send packet_for after_sending round_pass round settle lost was_reset repeated held flipped replayed asked part_staged planned_strikes sent_out injected advanced expired gave_up applied
two = refl

-- its sender has nothing else unacknowledged, and its receiver nothing at all
unserved_others : (lane : ℕ) → (lane ≡ 2 → ⊥) → (lane_at (node_at unserved 0) lane).sender.base ≡ (lane_at (node_at unserved 0) lane).sender.next
unfolding sends host_try loop_try ask begun closed provided_by sent_by polled_by drain clear hear part_try install to_send packet_for after_sending round_pass round settle lost was_reset repeated held flipped replayed asked part_staged planned_strikes sent_out injected advanced expired gave_up applied
unserved_others zero other = refl
unserved_others (suc zero) other = refl
unserved_others (suc (suc zero)) other = absurd (other refl)
unserved_others (suc (suc (suc zero))) other = refl
unserved_others (suc (suc (suc (suc lane)))) other = refl

unserved_receiver : AllByRecursion (λ (l : LaneState). l.sender.base ≡ l.sender.next) (node_at unserved 1).lanes
unfolding sends host_try loop_try ask begun closed provided_by sent_by polled_by drain clear hear part_try install to_send packet_for after_sending round_pass round settle lost was_reset repeated held flipped replayed asked part_staged planned_strikes sent_out injected advanced expired gave_up applied
unserved_receiver = (refl, (refl, (refl, (refl, tt))))

pub unserved_is_settled : IsSettled unserved
unserved_is_settled = record { connections = λ c l m. by c.src c.dst c.prio (subst (λ n. c.src < n) two l) (subst (λ n. c.dst < n) two m) }
  where
    by : (a b prio : ℕ) → a < 2 → b < 2 → IsSettledConnection unserved (connection a b prio)
    by zero zero prio l m = all_acknowledged (unserved_others (lane_of 0 prio) (λ e. omega (arith, e)))
    by zero (suc zero) zero l m = waiting unserved_waits
    by zero (suc zero) (suc prio) l m = all_acknowledged (unserved_others (lane_of 1 (suc prio)) (λ e. omega (arith, e)))
    by zero (suc (suc b)) prio l m = absurd (omega arith)
    by (suc zero) b prio l m =
        all_acknowledged (all-at (λ (l : LaneState). l.sender.base ≡ l.sender.next) (node_at unserved 1).lanes (lane_of b prio) new_lane unserved_receiver refl)
    by (suc (suc a)) b prio l m = absurd (omega arith)

-- a token fits the message of the frame that is on its way
way_hosts : host_count on_its_way ≡ 2
unfolding sends host_try loop_try ask begun closed provided_by sent_by polled_by drain clear hear part_try install to_send packet_for after_sending round_pass round settle lost was_reset repeated held flipped replayed asked part_staged planned_strikes sent_out injected advanced expired gave_up applied
way_hosts = refl

way_base : (sender_on on_its_way (connection 0 1 0)).base ≡ 0
unfolding sends host_try loop_try ask begun closed provided_by sent_by polled_by drain clear hear part_try install to_send packet_for after_sending round_pass round settle lost was_reset repeated held flipped replayed asked part_staged planned_strikes sent_out injected advanced expired gave_up applied
way_base = refl

way_next : (sender_on on_its_way (connection 0 1 0)).next ≡ 1
unfolding sends host_try loop_try ask begun closed provided_by sent_by polled_by drain clear hear part_try install to_send packet_for after_sending round_pass round settle lost was_reset repeated held flipped replayed asked part_staged planned_strikes sent_out injected advanced expired gave_up applied
way_next = refl

way_there : table_route (node_at on_its_way 0).table 1 ≡ Some (pos 3 ∷ [])
unfolding sends host_try loop_try ask begun closed provided_by sent_by polled_by drain clear hear part_try install to_send packet_for after_sending round_pass round settle lost was_reset repeated held flipped replayed asked part_staged planned_strikes sent_out injected advanced expired gave_up applied
way_there = refl

way_back : table_route (node_at on_its_way 1).table 0 ≡ Some (negsuc 2 ∷ [])
unfolding sends host_try loop_try ask begun closed provided_by sent_by polled_by drain clear hear part_try install to_send packet_for after_sending round_pass round settle lost was_reset repeated held flipped replayed asked part_staged planned_strikes sent_out injected advanced expired gave_up applied
way_back = refl

way_sent : sent_on on_its_way (connection 0 1 0) ≡ message (codes "ABC") ∷ []
unfolding sends host_try loop_try ask begun closed provided_by sent_by polled_by drain clear hear part_try install to_send packet_for after_sending round_pass round settle lost was_reset repeated held flipped replayed asked part_staged planned_strikes sent_out injected advanced expired gave_up applied
way_sent = refl

way_fits : port_fits (port_at (node_at on_its_way 1) 1) 3 0 ≡ true
unfolding sends host_try loop_try ask begun closed provided_by sent_by polled_by drain clear hear part_try install to_send packet_for after_sending round_pass round settle lost was_reset repeated held flipped replayed asked part_staged planned_strikes sent_out injected advanced expired gave_up applied
way_fits = refl

way_first : whole_below (sent_on on_its_way (connection 0 1 0)) (sender_on on_its_way (connection 0 1 0)).base ≡ 0
unfolding sends host_try loop_try ask begun closed provided_by sent_by polled_by drain clear hear part_try install to_send packet_for after_sending round_pass round settle lost was_reset repeated held flipped replayed asked part_staged planned_strikes sent_out injected advanced expired gave_up applied
way_first = refl

way_unbroken : is_broken on_its_way 0 1 ≡ false
unfolding sends host_try loop_try ask begun closed provided_by sent_by polled_by drain clear hear part_try install to_send packet_for after_sending round_pass round settle lost was_reset repeated held flipped replayed asked part_staged planned_strikes sent_out injected advanced expired gave_up applied
way_unbroken = refl

way_unbroken_back : is_broken on_its_way 1 0 ≡ false
unfolding sends host_try loop_try ask begun closed provided_by sent_by polled_by drain clear hear part_try install to_send packet_for after_sending round_pass round settle lost was_reset repeated held flipped replayed asked part_staged planned_strikes sent_out injected advanced expired gave_up applied
way_unbroken_back = refl

zero_one : (a b : ℕ) → a ≡ 0 → b ≡ 1 → a ≡ b → ⊥
zero_one a b e f g = omega arith

no_walk : (o : Option (List ℤ)) (walk : List ℤ) → o ≡ Some walk → o ≡ None → ⊥
no_walk o walk e f = cc

first_message : (m n : Message) → slice_get (m ∷ []) 0 ≡ Some n → m ≡ n
first_message m n e = cc

pub way_is_not_settled : ¬ IsSettled on_its_way
way_is_not_settled s = by (s.connections (connection 0 1 0) (subst (λ n. 0 < n) (sym way_hosts) (omega arith)) (subst (λ n. 1 < n) (sym way_hosts) (omega arith)))
  where
    takes : (m : Message) → message (codes "ABC") ≡ m → port_fits (port_at (node_at on_its_way 1) m.dport) (length m.body) m.prio ≡ false → ⊥
    takes m e f = let z : true ≡ false = sym way_fits ∙ subst (λ (x : Message). port_fits (port_at (node_at on_its_way 1) x.dport) (length x.body) x.prio ≡ false) (sym e) f in cc

    by : IsSettledConnection on_its_way (connection 0 1 0) → ⊥
    by (all_acknowledged e) = zero_one _ _ way_base way_next e
    by (no_route e) = no_walk _ _ way_there e
    by (no_route_back e) = no_walk _ _ way_back e
    by (cut e) = absurd (true≢false (sym e ∙ way_unbroken))
    by (cut_back e) = absurd (true≢false (sym e ∙ way_unbroken_back))
    by (waiting q) =
        let at_first : q.place ≡ 0 = q.first ∙ way_first in
        let there : slice_get (message (codes "ABC") ∷ []) 0 ≡ Some q.message = subst (λ ms. slice_get ms 0 ≡ Some q.message) way_sent (subst (λ k. slice_get (sent_on on_its_way (connection 0 1 0)) k ≡ Some q.message) at_first q.there) in
        let one : message (codes "ABC") ≡ q.message = first_message _ _ there in
        takes q.message one q.no_token
