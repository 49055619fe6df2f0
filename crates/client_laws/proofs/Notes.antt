-- What each change of a host makes of its tickets and sent events, with the notes of their tokens.
use Rattle.std.proofs.Common.{◌≡◌, ◌≢◌, ◌<◌, ◌≤◌, ◌+◌, ℕ, zero, suc, List, [], ◌∷◌, ◌++◌, map, length, take, drop, get_or, set, Option, Some, None, option_map, ◌⊎◌, inl, inr, refl, sym, ap, ◌∙◌, subst, arith}
use Rattle.std.specs.Prelude.{slice_get}
use Rattle.std.specs.List.{AllByRecursion}
use Rattle.std.proofs.lemmas.List.{take-append-drop, length-drop, get_or-set_other}
use Rattle.std.proofs.lemmas.Option.{same_Some}
use Rattle.net_defs.specs.Network.{Apart}
use Rattle.gm_defs.specs.declared.message.Message.{Message}
use Rattle.gm_defs.specs.declared.frame.FrameHead.{FrameHead}
use Rattle.gm_defs.specs.declared.token.Took.{Took}
use Rattle.gm_defs.specs.declared.token.Took.TheVariants.{NotNext, NoToken, Part, Whole}
use Rattle.gm_defs.specs.Body.{part_in}
use Rattle.gm_defs.specs.Fragment.{fragments, whole_below}
use Rattle.gm_defs.specs.Connection.{acknowledged}
use Rattle.gm_defs.specs.Token.{Sending, PortEvent, Sent, Received, PortState, sent_tokens}
use Rattle.gm_defs.specs.Port.{send_of, finished, delivered, sent_with}
use Rattle.gm_defs.proofs.Numbers.{below-up, more-below, below-few}
use Rattle.world_defs.specs.Lane.{LaneState, Ticket, new_lane, with_message, finished_by, lane_acknowledged, lane_expired, lane_sent_one, lane_answered, lane_after}
use Rattle.world_defs.specs.Node.{NodeState, Outgoing, Probe, TablePart, Reply, PartAnswer, FrameAnswer, Fragment, lane_count, lane_of, lane_at, with_lane, port_at, after_sending, with_expired, node_expired}
use Rattle.world_defs.specs.Hearing.{message_of, frame_lane, ack_lane, delivered_after, frame_took, all_finished}
use Rattle.world_defs.specs.Client.{ClientState, Called, Wanted, wanted_message, wanted_lane, client_bytes, send_accepted, send_refusal}
use Rattle.world_defs.specs.Sound.{IsPrefix, HasOwners}
use Rattle.world_defs.proofs.Lists.{each-set}
use Rattle.world_defs.proofs.Lanes.{lane_of-below}
use Rattle.ticket_laws.specs.Tickets.{IsTicketOf, AreTicketsOf, AreMatched}
use Rattle.ticket_laws.specs.Host.{send_in, AllApart}
use Rattle.ticket_laws.proofs.Lists.{get-front, get-last, get-drop}
use Rattle.ticket_laws.proofs.Matching.{same-or, ticket-send, tickets-long}
use Rattle.ticket_laws.proofs.Sendings.{under, under-none}
use Rattle.ticket_laws.proofs.Ports.{finish, finish-apart, at, at-here, first-finished}
use Rattle.ticket_laws.proofs.Hosts.{lane-new, raised, IsFinishing, finishing}
use Rattle.message_laws.specs.Unfinished.{send_at, tickets_on, unfinished_on, HasBytes}
use Rattle.message_laws.proofs.Lanes.{front-same}
use Rattle.message_laws.proofs.Heard.{IsHeard, quietly, of_frame, of_ack}
use Rattle.world_defs.proofs.Hearings.{all_finished-lanes}
use Rattle.message_laws.proofs.Calls.{CallDoes}
use Rattle.message_laws.proofs.HostTickets.{IsMatched, IsKnown, all-front, all-apart}
use Rattle.message_laws.proofs.Events.{AreAll, all-more, PortStill, port-same, called-still, finished-still, delivered-still, ports-same, ports-set}
use Rattle.client_laws.proofs.Moves.{open-there}
use Rattle.client_laws.specs.Noted.{Note, IsOfToken}

-- how many messages of a lane are acknowledged whole
abbrev done : LaneState → ℕ
done l = whole_below l.sent l.sender.base

-- the note of the ticket at a place of a lane: of the message at this place after the acknowledged ones
pub record IsNote (l : LaneState) (k i : ℕ) (o : Option Note) : Type 0 where
  pub of : Note
  pub known : o ≡ Some of
  pub lane : of.lane ≡ k
  pub place : of.place ≡ done l + i
  pub there : slice_get l.sent of.place ≡ Some of.message

pub record LaneNoted (N : ℕ → ℕ → Option Note) (k : ℕ) (l : LaneState) : Type 0 where
  pub each : (i : ℕ) (x : Ticket) → slice_get l.pending i ≡ Some x → IsNote l k i (N x.port x.token)

-- a sent event is of the message of its token's note
abbrev pub IsOf : (ℕ → ℕ → Option Note) → NodeState → ℕ → PortEvent → Type 0
IsOf N n port (Sent t b) = IsOfToken (λ k. (lane_at n k).sent) (λ k. done (lane_at n k)) port b (N port t)
IsOf N n port (Received t b from sport prio len) = Unit {0}

-- the tickets of a host and its sent events are noted
pub record Noted (N : ℕ → ℕ → Option Note) (n : NodeState) : Type 0 where
  pub lanes : (k : ℕ) → LaneNoted N k (lane_at n k)
  pub events : (port : ℕ) → AreAll (IsOf N n port) (port_at n port)

-- more is sent, and more is acknowledged
record LaneUp (p q : LaneState) : Type 0 where
  sent : IsPrefix p.sent q.sent
  more : done p ≤ done q

up-same : (p q : LaneState) → q.sent ≡ p.sent → q.sender.base ≡ p.sender.base → LaneUp p q
up-same p q e d = let same : done q ≡ done p = λ i. whole_below (e i) (d i) in record { sent = subst (IsPrefix p.sent) (sym e) (front-same p.sent); more = omega (arith, same) }

-- a lane whose tickets and messages stay
record LaneStays (p q : LaneState) : Type 0 where
  pending : q.pending ≡ p.pending
  sent : q.sent ≡ p.sent
  base : q.sender.base ≡ p.sender.base

lane-stays : (N : ℕ → ℕ → Option Note) (k : ℕ) (p q : LaneState) → LaneStays p q → LaneNoted N k p → LaneNoted N k q
lane-stays N k p q s is = record {
  each = λ i x e.
      let a : IsNote p k i (N x.port x.token) = is.each i x (ap (λ l. slice_get l i) (sym s.pending) ∙ e) in
      record { of = a.of; known = a.known; lane = a.lane; place = a.place ∙ (λ j. whole_below (sym s.sent j) (sym s.base j) + i); there = ap (λ l. slice_get l a.of.place) s.sent ∙ a.there };
}

stays-same : (p : LaneState) → LaneStays p p
stays-same p = record { pending = refl; sent = refl; base = refl }

stays-lanes : (n m : NodeState) → m.lanes ≡ n.lanes → (k : ℕ) → LaneStays (lane_at n k) (lane_at m k)
stays-lanes n m e k = subst (λ l. LaneStays (lane_at n k) (get_or l k new_lane)) (sym e) (stays-same (lane_at n k))

stays-set : (n m : NodeState) (k : ℕ) (q : LaneState) → m.lanes ≡ set n.lanes k q → LaneStays (lane_at n k) q → (j : ℕ) → LaneStays (lane_at n j) (lane_at m j)
stays-set n m k q e here j = subst (λ l. LaneStays (lane_at n j) (get_or l j new_lane)) (sym e) (each-set (λ i x. LaneStays (lane_at n i) x) n.lanes k j q new_lane here (λ i. stays-same (lane_at n i)))

-- an event of before is one of now
event-more : (N : ℕ → ℕ → Option Note) (n m : NodeState) → ((k : ℕ) → LaneUp (lane_at n k) (lane_at m k)) → (port : ℕ) (e : PortEvent) → IsOf N n port e → IsOf N m port e
event-more N n m more port (Received t b from sport prio len) is = tt
event-more N n m more port (Sent t b) is = record {
  of = is.of;
  known = is.known;
  there = ap (λ l. slice_get l is.of.place) (more is.of.lane).sent.both ∙ get-front (lane_at n is.of.lane).sent (more is.of.lane).sent.rest is.of.place is.of.message is.there;
  acknowledged = let low = is.acknowledged in let up = (more is.of.lane).more in omega (arith, low, up);
  from_port = is.from_port;
  bytes = is.bytes;
}

-- a change of a host that keeps notes
pub record Still (n m : NodeState) : Type 0 where
  pub still : (N : ℕ → ℕ → Option Note) → Noted N n → Noted N m

-- tickets and messages stay, and no event comes that isn't of a note
stays-still : (n m : NodeState) → ((k : ℕ) → LaneStays (lane_at n k) (lane_at m k)) → ((N : ℕ → ℕ → Option Note) (port : ℕ) → PortStill (IsOf N m port) (port_at n port) (port_at m port)) → Still n m
stays-still n m lanes ports = record {
  still = λ N is. record {
    lanes = λ k. lane-stays N k (lane_at n k) (lane_at m k) (lanes k) (is.lanes k);
    events = λ port. (ports N port).still (all-more (IsOf N n port) (IsOf N m port) (event-more N n m (λ k. up-same (lane_at n k) (lane_at m k) (lanes k).sent (lanes k).base) port) (port_at n port) (is.events port));
  };
}

pub quiet-still : (n m : NodeState) → m.lanes ≡ n.lanes → m.ports ≡ n.ports → Still n m
quiet-still n m e f = stays-still n m (stays-lanes n m e) (λ N. ports-same (IsOf N m) n m f)

lane-still : (n : NodeState) (k : ℕ) (q : LaneState) → LaneStays (lane_at n k) q → Still n (with_lane n k q)
lane-still n k q here = stays-still n (with_lane n k q) (stays-set n (with_lane n k q) k q refl here) (λ N. ports-same (IsOf N (with_lane n k q)) n (with_lane n k q) refl)

-- the message of the first ticket
first-message : (S : Ticket → Option Sending) (t : Ticket) (rest : List Ticket) (ms : List Message) → AreTicketsOf HasBytes S (t ∷ rest) ms → (x : Message) × ((slice_get ms 0 ≡ Some x) × IsTicketOf HasBytes S t x)
first-message S t rest [] are = absurd are
first-message S t rest (x ∷ ms) are = (x, (refl, are.0))

same-buffer : (a b : Sending) → Some a ≡ Some b → a.buffer ≡ b.buffer
same-buffer a b e = cc

-- sends of messages are finished, each by its ticket
finished-all : (E : ℕ → PortEvent → Type 0) (n : NodeState) (P : ℕ → List Ticket) (U : ℕ → List Message) (k : ℕ) (ts rest : List Ticket) → P k ≡ ts ++ rest → AllApart n.ports → AreMatched HasBytes (send_at n) P U
    → ((i : ℕ) (x : Message) (t : Ticket) → slice_get ts i ≡ Some t → slice_get (U k) i ≡ Some x → t.port ≡ x.sport → E t.port (Sent t.token x.body)) → (port : ℕ) → PortStill (E port) (port_at n port) (port_at (all_finished n ts) port)
finished-all E n P U k [] rest e apart is new port = port-same (E port) (port_at n port)
finished-all E n P U k (t ∷ ts) rest e apart is new port =
    let m : NodeState = finish n t in
    let Q : ℕ → List Ticket = at k (ts ++ rest) P in
    let V : ℕ → List Message = at k (drop 1 (U k)) U in
    let o : Option PortState = option_map (λ p. finished p t.token) (port_at n t.port) in
    let first = first-message (send_at n) t (ts ++ rest) (U k) (subst (λ l. AreTicketsOf HasBytes (send_at n) l (U k)) e (is.of_messages k)) in
    let x : Message = first.0 in
    let sent : E t.port (Sent t.token x.body) = new 0 x t refl first.1.0 first.1.1.port in
    let ended : (p : PortState) (s : Sending) → port_at n t.port ≡ Some p → send_of p t.token ≡ Some s → E t.port (Sent t.token s.buffer) = λ p s a b.
    subst (λ z. E t.port (Sent t.token z)) (sym first.1.1.bytes ∙ same-buffer (record { token = t.token; buffer = first.1.1.buffer }) s (sym first.1.1.there ∙ (ap (λ z. send_in z t.token) a ∙ b))) sent in
    let one : PortStill (E port) (port_at n port) (port_at m port) = ports-set E n m t.port o refl (finished-still (E t.port) t.token (port_at n t.port) ended) port in
    let more : PortStill (E port) (port_at m port) (port_at (all_finished m ts) port) =
    finished-all E m Q V k ts rest (at-here k (ts ++ rest) P) (finish-apart n t apart) (first-finished HasBytes n P U k t (ts ++ rest) e apart is)
    (λ i y u there d port_is. let s : 1 + i ≡ suc i = omega arith in new (suc i) y u there (ap (slice_get (U k)) (sym s) ∙ get-drop 1 (U k) i y (ap (λ l. slice_get l i) (sym (at-here k (drop 1 (U k)) U)) ∙ d)) port_is)
    port in
    record { still = λ a. more.still (one.still a) }

-- what stands in the front of a list
get-take : {X : Type 0} (c : ℕ) (xs : List X) (i : ℕ) (x : X) → slice_get (take c xs) i ≡ Some x → (slice_get xs i ≡ Some x) × (i < c)
get-take zero xs i x e = cc
get-take (suc c) [] i x e = cc
get-take (suc c) (y ∷ xs) zero x e = (e, omega arith)
get-take (suc c) (y ∷ xs) (suc i) x e = let r = get-take c xs i x e in (r.0, let low = r.1 in omega (arith, low))

-- an element after a list
get-push : {X : Type 0} (xs : List X) (y : X) (i : ℕ) (x : X) → slice_get (xs ++ y ∷ []) i ≡ Some x → (slice_get xs i ≡ Some x) ⊎ ((i ≡ length xs) × (y ≡ x))
get-push [] y zero x e = inr (refl, same_Some y x e)
get-push [] y (suc i) x e = cc
get-push (z ∷ xs) y zero x e = inl e
get-push (z ∷ xs) y (suc i) x e = by (get-push xs y i x e)
  where
    by : (slice_get xs i ≡ Some x) ⊎ ((i ≡ length xs) × (y ≡ x)) → (slice_get (z ∷ xs) (suc i) ≡ Some x) ⊎ ((suc i ≡ length (z ∷ xs)) × (y ≡ x))
    by (inl d) = inl d
    by (inr d) = inr (ap suc d.0, d.1)

all-back : {X : Type 0} (P : X → Type 0) (xs ys : List X) → AllByRecursion P (xs ++ ys) → AllByRecursion P ys
all-back P [] ys all = all
all-back P (x ∷ xs) ys all = all-back P xs ys all.1

module _ (n : NodeState) (client : ℕ → Option ClientState) (hosts : ℕ) (known : IsKnown n client hosts) where
  -- an acknowledgement
  acknowledged-still : (k next : ℕ) → k < lane_count hosts → IsMatched n → Still n (all_finished (with_lane n k (lane_acknowledged (lane_at n k) next)) (take (finished_by (lane_at n k) next) (lane_at n k).pending))
  acknowledged-still k next low is = record { still = by }
    where
      p : LaneState
      p = lane_at n k

      q : LaneState
      q = lane_acknowledged p next

      count : ℕ
      count = finished_by p next

      gone : List Ticket
      gone = take count p.pending

      before : NodeState
      before = with_lane n k q

      m : NodeState
      m = all_finished before gone

      f : IsFinishing n k next
      f = finishing HasBytes n k next (known.senders k) (subst (λ count. k < count) (sym known.lanes) low) is

      lanes : m.lanes ≡ set n.lanes k q
      lanes = all_finished-lanes before gone

      now : lane_at m k ≡ q
      now = lane-new n m k q lanes f.there

      up : (j : ℕ) → LaneUp (lane_at n j) (lane_at m j)
      up j = subst (λ l. LaneUp (lane_at n j) (get_or l j new_lane)) (sym lanes)
          (each-set (λ i x. LaneUp (lane_at n i) x) n.lanes k j q new_lane
          (record { sent = front-same p.sent; more = below-up p.sent p.sender.base (acknowledged p.sender next).base (raised p.sender next (known.senders k)).up })
          (λ i. up-same (lane_at n i) (lane_at n i) refl refl))

      by : (N : ℕ → ℕ → Option Note) → Noted N n → Noted N m
      by N noted = record {
        lanes = λ j. subst (λ l. LaneNoted N j (get_or l j new_lane)) (sym lanes) (each-set (λ i x. LaneNoted N i x) n.lanes k j q new_lane left noted.lanes);
        events = λ port. (finished-all (IsOf N m) before (tickets_on n) (unfinished_on n) k gone (drop count p.pending) (sym (take-append-drop count p.pending)) (all-apart n client hosts known) is returned port).still
            (all-more (IsOf N n port) (IsOf N m port) (event-more N n m up port) (port_at n port) (noted.events port));
      }
        where
          counted : done p + count ≡ done q
          counted = f.counted

          left : LaneNoted N k q
          left = record {
            each = λ i x e.
                let a : IsNote p k (count + i) (N x.port x.token) = (noted.lanes k).each (count + i) x (get-drop count p.pending i x e) in
                let place = a.place in
                record { of = a.of; known = a.known; lane = a.lane; place = omega (arith, place, counted); there = a.there };
          }

          returned : (i : ℕ) (x : Message) (t : Ticket) → slice_get gone i ≡ Some t → slice_get (unfinished_on n k) i ≡ Some x → t.port ≡ x.sport → IsOf N m t.port (Sent t.token x.body)
          returned i x t e d port_is =
              let g = get-take count p.pending i t e in
              let a : IsNote p k i (N t.port t.token) = (noted.lanes k).each i t g.0 in
              let place = a.place in
              let below = g.1 in
              let at_place : slice_get p.sent a.of.place ≡ Some x = ap (slice_get p.sent) place ∙ get-drop (done p) p.sent i x d in
              let same : a.of.message ≡ x = same_Some a.of.message x (sym a.there ∙ at_place) in
              let here : lane_at m a.of.lane ≡ q = ap (lane_at m) a.lane ∙ now in
              let whole : done (lane_at m a.of.lane) ≡ done q = ap done here in
              record {
                of = a.of;
                known = a.known;
                there = ap (λ (l : LaneState). slice_get l.sent a.of.place) here ∙ a.there;
                acknowledged = omega (arith, place, below, counted, whole);
                from_port = ap (λ (y : Message). y.sport) same ∙ sym port_is;
                bytes = ap (λ (y : Message). y.body) (sym same);
              }

  frame-still : (h : FrameHead) (part : List ℕ) (t : Took) → Still n (delivered_after (with_lane n (frame_lane h) (lane_after (lane_at n (frame_lane h)) t (message_of h part))) h part t)
  frame-still h part NotNext = lane-still n (frame_lane h) (lane_after (lane_at n (frame_lane h)) NotNext (message_of h part)) (record { pending = refl; sent = refl; base = refl })
  frame-still h part NoToken = lane-still n (frame_lane h) (lane_after (lane_at n (frame_lane h)) NoToken (message_of h part)) (record { pending = refl; sent = refl; base = refl })
  frame-still h part Part =
      let q : LaneState = lane_after (lane_at n (frame_lane h)) Part (message_of h part) in
      let m : NodeState = delivered_after (with_lane n (frame_lane h) q) h part Part in
      stays-still n m (stays-set n m (frame_lane h) q refl (record { pending = refl; sent = refl; base = refl }))
      (λ N. ports-set (IsOf N m) n m h.dport (option_map (λ p. delivered p h part) (port_at n h.dport)) refl (delivered-still (IsOf N m h.dport) h part (port_at n h.dport) (λ p r e d t. tt)))
  frame-still h part Whole =
      let q : LaneState = lane_after (lane_at n (frame_lane h)) Whole (message_of h part) in
      let m : NodeState = delivered_after (with_lane n (frame_lane h) q) h part Whole in
      stays-still n m (stays-set n m (frame_lane h) q refl (record { pending = refl; sent = refl; base = refl }))
      (λ N. ports-set (IsOf N m) n m h.dport (option_map (λ p. delivered p h part) (port_at n h.dport)) refl (delivered-still (IsOf N m h.dport) h part (port_at n h.dport) (λ p r e d t. tt)))

  pub heard-still : (host : ℕ) (wire : List ℕ) (m : NodeState) → IsMatched n → IsHeard host hosts n wire m → Still n m
  heard-still host wire m is (quietly e f) = quiet-still n m e f
  heard-still host wire m is (of_frame body h e d mine low now) = subst (Still n) (sym now) (frame-still h (part_in body) (frame_took n h))
  heard-still host wire m is (of_ack body a e d mine low now) = subst (Still n) (sym now) (acknowledged-still (ack_lane a) a.next (lane_of-below hosts a.src a.prio low) is)

  -- A message is accepted with a token that the client had: the token's note is of this message then, and the others stay.
  pub accepted-noted : (s : Wanted) (p : PortState) (c : ClientState) (t : ℕ) (ts : List ℕ) → port_at n s.port ≡ Some p → c.sends ≡ t ∷ ts → HasOwners p c → send_refusal n s ≡ None → IsMatched n
      → (N M : ℕ → ℕ → Option Note) → M s.port t ≡ Some (record { lane = wanted_lane s; place = length (lane_at n (wanted_lane s)).sent; message = wanted_message s }) → ((port u : ℕ) → (port ≡ s.port → u ≡ t → ⊥) → M port u ≡ N port u) → Noted N n → Noted M (send_accepted n s p c t ts).node
  accepted-noted s p c t ts e f own none is N M here other noted = record {
    lanes = λ j. subst (LaneNoted M j) refl (each-set (λ i x. LaneNoted M i x) n.lanes k j q new_lane pushed old);
    events = λ port. events port (same-or port s.port);
  }
    where
      k : ℕ
      k = wanted_lane s

      l : LaneState
      l = lane_at n k

      ticket : Ticket
      ticket = record { port = s.port; token = t }

      q : LaneState
      q = with_message l (wanted_message s) ticket

      m : NodeState
      m = (send_accepted n s p c t ts).node

      apart : AllByRecursion (λ y. t ≢ y) (ts ++ (map (λ (x : Sending). x.token) p.queue ++ sent_tokens p.events))
      apart = (subst (λ l. Apart (l ++ (map (λ (x : Sending). x.token) p.queue ++ sent_tokens p.events))) f own.sends.once).0

      behind : AllByRecursion (λ y. t ≢ y) (map (λ (x : Sending). x.token) p.queue ++ sent_tokens p.events)
      behind = all-back (λ y. t ≢ y) ts (map (λ (x : Sending). x.token) p.queue ++ sent_tokens p.events) apart

      free : under t p.queue ≡ None
      free = under-none t p.queue (all-front (λ y. t ≢ y) (map (λ (x : Sending). x.token) p.queue) (sent_tokens p.events) behind)

      unsent : AllByRecursion (λ y. t ≢ y) (sent_tokens p.events)
      unsent = all-back (λ y. t ≢ y) (map (λ (x : Sending). x.token) p.queue) (sent_tokens p.events) behind

      -- no ticket is of the token
      no-ticket : (j i : ℕ) (x : Ticket) → slice_get (lane_at n j).pending i ≡ Some x → x.port ≡ s.port → x.token ≡ t → ⊥
      no-ticket j i x d a b =
          let send = ticket-send HasBytes (send_at n) (tickets_on n j) (unfinished_on n j) i x (is.of_messages j) d in
          let gone : send_at n x ≡ None = (λ w. send_in (port_at n (a w)) (b w)) ∙ ap (λ o. send_in o t) e ∙ free in
          none-some send.0 (sym gone ∙ send.1)
        where
          none-some : (y : Sending) → None ≡ Some y → ⊥
          none-some y z = cc

      old : (j : ℕ) → LaneNoted M j (lane_at n j)
      old j = record { each = λ i x d. subst (IsNote (lane_at n j) j i) (sym (other x.port x.token (no-ticket j i x d))) ((noted.lanes j).each i x d) }

      within : l.sender.base ≤ length (fragments l.sent)
      within =
          let sender = known.senders k in
          let a = sender.base_below in
          let b = sender.cursor_below in
          let d = sender.top_below in
          let long = (known.numbered k).numbered in
          omega (arith, a, b, d, long)

      same-done : done q ≡ done l
      same-done = (more-below l.sent (wanted_message s ∷ []) l.sender.base within).0

      pushed : LaneNoted M k q
      pushed = record { each = λ i x d. by i x (get-push l.pending ticket i x d) }
        where
          by : (i : ℕ) (x : Ticket) → (slice_get l.pending i ≡ Some x) ⊎ ((i ≡ length l.pending) × (ticket ≡ x)) → IsNote q k i (M x.port x.token)
          by i x (inl d) =
              let a : IsNote l k i (M x.port x.token) = (old k).each i x d in
              let place = a.place in
              record { of = a.of; known = a.known; lane = a.lane; place = omega (arith, place, same-done); there = get-front l.sent (wanted_message s ∷ []) a.of.place a.of.message a.there }
          by i x (inr d) =
              let of : Note = record { lane = k; place = length l.sent; message = wanted_message s } in
              let many = tickets-long HasBytes (send_at n) (tickets_on n k) (unfinished_on n k) (is.of_messages k) in
              let long = length-drop (done l) l.sent in
              let few = below-few l.sent l.sender.base in
              let at = d.0 in
              record {
                of = of;
                known = ap (λ (y : Ticket). M y.port y.token) (sym d.1) ∙ here;
                lane = refl;
                place = omega (arith, many, long, few, at, same-done);
                there = get-last l.sent (wanted_message s);
              }

      up : (j : ℕ) → LaneUp (lane_at n j) (lane_at m j)
      up j = each-set (λ i x. LaneUp (lane_at n i) x) n.lanes k j q new_lane (record { sent = record { rest = wanted_message s ∷ []; both = refl }; more = omega (arith, same-done) }) (λ i. up-same (lane_at n i) (lane_at n i) refl refl)

      now : (port : ℕ) (y : PortEvent) → ((u : ℕ) (b : List ℕ) → y ≡ Sent u b → M port u ≡ N port u) → IsOf N n port y → IsOf M m port y
      now port (Received u b from sport prio len) same a = tt
      now port (Sent u b) same a = subst (IsOfToken (λ j. (lane_at m j).sent) (λ j. done (lane_at m j)) port b) (sym (same u b refl)) (event-more N n m up port (Sent u b) a)

      here-all : (es : List PortEvent) → AllByRecursion (λ y. t ≢ y) (sent_tokens es) → AllByRecursion (IsOf N n s.port) es → AllByRecursion (IsOf M m s.port) es
      here-all [] un all = tt
      here-all (Sent u b ∷ es) un all = (now s.port (Sent u b) (λ v d g. other s.port v (λ x y. un.0 (sym y ∙ token-of v u b d g))) all.0, here-all es un.1 all.1)
        where
          token-of : (v u : ℕ) (b d : List ℕ) → Sent u b ≡ Sent v d → v ≡ u
          token-of v u b d g = cc
      here-all (Received u b from sport prio len ∷ es) un all = (tt, here-all es un all.1)

      events : (port : ℕ) → (port ≡ s.port) ⊎ (port ≢ s.port) → AreAll (IsOf M m port) (port_at m port)
      events port (inl same) =
          let before : AllByRecursion (IsOf N n s.port) p.events = subst (AreAll (IsOf N n s.port)) e (noted.events s.port) in
          let after : AreAll (IsOf M m s.port) (Some (sent_with p t (client_bytes s.len s.seed))) = here-all p.events unsent before in
          subst (λ j. AreAll (IsOf M m j) (port_at m j)) (sym same) (subst (AreAll (IsOf M m s.port)) (sym (open-there n.ports s.port p (Some (sent_with p t (client_bytes s.len s.seed))) e)) after)
      events port (inr apart_from) =
          subst (AreAll (IsOf M m port)) (sym (get_or-set_other n.ports s.port port (Some (sent_with p t (client_bytes s.len s.seed))) None apart_from))
          (all-more (IsOf N n port) (IsOf M m port) (λ y. now port y (λ u b g. other port u (λ x z. apart_from x))) (port_at n port) (noted.events port))

module _ (n : NodeState) where
  pub sending-still : (out : Outgoing) → Still n (after_sending n out)
  unfolding after_sending
  sending-still (Probe walk looped) = quiet-still n (record n { staged = None }) refl refl
  sending-still (TablePart part by) = quiet-still n (record n { staged = None }) refl refl
  sending-still (Reply r) = quiet-still n (record n { reply = None }) refl refl
  sending-still (PartAnswer a) = quiet-still n (record n { part_ack = None }) refl refl
  sending-still (FrameAnswer lane next by) = lane-still n lane (lane_answered (lane_at n lane)) (record { pending = refl; sent = refl; base = refl })
  sending-still (Fragment lane head part by) = lane-still n lane (lane_sent_one (lane_at n lane)) (record { pending = refl; sent = refl; base = refl })

  expired-still : (lane : ℕ) → Still n (with_expired n lane)
  expired-still lane = lane-still n lane (lane_expired (lane_at n lane)) (record { pending = refl; sent = refl; base = refl })

  -- a call that changes no lane
  pub call-still : {c : Option ClientState} {port : ℕ} {call : Called} → CallDoes n c port call → call.node.lanes ≡ n.lanes → Still n call.node
  call-still (CallDoes.at_port {port = port} {call = call} i d) e = stays-still n call.node (stays-lanes n call.node e) (λ N. ports-set (IsOf N call.node) n call.node port i.after i.ports (called-still (IsOf N call.node port) (port_at n port) i.after i.change))
  call-still (CallDoes.accepts s p d t ts e f g k) same =
      let m : NodeState = (send_accepted n s p d t ts).node in
      stays-still n m (stays-lanes n m same) (λ N. ports-set (IsOf N m) n m s.port (Some (sent_with p t (client_bytes s.len s.seed))) refl (record { still = λ a. subst (AreAll (IsOf N m s.port)) e a }))

pub expires-still : (n : NodeState) (peer : ℕ) → Still n (node_expired n peer)
expires-still n peer =
    let m : NodeState = with_expired n (lane_of peer 0) in
    record { still = λ N is. (expired-still m (lane_of peer 1)).still N ((expired-still n (lane_of peer 0)).still N is) }
