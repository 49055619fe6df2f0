-- What an act leaves of a host's messages and tokens: what is sent comes from a port and goes to a host with a route, what is got names a port and a priority, and so does what is provided.
use Rattle.std.proofs.Common.{◌≡◌, ◌<◌, ◌-◌, ℕ, zero, suc, Bool, true, false, ◌&&◌, List, [], ◌∷◌, ◌++◌, length, get_or, min, nat_eq, nat_lt, nat_le, is_none, is_some, Option, Some, None, option_map, Ok, Err, inl, inr, refl, sym, ap, ◌∙◌, subst, arith, true≢false, if◌then◌else◌}
use Rattle.std.specs.List.{AllByRecursion}
use Rattle.std.proofs.lemmas.Bool.Decides.{nat_tests}
use Rattle.net_defs.proofs.Distinct.{all-push}
use Rattle.gm_defs.specs.declared.message.Message.{Message}
use Rattle.gm_defs.specs.declared.frame.FrameHead.{FrameHead}
use Rattle.gm_defs.specs.declared.frame.GmBody.TheVariants.{Frame, Ack as Acknowledges}
use Rattle.gm_defs.specs.declared.token.Took.{Took}
use Rattle.gm_defs.specs.declared.token.Took.TheVariants.{NotNext, NoToken, Part, Whole}
use Rattle.gm_defs.specs.Body.{piece, message_limit, number_limit, is_last, frame_length, head_in, ack_in, part_in, begins_with, is_offset, is_head, is_frame, is_ack, decode}
use Rattle.gm_defs.specs.Token.{PortState, Provided, Sending, takes_at, taker}
use Rattle.gm_defs.specs.Port.{filling_with, ended_with, going_on_with, send_of, ended_by, finished, taken_by, delivered}
use Rattle.gm_defs.proofs.Choices.{chosen}
use Rattle.gm_defs.proofs.Found.{all-left, all-replaced}
use Rattle.world_defs.specs.declared.client.ClientCause.TheVariants.{TooLong, NoRoute, Spent}
use Rattle.world_defs.specs.Table.{table_route}
use Rattle.world_defs.specs.Lane.{LaneState, Ticket, new_lane, with_message, lane_acknowledged, lane_expired, lane_sent_one, lane_answered, tickets_finished, ending, got_after, lane_after}
use Rattle.world_defs.specs.Node.{NodeState, Outgoing, Probe, TablePart, Reply, PartAnswer, FrameAnswer, Fragment, lane_of, lane_at, lane_route, with_lane, port_at, with_port, after_sending, with_expired, node_expired}
use Rattle.world_defs.specs.Hearing.{message_of, frame_lane, ack_lane, delivered_after, frame_heard, frame_took, all_finished, hear}
use Rattle.world_defs.specs.Client.{ClientState, Called, Wanted, wanted_message, wanted_lane}
use Rattle.world_defs.proofs.Lanes.{peer_of-lane}
use Rattle.world_defs.proofs.Lists.{each-set}
use Rattle.world_defs.proofs.Calls.{Call}
use Rattle.world_laws.proofs.Lists.{at-set}
use Rattle.world_defs.proofs.Hearings.{delivered_after-lanes, all_finished-lanes}
use Rattle.message_laws.proofs.Heard.{IsHeard, quietly, of_frame, of_ack, hear-is}

-- a message names a port of its receiver, and a priority
pub record IsFor (m : Message) : Type 0 where
  pub port : m.dport < 8
  pub priority : m.prio < 2

-- the tokens that an open port was provided have priorities
abbrev pub PortFits : Option PortState → Type 0
PortFits None = Unit {0}
PortFits (Some p) = AllByRecursion (λ r. r.prio < 2) p.provided

-- what is sent by a lane: as before, or a message more, from a port of the host, and the table has a route to its peer
pub data SentSo (n : NodeState) (lane : ℕ) (old new : List Message) : Type 0 where
  same : new ≡ old → SentSo n lane old new
  more : (m : Message) → new ≡ old ++ m ∷ [] → m.sport < length n.ports → is_some (lane_route n lane) ≡ true → SentSo n lane old new

-- a change of a host
pub record NodeSays (n m : NodeState) : Type 0 where
  pub sent : (p : ℕ) → SentSo n p (lane_at n p).sent (lane_at m p).sent
  pub got : (p : ℕ) → AllByRecursion IsFor (lane_at n p).got → AllByRecursion IsFor (lane_at m p).got
  pub ports : (port : ℕ) → PortFits (port_at n port) → PortFits (port_at m port)

pub says-quiet : (n m : NodeState) → m.lanes ≡ n.lanes → m.ports ≡ n.ports → NodeSays n m
says-quiet n m e f = record {
  sent = λ p. SentSo.same (ap (λ l. (get_or l p new_lane).sent) e);
  got = λ p all. subst (λ l. AllByRecursion IsFor (get_or l p new_lane).got) (sym e) all;
  ports = λ port fit. subst (λ l. PortFits (get_or l port None)) (sym f) fit;
}

-- a call that changes a port alone
pub says-port : (n m : NodeState) → m.lanes ≡ n.lanes → ((port : ℕ) → PortFits (port_at n port) → PortFits (port_at m port)) → NodeSays n m
says-port n m e k = record {
  sent = λ p. SentSo.same (ap (λ l. (get_or l p new_lane).sent) e);
  got = λ p all. subst (λ l. AllByRecursion IsFor (get_or l p new_lane).got) (sym e) all;
  ports = k;
}

-- one lane, whose messages sent stay, and then ports
says-lane : (n m : NodeState) (k : ℕ) (q : LaneState) → m.lanes ≡ (with_lane n k q).lanes → q.sent ≡ (lane_at n k).sent → (AllByRecursion IsFor (lane_at n k).got → AllByRecursion IsFor q.got) → ((port : ℕ) → PortFits (port_at n port) → PortFits (port_at m port)) → NodeSays n m
says-lane n m k q e s g f = record {
  sent = λ p. SentSo.same (ap (λ l. (get_or l p new_lane).sent) e ∙ at-set (λ a b. b.sent ≡ a.sent) (λ a. refl) n.lanes k p q new_lane s);
  got = λ p all. subst (λ l. AllByRecursion IsFor (get_or l p new_lane).got) (sym e) (at-set (λ a b. AllByRecursion IsFor a.got → AllByRecursion IsFor b.got) (λ a x. x) n.lanes k p q new_lane g all);
  ports = f;
}

-- one port
pub port-fits : (n : NodeState) (k : ℕ) (o : Option PortState) → (PortFits (port_at n k) → PortFits o) → (port : ℕ) → PortFits (port_at n port) → PortFits (port_at (with_port n k o) port)
port-fits n k o f port fit = at-set (λ a b. PortFits a → PortFits b) (λ a x. x) n.ports k port o None f fit

-- a frame
delivered-fits : (h : FrameHead) (part : List ℕ) (o : Option PortState) → PortFits o → PortFits (option_map (λ p. delivered p h part) o)
delivered-fits h part None fit = tt
delivered-fits h part (Some p) fit = by (taker p h) refl
  where
    taken : (r : Provided) (b : Bool) → taker p h ≡ Some r → PortFits (Some (if b then ended_with p h part r else going_on_with p h part r))
    taken r true e = all-left (λ x. x.prio < 2) (takes_at p h) p.provided fit
    taken r false e = all-replaced (λ x. x.prio < 2) (takes_at p h) p.provided r (filling_with h part r) e (λ low. low) fit

    by : (o : Option Provided) → taker p h ≡ o → PortFits (Some (taken_by p h part o))
    by None e = fit
    by (Some r) e = taken r (is_last h.total h.offset) e

delivered_after-fits : (n : NodeState) (h : FrameHead) (part : List ℕ) (t : Took) (port : ℕ) → PortFits (port_at n port) → PortFits (port_at (delivered_after n h part t) port)
delivered_after-fits n h part NotNext port fit = fit
delivered_after-fits n h part NoToken port fit = fit
delivered_after-fits n h part Part port fit = port-fits n h.dport (option_map (λ p. delivered p h part) (port_at n h.dport)) (delivered-fits h part (port_at n h.dport)) port fit
delivered_after-fits n h part Whole port fit = port-fits n h.dport (option_map (λ p. delivered p h part) (port_at n h.dport)) (delivered-fits h part (port_at n h.dport)) port fit

-- parts of a conjunction
third : (a b c d : Bool) → (a && b && c && d) ≡ true → c ≡ true
third a b true d e = refl
third true true false d e = absurd (true≢false (sym e))
third true false false d e = absurd (true≢false (sym e))
third false b false d e = absurd (true≢false (sym e))

port-part : (a b c d e f g : Bool) → (a && b && c && d && e && f && g) ≡ true → b ≡ true
port-part a true c d e f g h = refl
port-part true false c d e f g h = absurd (true≢false (sym h))
port-part false false c d e f g h = absurd (true≢false (sym h))

prio-part : (a b c d e f g : Bool) → (a && b && c && d && e && f && g) ≡ true → c ≡ true
prio-part a b true d e f g h = refl
prio-part true true false d e f g h = absurd (true≢false (sym h))
prio-part true false false d e f g h = absurd (true≢false (sym h))
prio-part false b false d e f g h = absurd (true≢false (sym h))

-- what is read as a frame names a port and a priority
pub read-head : (body : List ℕ) (h : FrameHead) → decode body ≡ Ok (Frame h) → is_head h ≡ true
read-head body h e =
    elim (chosen (is_frame body) (Ok (Frame (head_in body))) (if is_ack body then Ok (Acknowledges (ack_in body)) else Err (record {})) (Ok (Frame h)) e) [
      | inl p ↦ let q = p.1 in let same : head_in body ≡ h = cc in subst (λ x. is_head x ≡ true) same (third (nat_le frame_length (length body)) (begins_with 1 body) (is_head (head_in body)) (nat_eq (length (part_in body)) (head_in body).len) p.0)
      | inr p ↦ elim (chosen (is_ack body) (Ok (Acknowledges (ack_in body))) (Err (record {})) (Ok (Frame h)) p.1) [ inl q ↦ let r = q.1 in absurd cc | inr q ↦ let r = q.1 in absurd cc ]
    ]

head-for : (h : FrameHead) (part : List ℕ) → is_head h ≡ true → IsFor (message_of h part)
head-for h part e =
    let port : nat_lt h.dport 8 ≡ true = port-part (nat_lt h.sport 8) (nat_lt h.dport 8) (nat_lt h.prio 2) (nat_lt h.seq number_limit) (nat_le h.total message_limit) (is_offset h.total h.offset) (nat_eq h.len (min piece (h.total - h.offset))) e in
    let prio : nat_lt h.prio 2 ≡ true = prio-part (nat_lt h.sport 8) (nat_lt h.dport 8) (nat_lt h.prio 2) (nat_lt h.seq number_limit) (nat_le h.total message_limit) (is_offset h.total h.offset) (nat_eq h.len (min piece (h.total - h.offset))) e in
    record { port = grind (arith, nat_tests); priority = grind (arith, nat_tests) }

got-for : (got : List Message) (coming : List ℕ) (t : Took) (m : Message) → IsFor m → AllByRecursion IsFor got → AllByRecursion IsFor (got_after got coming t m)
got-for got coming NotNext m is all = all
got-for got coming NoToken m is all = all
got-for got coming Part m is all = all
got-for got coming Whole m is all = all-push IsFor got (ending coming m) all (record { port = is.port; priority = is.priority })

frame-says : (n : NodeState) (h : FrameHead) (part : List ℕ) (t : Took) → is_head h ≡ true → NodeSays n (frame_heard n h part t).1
frame-says n h part t e =
    let q : LaneState = lane_after (lane_at n (frame_lane h)) t (message_of h part) in
    says-lane n _ (frame_lane h) q (delivered_after-lanes (with_lane n (frame_lane h) q) h part t) refl (got-for (lane_at n (frame_lane h)).got (lane_at n (frame_lane h)).coming t (message_of h part) (head-for h part e)) (delivered_after-fits (with_lane n (frame_lane h) q) h part t)

-- an acknowledgement
ended-fits : (p : PortState) (token : ℕ) (o : Option Sending) → PortFits (Some p) → PortFits (Some (ended_by p token o))
ended-fits p token None fit = fit
ended-fits p token (Some s) fit = fit

finished-fits : (token : ℕ) (o : Option PortState) → PortFits o → PortFits (option_map (λ p. finished p token) o)
finished-fits token None fit = tt
finished-fits token (Some p) fit = ended-fits p token (send_of p token) fit

all_finished-fits : (n : NodeState) (ts : List Ticket) (port : ℕ) → PortFits (port_at n port) → PortFits (port_at (all_finished n ts) port)
all_finished-fits n [] port fit = fit
all_finished-fits n (t ∷ ts) port fit =
    let p : Option PortState = option_map (λ p. finished p t.token) (port_at n t.port) in
    all_finished-fits (with_port n t.port p) ts port (port-fits n t.port p (finished-fits t.token (port_at n t.port)) port fit)

ack-says : (n : NodeState) (lane next : ℕ) → NodeSays n (all_finished (with_lane n lane (lane_acknowledged (lane_at n lane) next)) (tickets_finished (lane_at n lane) next))
ack-says n lane next =
    let q : LaneState = lane_acknowledged (lane_at n lane) next in
    let ts : List Ticket = tickets_finished (lane_at n lane) next in
    says-lane n _ lane q (all_finished-lanes (with_lane n lane q) ts) refl (λ all. all) (all_finished-fits (with_lane n lane q) ts)

-- whatever a host hears
pub hear-says : (host hosts : ℕ) (n : NodeState) (wire : List ℕ) → NodeSays n (hear host hosts n wire).1
hear-says host hosts n wire = by (hear host hosts n wire).1 (hear-is host hosts n wire)
  where
    by : (m : NodeState) → IsHeard host hosts n wire m → NodeSays n m
    by m (quietly e f) = says-quiet n m e f
    by m (of_frame body h e d mine there is) = subst (NodeSays n) (sym is) (frame-says n h (part_in body) (frame_took n h) (read-head body h d))
    by m (of_ack body a e d mine there is) = subst (NodeSays n) (sym is) (ack-says n (ack_lane a) a.next)

-- what a host sends, and an expiry
pub sent-says : (n : NodeState) (out : Outgoing) → NodeSays n (after_sending n out)
unfolding after_sending
sent-says n (Probe walk looped) = says-quiet n _ refl refl
sent-says n (TablePart part by) = says-quiet n _ refl refl
sent-says n (Reply r) = says-quiet n _ refl refl
sent-says n (PartAnswer a) = says-quiet n _ refl refl
sent-says n (FrameAnswer lane next by) = says-lane n _ lane (lane_answered (lane_at n lane)) refl refl (λ all. all) (λ port fit. fit)
sent-says n (Fragment lane head part by) = says-lane n _ lane (lane_sent_one (lane_at n lane)) refl refl (λ all. all) (λ port fit. fit)

lane-expired : (n : NodeState) (lane : ℕ) → NodeSays n (with_expired n lane)
lane-expired n lane = says-lane n _ lane (lane_expired (lane_at n lane)) refl refl (λ all. all) (λ port fit. fit)

-- an expiry sends nothing new, so its two lanes go one after the other
sent-same : (n : NodeState) (lane k : ℕ) → (lane_at (with_expired n lane) k).sent ≡ (lane_at n k).sent
sent-same n lane k = at-set (λ a b. b.sent ≡ a.sent) (λ a. refl) n.lanes lane k (lane_expired (lane_at n lane)) new_lane refl

pub expired-says : (n : NodeState) (peer : ℕ) → NodeSays n (node_expired n peer)
expired-says n peer =
    let first : ℕ = lane_of peer 0 in
    let second : ℕ = lane_of peer 1 in
    let m : NodeState = with_expired n first in
    record {
      sent = λ k. SentSo.same (sent-same m second k ∙ sent-same n first k);
      got = λ k all. (lane-expired m second).got k ((lane-expired n first).got k all);
      ports = λ port fit. fit;
    }

-- a message that is accepted
some-below : {X : Type 0} (xs : List (Option X)) (i : ℕ) (x : X) → get_or xs i None ≡ Some x → i < length xs
some-below [] i x e = cc
some-below (y ∷ xs) zero x e = omega arith
some-below (y ∷ xs) (suc i) x e = let k = some-below xs i x e in omega (arith, k)

route-there : (n : NodeState) (s : Wanted) (long bare spent : Bool) → is_none (table_route n.table s.dest) ≡ bare → (if long then Some TooLong else if bare then Some NoRoute else if spent then Some Spent else None) ≡ None → is_some (table_route n.table s.dest) ≡ true
route-there n s true bare spent e d = cc
route-there n s false true spent e d = cc
route-there n s false false spent e d = by (table_route n.table s.dest) e
  where
    by : {X : Type 0} (o : Option X) → is_none o ≡ false → is_some o ≡ true
    by None e = absurd (true≢false e)
    by (Some x) e = refl

-- what its clients call for
pub call-says : {n : NodeState} {c : Option ClientState} {port : ℕ} {call : Called} → Call n c port call → NodeSays n call.node
call-says {n = n} Call.rests = says-quiet n _ refl refl
call-says {n = n} (Call.opens {port = port} sends recvs d) = says-port n _ refl (port-fits n port _ (λ fit. tt))
call-says {n = n} (Call.closes {port = port} p d e) = says-port n _ refl (port-fits n port None (λ fit. tt))
call-says {n = n} (Call.provides {port = port} size prio t ts p d e f g k) =
    let low : prio < 2 = grind (arith, nat_tests) in
    says-port n _ refl (port-fits n port _ (λ fit. all-push (λ r. r.prio < 2) p.provided _ (subst PortFits e fit) low))
call-says {n = n} (Call.accepts s t ts p d e f g k) =
    let q : LaneState = with_message (lane_at n (wanted_lane s)) (wanted_message s) (record { port = s.port; token = t }) in
    let route : is_some (table_route n.table s.dest) ≡ true = route-there n s _ (is_none (table_route n.table s.dest)) _ refl k in
    let here : is_some (lane_route n (wanted_lane s)) ≡ true = subst (λ x. is_some (table_route n.table x) ≡ true) (sym (peer_of-lane s.dest s.prio)) route in
    record {
      sent = λ j. each-set (λ i y. SentSo n i (lane_at n i).sent y.sent) n.lanes (wanted_lane s) j q new_lane (SentSo.more (wanted_message s) refl (some-below n.ports s.port p e) here) (λ i. SentSo.same refl);
      got = λ j all. at-set (λ a b. AllByRecursion IsFor a.got → AllByRecursion IsFor b.got) (λ a x. x) n.lanes (wanted_lane s) j q new_lane (λ x. x) all;
      ports = λ port fit. port-fits n s.port _ (λ x. subst PortFits e x) port fit;
    }
call-says {n = n} (Call.hands_sent {port = port} t buffer p d e f g) = says-port n _ refl (port-fits n port _ (λ fit. subst PortFits e fit))
call-says {n = n} (Call.hands_received {port = port} t buffer from sport prio len p d e f g) = says-port n _ refl (port-fits n port _ (λ fit. subst PortFits e fit))
