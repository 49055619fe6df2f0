-- What hearing, giving up, resets and replays leave of a connection: a base rises or the sender stays, more is taken and an acknowledgement owed or nothing is, and no token is provided.
use Rattle.std.proofs.Common.{◌≡◌, ◌<◌, ℕ, Bool, true, false, List, [], ◌∷◌, get_or, max, nat_lt, nat_le, Option, Some, None, is_some, option_map, refl, sym, ap, ◌∙◌, subst, arith, true≢false, if◌then◌else◌}
use Rattle.std.specs.Prelude.{find}
use Rattle.std.proofs.lemmas.Bool.Decides.{nat_tests}
use Rattle.gm_defs.specs.declared.message.Message.{Message}
use Rattle.gm_defs.specs.declared.frame.FrameHead.{FrameHead}
use Rattle.gm_defs.specs.declared.token.Took.{Took}
use Rattle.gm_defs.specs.declared.token.Took.TheVariants.{NotNext, NoToken, Part, Whole}
use Rattle.gm_defs.specs.Body.{part_in, is_last}
use Rattle.gm_defs.specs.Connection.{SenderState, is_taken, acknowledged}
use Rattle.gm_defs.specs.Token.{PortState, Provided, Sending, is_free_for, takes_at}
use Rattle.gm_defs.specs.Port.{without_first, with_first, filling_with, ended_with, going_on_with, send_of, ended_by, finished, taken_by, delivered}
use Rattle.gm_defs.proofs.Choices.{both}
use Rattle.world_defs.specs.Lane.{LaneState, Ticket, new_lane, lane_acknowledged, tickets_finished, lane_after}
use Rattle.world_defs.specs.Node.{NodeState, lane_at, with_lane, port_at, with_port, given_up}
use Rattle.world_defs.specs.Hearing.{port_fits, message_of, frame_lane, ack_lane, delivered_after, frame_heard, frame_took, all_finished, hear}
use Rattle.world_laws.proofs.Lists.{at-set}
use Rattle.message_laws.proofs.Heard.{IsHeard, quietly, of_frame, of_ack, hear-is}

-- a sender stays, or its base rises
pub data SenderCalm (s t : SenderState) : Type 0 where
  same : t ≡ s → SenderCalm s t
  risen : s.base < t.base → SenderCalm s t

-- as much is taken, and what was owed still is; or more is, and an acknowledgement is owed
pub data TakerCalm (p q : LaneState) : Type 0 where
  keeps : q.taken ≡ p.taken → (p.owes ≡ true → q.owes ≡ true) → TakerCalm p q
  takes : p.taken < q.taken → q.owes ≡ true → TakerCalm p q

-- what no token that isn't filling fitted before, none fits then
abbrev pub PortCalm : Option PortState → Option PortState → Type 0
PortCalm o r = (len prio : ℕ) → port_fits o len prio ≡ false → port_fits r len prio ≡ false

-- a host's connections and ports
pub record NodeCalm (n m : NodeState) : Type 0 where
  pub senders : (p : ℕ) → SenderCalm (lane_at n p).sender (lane_at m p).sender
  pub takers : (p : ℕ) → TakerCalm (lane_at n p) (lane_at m p)
  pub ports : (port : ℕ) → PortCalm (port_at n port) (port_at m port)

taker-same : (p : LaneState) → TakerCalm p p
taker-same p = TakerCalm.keeps refl (λ e. e)

pub node-quiet : (n m : NodeState) → m.lanes ≡ n.lanes → m.ports ≡ n.ports → NodeCalm n m
node-quiet n m e f = record {
  senders = λ p. SenderCalm.same (ap (λ l. (get_or l p new_lane).sender) e);
  takers = λ p. subst (λ l. TakerCalm (lane_at n p) (get_or l p new_lane)) (sym e) (taker-same (lane_at n p));
  ports = λ port. subst (λ l. PortCalm (port_at n port) (get_or l port None)) (sym f) (λ len prio h. h);
}

-- one change after another
sender-both : (s t u : SenderState) → SenderCalm s t → SenderCalm t u → SenderCalm s u
sender-both s t u (SenderCalm.same e) (SenderCalm.same f) = SenderCalm.same (f ∙ e)
sender-both s t u (SenderCalm.same e) (SenderCalm.risen r) = SenderCalm.risen (subst (λ x. x.base < u.base) e r)
sender-both s t u (SenderCalm.risen r) (SenderCalm.same f) = SenderCalm.risen (subst (λ x. s.base < x.base) (sym f) r)
sender-both s t u (SenderCalm.risen r) (SenderCalm.risen q) = SenderCalm.risen (omega (arith, r, q))

taker-both : (p q r : LaneState) → TakerCalm p q → TakerCalm q r → TakerCalm p r
taker-both p q r (TakerCalm.keeps e f) (TakerCalm.keeps g h) = TakerCalm.keeps (g ∙ e) (λ o. h (f o))
taker-both p q r (TakerCalm.keeps e f) (TakerCalm.takes l o) = TakerCalm.takes (omega (arith, e, l)) o
taker-both p q r (TakerCalm.takes l o) (TakerCalm.keeps g h) = TakerCalm.takes (omega (arith, l, g)) (h o)
taker-both p q r (TakerCalm.takes l o) (TakerCalm.takes m s) = TakerCalm.takes (omega (arith, l, m)) s

pub node-both : (n m o : NodeState) → NodeCalm n m → NodeCalm m o → NodeCalm n o
node-both n m o k l = record {
  senders = λ p. sender-both (lane_at n p).sender (lane_at m p).sender (lane_at o p).sender (k.senders p) (l.senders p);
  takers = λ p. taker-both (lane_at n p) (lane_at m p) (lane_at o p) (k.takers p) (l.takers p);
  ports = λ port len prio h. l.ports port len prio (k.ports port len prio h);
}

-- one lane, and one port
lane-calm : (n : NodeState) (k : ℕ) (q : LaneState) → SenderCalm (lane_at n k).sender q.sender → TakerCalm (lane_at n k) q → NodeCalm n (with_lane n k q)
lane-calm n k q s t = record {
  senders = λ p. at-set (λ x y. SenderCalm x.sender y.sender) (λ x. SenderCalm.same refl) n.lanes k p q new_lane s;
  takers = λ p. at-set TakerCalm taker-same n.lanes k p q new_lane t;
  ports = λ port len prio h. h;
}

port-calm : (n : NodeState) (k : ℕ) (o : Option PortState) → PortCalm (port_at n k) o → NodeCalm n (with_port n k o)
port-calm n k o c = record {
  senders = λ p. SenderCalm.same refl;
  takers = λ p. taker-same (lane_at n p);
  ports = λ port. at-set PortCalm (λ x len prio h. h) n.ports k port o None c;
}

-- a frame takes one token at most
fewer : (f g : Provided → Bool) (rs : List Provided) → is_some (find f rs) ≡ false → is_some (find f (without_first g rs)) ≡ false
fewer f g [] e = refl
fewer f g (r ∷ rs) e = by (f r) (g r) refl e (fewer f g rs)
  where
    by : (a b : Bool) → f r ≡ a → is_some (if a then Some r else find f rs) ≡ false → (is_some (find f rs) ≡ false → is_some (find f (without_first g rs)) ≡ false) → is_some (find f (if b then rs else r ∷ without_first g rs)) ≡ false
    by true b t d rest = absurd (true≢false d)
    by false true t d rest = d
    by false false t d rest = rw t (rest d)

-- or makes one filling, which fits no message then
filled-fewer : (f g : Provided → Bool) (y : Provided) (rs : List Provided) → f y ≡ false → is_some (find f rs) ≡ false → is_some (find f (with_first g y rs)) ≡ false
filled-fewer f g y [] d e = refl
filled-fewer f g y (r ∷ rs) d e = by (f r) (g r) refl e (filled-fewer f g y rs d)
  where
    by : (a b : Bool) → f r ≡ a → is_some (if a then Some r else find f rs) ≡ false → (is_some (find f rs) ≡ false → is_some (find f (with_first g y rs)) ≡ false) → is_some (find f (if b then y ∷ rs else r ∷ with_first g y rs)) ≡ false
    by true b t k rest = absurd (true≢false k)
    by false true t k rest = rw d k
    by false false t k rest = rw t (rest k)

taken_by-calm : (p : PortState) (h : FrameHead) (part : List ℕ) (o : Option Provided) → PortCalm (Some p) (Some (taken_by p h part o))
taken_by-calm p h part None len prio e = e
taken_by-calm p h part (Some r) len prio e = by (is_last h.total h.offset)
  where
    by : (b : Bool) → port_fits (Some (if b then ended_with p h part r else going_on_with p h part r)) len prio ≡ false
    by true = fewer (is_free_for len prio) (takes_at p h) p.provided e
    by false = filled-fewer (is_free_for len prio) (takes_at p h) (filling_with h part r) p.provided refl e

delivered-calm : (h : FrameHead) (part : List ℕ) (o : Option PortState) → PortCalm o (option_map (λ p. delivered p h part) o)
delivered-calm h part None len prio e = e
delivered-calm h part (Some p) len prio e = taken_by-calm p h part _ len prio e

-- a send that is finished takes none
ended-calm : (p : PortState) (token : ℕ) (o : Option Sending) → PortCalm (Some p) (Some (ended_by p token o))
ended-calm p token None len prio e = e
ended-calm p token (Some s) len prio e = e

finished-calm : (token : ℕ) (o : Option PortState) → PortCalm o (option_map (λ p. finished p token) o)
finished-calm token None len prio e = e
finished-calm token (Some p) len prio e = ended-calm p token (send_of p token) len prio e

-- a frame
took-calm : (p : LaneState) (t : Took) (m : Message) → TakerCalm p (lane_after p t m)
took-calm p NotNext m = TakerCalm.keeps refl (λ o. refl)
took-calm p NoToken m = TakerCalm.keeps refl (λ o. refl)
took-calm p Part m = TakerCalm.takes (omega arith) refl
took-calm p Whole m = TakerCalm.takes (omega arith) refl

delivered_after-calm : (n : NodeState) (h : FrameHead) (part : List ℕ) (t : Took) → NodeCalm n (delivered_after n h part t)
delivered_after-calm n h part NotNext = node-quiet n n refl refl
delivered_after-calm n h part NoToken = node-quiet n n refl refl
delivered_after-calm n h part Part = port-calm n h.dport (option_map (λ p. delivered p h part) (port_at n h.dport)) (delivered-calm h part (port_at n h.dport))
delivered_after-calm n h part Whole = port-calm n h.dport (option_map (λ p. delivered p h part) (port_at n h.dport)) (delivered-calm h part (port_at n h.dport))

frame-calm : (n : NodeState) (h : FrameHead) (part : List ℕ) (t : Took) → NodeCalm n (frame_heard n h part t).1
frame-calm n h part t =
    let q : LaneState = lane_after (lane_at n (frame_lane h)) t (message_of h part) in
    node-both n (with_lane n (frame_lane h) q) (frame_heard n h part t).1 (lane-calm n (frame_lane h) q (SenderCalm.same refl) (took-calm (lane_at n (frame_lane h)) t (message_of h part))) (delivered_after-calm (with_lane n (frame_lane h) q) h part t)

-- an acknowledgement
acknowledged-calm : (s : SenderState) (k : ℕ) → SenderCalm s (acknowledged s k)
acknowledged-calm s k = by (is_taken s k) refl
  where
    by : (t : Bool) → is_taken s k ≡ t → SenderCalm s (if t then record s { base = k; cursor = max s.cursor k } else s)
    by true e = let l = (both (nat_lt s.base k) (nat_le k s.top) e).0 in SenderCalm.risen (grind (arith, nat_tests))
    by false e = SenderCalm.same refl

all_finished-calm : (n : NodeState) (ts : List Ticket) → NodeCalm n (all_finished n ts)
all_finished-calm n [] = node-quiet n n refl refl
all_finished-calm n (t ∷ ts) =
    let p : Option PortState = option_map (λ p. finished p t.token) (port_at n t.port) in
    node-both n (with_port n t.port p) (all_finished n (t ∷ ts)) (port-calm n t.port p (finished-calm t.token (port_at n t.port))) (all_finished-calm (with_port n t.port p) ts)

ack-calm : (n : NodeState) (lane next : ℕ) → NodeCalm n (all_finished (with_lane n lane (lane_acknowledged (lane_at n lane) next)) (tickets_finished (lane_at n lane) next))
ack-calm n lane next =
    let q : LaneState = lane_acknowledged (lane_at n lane) next in
    node-both n (with_lane n lane q) _ (lane-calm n lane q (acknowledged-calm (lane_at n lane).sender next) (TakerCalm.keeps refl (λ o. o))) (all_finished-calm (with_lane n lane q) (tickets_finished (lane_at n lane) next))

-- whatever a host hears
pub hear-calm : (host hosts : ℕ) (n : NodeState) (wire : List ℕ) → NodeCalm n (hear host hosts n wire).1
hear-calm host hosts n wire = by (hear host hosts n wire).1 (hear-is host hosts n wire)
  where
    by : (m : NodeState) → IsHeard host hosts n wire m → NodeCalm n m
    by m (quietly e f) = node-quiet n m e f
    by m (of_frame body h e d mine there is) = subst (NodeCalm n) (sym is) (frame-calm n h (part_in body) (frame_took n h))
    by m (of_ack body a e d mine there is) = subst (NodeCalm n) (sym is) (ack-calm n (ack_lane a) a.next)

-- and a host that gives up
pub given_up-calm : (n : NodeState) → NodeCalm n (given_up n)
given_up-calm n = node-quiet n (given_up n) refl refl
