-- What a client's call makes of its host and of the client, case by case.
use Rattle.std.proofs.Common.{◌≡◌, ◌++◌, ℕ, Bool, true, false, List, [], ◌∷◌, length, nat_lt, Option, Some, None, is_none, refl, arith, if◌then◌else◌}
use Rattle.std.specs.Prelude.{take}
use Rattle.std.proofs.lemmas.Bool.Decides.{nat_tests}
use Rattle.gm_defs.specs.Token.{PortState, PortEvent, Sent, Received, opened}
use Rattle.gm_defs.specs.Fragment.{piece_count}
use Rattle.gm_defs.specs.Connection.{is_spent}
use Rattle.gm_defs.specs.Port.{is_too_long, is_bad_size, provided_with, next_event, polled, unfinished, unread, filling_count}
use Rattle.world_defs.specs.declared.client.ClientCause.{ClientCause}
use Rattle.world_defs.specs.declared.client.ClientCause.TheVariants.{TooLong, NoRoute, Spent, BadSize, Busy, Unread, Filling}
use Rattle.world_defs.specs.declared.effect.Said.{Said}
use Rattle.world_defs.specs.declared.effect.Said.TheVariants.{Done, Count, Token, Sent as SaidSent, Received as SaidReceived}
use Rattle.world_defs.specs.Table.{table_route}
use Rattle.world_defs.specs.Node.{NodeState, lane_at, port_at}
use Rattle.world_defs.specs.Client.{ClientState, Called, Wanted, wanted_lane, new_client, empty_buffer, refused, left, begin_at, begun, close_refusal, close_unless, close_open, closed, provide_with, provide_open, provided_by, send_accepted, send_refusal, send_unless, send_with, send_open, sent_by, handed_out, poll_open, polled_by}
use Rattle.world_defs.specs.World.{WorldState, node_at, client_at}
use Rattle.world_defs.proofs.Views.{CallChange}

-- A port that may be closed: no send is unfinished, no event waits, and no token is filling.
pub record IsClosable (p : PortState) : Type 0 where
  pub finished : unfinished p ≡ 0
  pub read : unread p ≡ 0
  pub whole : filling_count p ≡ 0

-- A call of the client of a port changes nothing; or the port opens, closes, has a buffer more, sends a message, or has an event less.
pub data Call (n : NodeState) (c : Option ClientState) : ℕ → Called → Type 0 where
  rests : {port : ℕ} {said : Said} → Call n c port (record { said = said; node = n; client = c })
  opens : {port : ℕ} (sends recvs : ℕ) → port_at n port ≡ None → Call n c port (left n port (Some (opened sends recvs)) (Some (new_client sends recvs)) Done)
  closes : {port : ℕ} (p : PortState) → port_at n port ≡ Some p → IsClosable p → Call n c port (left n port None None (Count (length p.provided)))
  provides : {port : ℕ} (size prio t : ℕ) (ts : List ℕ) (p : PortState) (d : ClientState) → port_at n port ≡ Some p → c ≡ Some d → d.recvs ≡ t ∷ ts → is_bad_size size prio ≡ false
      → Call n c port (left n port (Some (provided_with p (record { token = t; size = size; prio = prio; filling = None; buffer = empty_buffer size }))) (Some (record d { recvs = ts })) (Token t))
  accepts : (s : Wanted) (t : ℕ) (ts : List ℕ) (p : PortState) (d : ClientState) → port_at n s.port ≡ Some p → c ≡ Some d → d.sends ≡ t ∷ ts → send_refusal n s ≡ None → Call n c s.port (send_accepted n s p d t ts)
  hands_sent : {port : ℕ} (t : ℕ) (buffer : List ℕ) (p : PortState) (d : ClientState) → port_at n port ≡ Some p → c ≡ Some d → next_event p ≡ Some (Sent t buffer)
      → Call n c port (left n port (Some (polled p)) (Some (record d { sends = d.sends ++ t ∷ [] })) (SaidSent t))
  hands_received : {port : ℕ} (t : ℕ) (buffer : List ℕ) (from sport prio len : ℕ) (p : PortState) (d : ClientState) → port_at n port ≡ Some p → c ≡ Some d → next_event p ≡ Some (Received t buffer from sport prio len)
      → Call n c port (left n port (Some (polled p)) (Some (record d { recvs = d.recvs ++ t ∷ [] })) (SaidReceived t from sport prio (take len buffer)))

none_left : (a b c : Bool) (u r f : ℕ) → (if a then Some (Busy u) else if b then Some (Unread r) else if c then Some (Filling f) else None) ≡ None → (a ≡ false) × ((b ≡ false) × (c ≡ false))
none_left true b c u r f e = cc
none_left false true c u r f e = cc
none_left false false true u r f e = cc
none_left false false false u r f e = (refl, (refl, refl))

none : (n : ℕ) → nat_lt 0 n ≡ false → n ≡ 0
none n e = grind (arith, nat_tests)

pub not_refused-closable : (p : PortState) → close_refusal p ≡ None → IsClosable p
not_refused-closable p e =
    let free = none_left (nat_lt 0 (unfinished p)) (nat_lt 0 (unread p)) (nat_lt 0 (filling_count p)) (unfinished p) (unread p) (filling_count p) e in
    record { finished = none (unfinished p) free.0; read = none (unread p) free.1.0; whole = none (filling_count p) free.1.1 }

module _ (n : NodeState) (c : Option ClientState) where
  begin_at-call : (port sends recvs : ℕ) (o : Option PortState) → port_at n port ≡ o → Call n c port (begin_at n port sends recvs c o)
  begin_at-call port sends recvs (Some p) e = Call.rests
  begin_at-call port sends recvs None e = Call.opens sends recvs e

  pub begun-call : (port sends recvs : ℕ) → Call n c port (begun n port sends recvs c)
  unfolding begun
  begun-call port sends recvs = begin_at-call port sends recvs (port_at n port) refl

  close_unless-call : (port : ℕ) (p : PortState) (o : Option ClientCause) → port_at n port ≡ Some p → close_refusal p ≡ o → Call n c port (close_unless n port c p o)
  close_unless-call port p (Some cause) e f = Call.rests
  close_unless-call port p None e f = Call.closes p e (not_refused-closable p f)

  close_open-call : (port : ℕ) (o : Option PortState) → port_at n port ≡ o → Call n c port (close_open n port c o)
  close_open-call port None e = Call.rests
  close_open-call port (Some p) e = close_unless-call port p (close_refusal p) e refl

  pub closed-call : (port : ℕ) → Call n c port (closed n port c)
  unfolding closed
  closed-call port = close_open-call port (port_at n port) refl

module _ (n : NodeState) (port : ℕ) (size prio : ℕ) where
  provide_if-call : (c : Option ClientState) (t : ℕ) (ts : List ℕ) (p : PortState) (d : ClientState) (b : Bool) → port_at n port ≡ Some p → c ≡ Some d → d.recvs ≡ t ∷ ts → is_bad_size size prio ≡ b
      → Call n (Some d) port (if b then refused n (Some d) BadSize else left n port (Some (provided_with p (record { token = t; size = size; prio = prio; filling = None; buffer = empty_buffer size }))) (Some (record d { recvs = ts })) (Token t))
  provide_if-call c t ts p d true e f g k = Call.rests
  provide_if-call c t ts p d false e f g k = Call.provides size prio t ts p d e refl g k

  provide_with-call : (p : PortState) (d : ClientState) (ts : List ℕ) → port_at n port ≡ Some p → d.recvs ≡ ts → Call n (Some d) port (provide_with n port size prio p d ts)
  provide_with-call p d [] e g = Call.rests
  provide_with-call p d (t ∷ ts) e g = provide_if-call (Some d) t ts p d (is_bad_size size prio) e refl g refl

  provide_open-call : (c : Option ClientState) (o : Option PortState) → port_at n port ≡ o → Call n c port (provide_open n port size prio c o)
  provide_open-call (Some d) (Some p) e = provide_with-call p d d.recvs e refl
  provide_open-call (Some d) None e = Call.rests
  provide_open-call None o e = Call.rests

  pub provided_by-call : (c : Option ClientState) → Call n c port (provided_by n port size prio c)
  unfolding provided_by
  provided_by-call c = provide_open-call c (port_at n port) refl

module _ (n : NodeState) (s : Wanted) where
  send_unless-call : (t : ℕ) (ts : List ℕ) (p : PortState) (d : ClientState) (o : Option ClientCause) → port_at n s.port ≡ Some p → d.sends ≡ t ∷ ts → send_refusal n s ≡ o → Call n (Some d) s.port (send_unless n s p d t ts o)
  send_unless-call t ts p d (Some cause) e g k = Call.rests
  send_unless-call t ts p d None e g k = Call.accepts s t ts p d e refl g k

  send_with-call : (p : PortState) (d : ClientState) (ts : List ℕ) → port_at n s.port ≡ Some p → d.sends ≡ ts → Call n (Some d) s.port (send_with n s p d ts)
  send_with-call p d [] e g = Call.rests
  send_with-call p d (t ∷ ts) e g = send_unless-call t ts p d (send_refusal n s) e g refl

  send_open-call : (c : Option ClientState) (o : Option PortState) → port_at n s.port ≡ o → Call n c s.port (send_open n s c o)
  send_open-call (Some d) (Some p) e = send_with-call p d d.sends e refl
  send_open-call (Some d) None e = Call.rests
  send_open-call None o e = Call.rests

  pub sent_by-call : (c : Option ClientState) → Call n c s.port (sent_by n s c)
  unfolding sent_by
  sent_by-call c = send_open-call c (port_at n s.port) refl

module _ (n : NodeState) (port : ℕ) where
  handed_out-call : (p : PortState) (d : ClientState) (o : Option PortEvent) → port_at n port ≡ Some p → next_event p ≡ o → Call n (Some d) port (handed_out n port p d o)
  handed_out-call p d None e k = Call.rests
  handed_out-call p d (Some (Sent t buffer)) e k = Call.hands_sent t buffer p d e refl k
  handed_out-call p d (Some (Received t buffer from sport prio len)) e k = Call.hands_received t buffer from sport prio len p d e refl k

  poll_open-call : (c : Option ClientState) (o : Option PortState) → port_at n port ≡ o → Call n c port (poll_open n port c o)
  poll_open-call (Some d) (Some p) e = handed_out-call p d (next_event p) e refl
  poll_open-call (Some d) None e = Call.rests
  poll_open-call None o e = Call.rests

  pub polled_by-call : (c : Option ClientState) → Call n c port (polled_by n port c)
  unfolding polled_by
  polled_by-call c = poll_open-call c (port_at n port) refl

-- An accepted message isn't too long, has a route, and has numbers left.
pub record IsAcceptable (n : NodeState) (s : Wanted) : Type 0 where
  pub short : is_too_long s.len ≡ false
  pub routed : is_none (table_route n.table s.dest) ≡ false
  pub numbered : is_spent (lane_at n (wanted_lane s)).sender (piece_count s.len) ≡ false

not_refused : (a b c : Bool) → (if a then Some TooLong else if b then Some NoRoute else if c then Some Spent else None) ≡ None → (a ≡ false) × (b ≡ false) × (c ≡ false)
not_refused true b c e = cc
not_refused false true c e = cc
not_refused false false true e = cc
not_refused false false false e = (refl, refl, refl)

pub not_refused-acceptable : (n : NodeState) (s : Wanted) → send_refusal n s ≡ None → IsAcceptable n s
not_refused-acceptable n s e =
    let free = not_refused (is_too_long s.len) (is_none (table_route n.table s.dest)) (is_spent (lane_at n (wanted_lane s)).sender (piece_count s.len)) e in
    record { short = free.0; routed = free.1; numbered = free.2 }

-- every call
pub call_view : {w : WorldState} {h port : ℕ} {call : Called} {e : _} → CallChange w e h port call → Call (node_at w h) (client_at w h port) port call
call_view {w = w} {h = h} {port = port} (CallChange.begins {sends = sends} {recvs = recvs}) = begun-call (node_at w h) (client_at w h port) port sends recvs
call_view {w = w} {h = h} {port = port} CallChange.closes = closed-call (node_at w h) (client_at w h port) port
call_view {w = w} {h = h} {port = port} (CallChange.provides {size = size} {prio = prio}) = provided_by-call (node_at w h) port size prio (client_at w h port)
call_view {w = w} {h = h} {port = port} CallChange.accepts = sent_by-call (node_at w h) _ (client_at w h port)
call_view {w = w} {h = h} {port = port} CallChange.polls = polled_by-call (node_at w h) port (client_at w h port)
