-- What a client's call says, and what it makes of its port and of the client.
use Rattle.std.proofs.Common.{◌≡◌, ℕ, Bool, true, false, List, [], ◌∷◌, ◌++◌, length, take, nat_lt, is_none, Option, Some, None, refl, sym, if◌then◌else◌}
use Rattle.gm_defs.specs.Token.{PortState, PortEvent, Sent, Received, opened}
use Rattle.gm_defs.specs.Port.{is_bad_size, is_too_long, provided_with, next_event, polled, unfinished, unread, filling_count}
use Rattle.gm_defs.specs.Fragment.{piece_count}
use Rattle.gm_defs.specs.Connection.{is_spent}
use Rattle.world_defs.specs.declared.client.ClientCause.{ClientCause}
use Rattle.world_defs.specs.declared.client.ClientCause.TheVariants.{Already, NotOpen, NoToken, TooLong, NoRoute, Spent, BadSize, Busy, Unread, Filling}
use Rattle.world_defs.specs.declared.effect.Said.TheVariants.{Done, Count, Token, Sent as SaidSent, Received as SaidReceived, Nothing}
use Rattle.world_defs.specs.Table.{table_route}
use Rattle.world_defs.specs.Node.{NodeState, port_at, lane_at}
use Rattle.world_defs.specs.Client.{ClientState, new_client, Called, refused, left, begun, begin_at, closed, close_open, close_unless, close_refusal, empty_buffer, provided_by, provide_open, provide_with, wanted_lane, send_accepted, sent_by, send_open, send_with, send_unless, polled_by, poll_open, handed_out}
use Rattle.world_defs.specs.Step.{wanted}
use Rattle.world_defs.proofs.Calls.{IsClosable, not_refused-closable}
use Rattle.run_defs.specs.declared.line.ClientCall.{ClientCall}
use Rattle.run_defs.specs.declared.line.ClientCall.TheVariants.{Begin as BeginCall, Close as CloseCall, Provide as ProvideCall, Send as SendCall, Poll as PollCall}
use Rattle.run_defs.specs.declared.command.Command.{Command}
use Rattle.run_defs.specs.declared.command.Command.TheVariants.{Begin, Close, Provide, Send, Poll}
use Rattle.judge_defs.specs.Form.{call_of}
use Rattle.judge_laws.proofs.CallSaying.{MayRefuse, begin_already, close_not_open, close_busy, close_unread, close_filling, provide_not_open, provide_no_token, provide_bad_size, send_not_open, send_no_token, send_too_long, send_no_route, send_spent, poll_not_open}

-- The call of a command of the client of a host's port, as it is refused, or as it is done.
pub data IsCall (n : NodeState) (c : Option ClientState) (h port : ℕ) : Command → Called → Type 0 where
  refuses : {cmd : Command} (kind : ClientCall) (cause : ClientCause) → call_of cmd ≡ Some (kind, record { host = h; port = port }) → MayRefuse kind cause → IsCall n c h port cmd (refused n c cause)
  rests : IsCall n c h port (Poll h port) (record { said = Nothing; node = n; client = c })
  opens : (sends recvs : ℕ) → port_at n port ≡ None → IsCall n c h port (Begin h port sends recvs) (left n port (Some (opened sends recvs)) (Some (new_client sends recvs)) Done)
  closes : (p : PortState) → port_at n port ≡ Some p → IsClosable p → IsCall n c h port (Close h port) (left n port None None (Count (length p.provided)))
  provides : (size prio t : ℕ) (ts : List ℕ) (p : PortState) (d : ClientState) → port_at n port ≡ Some p → c ≡ Some d → d.recvs ≡ t ∷ ts
      → IsCall n c h port (Provide h port size prio) (left n port (Some (provided_with p (record { token = t; size = size; prio = prio; filling = None; buffer = empty_buffer size }))) (Some (record d { recvs = ts })) (Token t))
  accepts : (dest dport prio len seed t : ℕ) (ts : List ℕ) (p : PortState) (d : ClientState) → port_at n port ≡ Some p → c ≡ Some d → d.sends ≡ t ∷ ts
      → IsCall n c h port (Send h port dest dport prio len seed) (send_accepted n (wanted port dest dport prio len seed) p d t ts)
  hands_sent : (t : ℕ) (buffer : List ℕ) (p : PortState) (d : ClientState) → port_at n port ≡ Some p → c ≡ Some d → next_event p ≡ Some (Sent t buffer)
      → IsCall n c h port (Poll h port) (left n port (Some (polled p)) (Some (record d { sends = d.sends ++ t ∷ [] })) (SaidSent t))
  hands_received : (t : ℕ) (buffer : List ℕ) (from sport prio len : ℕ) (p : PortState) (d : ClientState) → port_at n port ≡ Some p → c ≡ Some d → next_event p ≡ Some (Received t buffer from sport prio len)
      → IsCall n c h port (Poll h port) (left n port (Some (polled p)) (Some (record d { recvs = d.recvs ++ t ∷ [] })) (SaidReceived t from sport prio (take len buffer)))

module _ (n : NodeState) (c : Option ClientState) (h port : ℕ) where
  begin-call : (sends recvs : ℕ) (o : Option PortState) → port_at n port ≡ o → IsCall n c h port (Begin h port sends recvs) (begin_at n port sends recvs c o)
  begin-call sends recvs (Some p) e = IsCall.refuses BeginCall Already refl begin_already
  begin-call sends recvs None e = IsCall.opens sends recvs e

  pub begun-is : (sends recvs : ℕ) → IsCall n c h port (Begin h port sends recvs) (begun n port sends recvs c)
  unfolding begun
  begun-is sends recvs = begin-call sends recvs (port_at n port) refl

  -- the first of the causes
  close-cause : (p : PortState) (a b d : Bool) → (if a then Some (Busy (unfinished p)) else if b then Some (Unread (unread p)) else if d then Some (Filling (filling_count p)) else None) ≡ close_refusal p
      → port_at n port ≡ Some p → IsCall n c h port (Close h port) (close_unless n port c p (if a then Some (Busy (unfinished p)) else if b then Some (Unread (unread p)) else if d then Some (Filling (filling_count p)) else None))
  close-cause p true b d same e = IsCall.refuses CloseCall (Busy (unfinished p)) refl (close_busy (unfinished p))
  close-cause p false true d same e = IsCall.refuses CloseCall (Unread (unread p)) refl (close_unread (unread p))
  close-cause p false false true same e = IsCall.refuses CloseCall (Filling (filling_count p)) refl (close_filling (filling_count p))
  close-cause p false false false same e = IsCall.closes p e (not_refused-closable p (sym same))

  close-call : (o : Option PortState) → port_at n port ≡ o → IsCall n c h port (Close h port) (close_open n port c o)
  close-call None e = IsCall.refuses CloseCall NotOpen refl close_not_open
  close-call (Some p) e = close-cause p (nat_lt 0 (unfinished p)) (nat_lt 0 (unread p)) (nat_lt 0 (filling_count p)) refl e

  pub closed-is : IsCall n c h port (Close h port) (closed n port c)
  unfolding closed
  closed-is = close-call (port_at n port) refl

-- the calls of a client that is there
module _ (n : NodeState) (c : ClientState) (h port : ℕ) where
  provide-sized : (size prio t : ℕ) (ts : List ℕ) (p : PortState) (bad : Bool) → port_at n port ≡ Some p → c.recvs ≡ t ∷ ts
      → IsCall n (Some c) h port (Provide h port size prio) (if bad then refused n (Some c) BadSize else left n port (Some (provided_with p (record { token = t; size = size; prio = prio; filling = None; buffer = empty_buffer size }))) (Some (record c { recvs = ts })) (Token t))
  provide-sized size prio t ts p true e f = IsCall.refuses ProvideCall BadSize refl provide_bad_size
  provide-sized size prio t ts p false e f = IsCall.provides size prio t ts p c e refl f

  provide-call : (size prio : ℕ) (p : PortState) (tokens : List ℕ) → port_at n port ≡ Some p → c.recvs ≡ tokens → IsCall n (Some c) h port (Provide h port size prio) (provide_with n port size prio p c tokens)
  provide-call size prio p [] e f = IsCall.refuses ProvideCall NoToken refl provide_no_token
  provide-call size prio p (t ∷ ts) e f = provide-sized size prio t ts p (is_bad_size size prio) e f

  send-caused : (dest dport prio len seed : ℕ) (p : PortState) (t : ℕ) (ts : List ℕ) (long unrouted spent : Bool) → port_at n port ≡ Some p → c.sends ≡ t ∷ ts
      → IsCall n (Some c) h port (Send h port dest dport prio len seed) (send_unless n (wanted port dest dport prio len seed) p c t ts (if long then Some TooLong else if unrouted then Some NoRoute else if spent then Some Spent else None))
  send-caused dest dport prio len seed p t ts true unrouted spent e f = IsCall.refuses SendCall TooLong refl send_too_long
  send-caused dest dport prio len seed p t ts false true spent e f = IsCall.refuses SendCall NoRoute refl send_no_route
  send-caused dest dport prio len seed p t ts false false true e f = IsCall.refuses SendCall Spent refl send_spent
  send-caused dest dport prio len seed p t ts false false false e f = IsCall.accepts dest dport prio len seed t ts p c e refl f

  send-call : (dest dport prio len seed : ℕ) (p : PortState) (tokens : List ℕ) → port_at n port ≡ Some p → c.sends ≡ tokens → IsCall n (Some c) h port (Send h port dest dport prio len seed) (send_with n (wanted port dest dport prio len seed) p c tokens)
  send-call dest dport prio len seed p [] e f = IsCall.refuses SendCall NoToken refl send_no_token
  send-call dest dport prio len seed p (t ∷ ts) e f =
      let s = wanted port dest dport prio len seed in
      send-caused dest dport prio len seed p t ts (is_too_long s.len) (is_none (table_route n.table s.dest)) (is_spent (lane_at n (wanted_lane s)).sender (piece_count s.len)) e f

  poll-call : (p : PortState) (o : Option PortEvent) → port_at n port ≡ Some p → next_event p ≡ o → IsCall n (Some c) h port (Poll h port) (handed_out n port p c o)
  poll-call p None e f = IsCall.rests
  poll-call p (Some (Sent t buffer)) e f = IsCall.hands_sent t buffer p c e refl f
  poll-call p (Some (Received t buffer from sport prio len)) e f = IsCall.hands_received t buffer from sport prio len p c e refl f

module _ (n : NodeState) (h port : ℕ) where
  provide-opened : (c : Option ClientState) (size prio : ℕ) (o : Option PortState) → port_at n port ≡ o → IsCall n c h port (Provide h port size prio) (provide_open n port size prio c o)
  provide-opened None size prio o e = IsCall.refuses ProvideCall NotOpen refl provide_not_open
  provide-opened (Some c) size prio None e = IsCall.refuses ProvideCall NotOpen refl provide_not_open
  provide-opened (Some c) size prio (Some p) e = provide-call n c h port size prio p c.recvs e refl

  send-opened : (c : Option ClientState) (dest dport prio len seed : ℕ) (o : Option PortState) → port_at n port ≡ o → IsCall n c h port (Send h port dest dport prio len seed) (send_open n (wanted port dest dport prio len seed) c o)
  send-opened None dest dport prio len seed o e = IsCall.refuses SendCall NotOpen refl send_not_open
  send-opened (Some c) dest dport prio len seed None e = IsCall.refuses SendCall NotOpen refl send_not_open
  send-opened (Some c) dest dport prio len seed (Some p) e = send-call n c h port dest dport prio len seed p c.sends e refl

  poll-opened : (c : Option ClientState) (o : Option PortState) → port_at n port ≡ o → IsCall n c h port (Poll h port) (poll_open n port c o)
  poll-opened None o e = IsCall.refuses PollCall NotOpen refl poll_not_open
  poll-opened (Some c) None e = IsCall.refuses PollCall NotOpen refl poll_not_open
  poll-opened (Some c) (Some p) e = poll-call n c h port p (next_event p) e refl

  pub provided-is : (c : Option ClientState) (size prio : ℕ) → IsCall n c h port (Provide h port size prio) (provided_by n port size prio c)
  unfolding provided_by
  provided-is c size prio = provide-opened c size prio (port_at n port) refl

  pub sent-is : (c : Option ClientState) (dest dport prio len seed : ℕ) → IsCall n c h port (Send h port dest dport prio len seed) (sent_by n (wanted port dest dport prio len seed) c)
  unfolding sent_by
  sent-is c dest dport prio len seed = send-opened c dest dport prio len seed (port_at n port) refl

  pub polled-is : (c : Option ClientState) → IsCall n c h port (Poll h port) (polled_by n port c)
  unfolding polled_by
  polled-is c = poll-opened c (port_at n port) refl
