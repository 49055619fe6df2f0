-- What clients' calls bring: nothing, but for an accepted message.
use Rattle.std.proofs.Common.{◌≡◌, ◌≤◌, ◌+◌, ◌*◌, ℕ, Bool, true, false, List, [], ◌∷◌, length, Option, Some, None, refl, ap, ◌∙◌, arith, if◌then◌else◌}
use Rattle.std.specs.Prelude.{◌%◌}
use Rattle.std.specs.List.{range_with_len}
use Rattle.std.proofs.lemmas.List.{length-map}
use Rattle.std.proofs.lemmas.List.FromFn.{length-range_with_len}
use Rattle.gm_defs.specs.Token.{PortState, PortEvent, Sent, Received}
use Rattle.gm_defs.specs.Fragment.{piece_count}
use Rattle.gm_defs.specs.Connection.{unacknowledged}
use Rattle.gm_defs.specs.Port.{is_too_long, is_bad_size, next_event}
use Rattle.world_defs.specs.declared.client.ClientCause.{ClientCause}
use Rattle.world_defs.specs.Lane.{LaneState, with_message}
use Rattle.world_defs.specs.Node.{NodeState, lane_at, port_at}
use Rattle.world_defs.specs.Client.{ClientState, Called, Wanted, client_bytes, wanted_lane, wanted_message, begin_at, begun, close_refusal, close_unless, close_open, closed, provide_with, provide_open, provided_by, send_accepted, send_refusal, send_unless, send_with, send_open, sent_by, handed_out, poll_open, polled_by}
use Rattle.world_defs.proofs.Calls.{not_refused-acceptable}
use Rattle.injection_bounds.specs.Credit.{node_credit}
use Rattle.injection_bounds.specs.Paid.{send_cost}
use Rattle.injection_bounds.proofs.Lanes.{lane-set, message-lane}
use Rattle.injection_bounds.proofs.Offers.{from_host, offered-host}

-- a call that brings nothing, and leaves the lanes
abbrev pub IsFree : NodeState → Called → Type 0
IsFree n call = (node_credit call.node ≡ node_credit n) × (call.node.lanes ≡ n.lanes)

module _ (n : NodeState) (c : Option ClientState) (port : ℕ) where
  begin_at-free : (sends recvs : ℕ) (o : Option PortState) → IsFree n (begin_at n port sends recvs c o)
  begin_at-free sends recvs (Some p) = (refl, refl)
  begin_at-free sends recvs None = (refl, refl)

  pub begun-free : (sends recvs : ℕ) → IsFree n (begun n port sends recvs c)
  unfolding begun
  begun-free sends recvs = begin_at-free sends recvs (port_at n port)

  close_unless-free : (p : PortState) (o : Option ClientCause) → IsFree n (close_unless n port c p o)
  close_unless-free p (Some cause) = (refl, refl)
  close_unless-free p None = (refl, refl)

  close_open-free : (o : Option PortState) → IsFree n (close_open n port c o)
  close_open-free None = (refl, refl)
  close_open-free (Some p) = close_unless-free p (close_refusal p)

  pub closed-free : IsFree n (closed n port c)
  unfolding closed
  closed-free = close_open-free (port_at n port)

one-of : (n : NodeState) (b : Bool) (x y : Called) → IsFree n x → IsFree n y → IsFree n (if b then x else y)
one-of n true x y f g = f
one-of n false x y f g = g

module _ (n : NodeState) (port size prio : ℕ) where
  provide_with-free : (p : PortState) (d : ClientState) (ts : List ℕ) → IsFree n (provide_with n port size prio p d ts)
  provide_with-free p d [] = (refl, refl)
  provide_with-free p d (t ∷ ts) = one-of n (is_bad_size size prio) _ _ (refl, refl) (refl, refl)

  provide_open-free : (c : Option ClientState) (o : Option PortState) → IsFree n (provide_open n port size prio c o)
  provide_open-free (Some d) (Some p) = provide_with-free p d d.recvs
  provide_open-free (Some d) None = (refl, refl)
  provide_open-free None o = (refl, refl)

  pub provided_by-free : (c : Option ClientState) → IsFree n (provided_by n port size prio c)
  unfolding provided_by
  provided_by-free c = provide_open-free c (port_at n port)

module _ (n : NodeState) (port : ℕ) where
  handed_out-free : (p : PortState) (d : ClientState) (o : Option PortEvent) → IsFree n (handed_out n port p d o)
  handed_out-free p d None = (refl, refl)
  handed_out-free p d (Some (Sent t buffer)) = (refl, refl)
  handed_out-free p d (Some (Received t buffer from sport prio len)) = (refl, refl)

  poll_open-free : (c : Option ClientState) (o : Option PortState) → IsFree n (poll_open n port c o)
  poll_open-free (Some d) (Some p) = handed_out-free p d (next_event p)
  poll_open-free (Some d) None = (refl, refl)
  poll_open-free None o = (refl, refl)

  pub polled_by-free : (c : Option ClientState) → IsFree n (polled_by n port c)
  unfolding polled_by
  polled_by-free c = poll_open-free c (port_at n port)

-- a message brings its fragments
client-length : (len seed : ℕ) → length (client_bytes len seed) ≡ len
client-length len seed = length-map (range_with_len 0 len) (λ i. (seed + i) % 256) ∙ length-range_with_len 0 len

-- the fragments that a message offers, if it is accepted
abbrev pub offered_of : ℕ → ℕ
offered_of len = if is_too_long len then 0 else piece_count len

module _ (n : NodeState) (s : Wanted) where
  -- a call that brings and offers no more than the message may
  abbrev IsBought : Called → Type 0
  IsBought call = (node_credit call.node ≤ node_credit n + send_cost s.len) × ((hosts : ℕ) → from_host call.node.lanes hosts ≤ from_host n.lanes hosts + offered_of s.len)

  nothing-bought : (node_credit n ≤ node_credit n + send_cost s.len) × ((hosts : ℕ) → from_host n.lanes hosts ≤ from_host n.lanes hosts + offered_of s.len)
  nothing-bought = (omega arith, λ hosts. omega arith)

  accepted-bought : (p : PortState) (d : ClientState) (t : ℕ) (ts : List ℕ) → send_refusal n s ≡ None → IsBought (send_accepted n s p d t ts)
  accepted-bought p d t ts e =
      let lane : ℕ = wanted_lane s in
      let l : LaneState = with_message (lane_at n lane) (wanted_message s) (record { port = s.port; token = t }) in
      let a = lane-set n lane l in
      let m = message-lane (lane_at n lane) (wanted_message s) (record { port = s.port; token = t }) in
      let long : piece_count (length (client_bytes s.len s.seed)) ≡ piece_count s.len = ap piece_count (client-length s.len s.seed) in
      let fits = (not_refused-acceptable n s e).short in
      let short : send_cost s.len ≡ 2 * piece_count s.len = ap (λ b. if b then 0 else 2 * piece_count s.len) fits in
      let offers : offered_of s.len ≡ piece_count s.len = ap (λ b. if b then 0 else piece_count s.len) fits in
      let more : unacknowledged l.sender ≤ unacknowledged (lane_at n lane).sender + offered_of s.len = omega (arith, long, offers) in
      (omega (arith, a, m, long, short), λ hosts. offered-host n.lanes s.dest s.prio l (offered_of s.len) hosts more)

  send_unless-bought : (p : PortState) (d : ClientState) (t : ℕ) (ts : List ℕ) (o : Option ClientCause) → send_refusal n s ≡ o → IsBought (send_unless n s p d t ts o)
  send_unless-bought p d t ts (Some cause) e = nothing-bought
  send_unless-bought p d t ts None e = accepted-bought p d t ts e

  send_with-bought : (p : PortState) (d : ClientState) (ts : List ℕ) → IsBought (send_with n s p d ts)
  send_with-bought p d [] = nothing-bought
  send_with-bought p d (t ∷ ts) = send_unless-bought p d t ts (send_refusal n s) refl

  send_open-bought : (c : Option ClientState) (o : Option PortState) → IsBought (send_open n s c o)
  send_open-bought (Some d) (Some p) = send_with-bought p d d.sends
  send_open-bought (Some d) None = nothing-bought
  send_open-bought None o = nothing-bought

  pub sent_by-bought : (c : Option ClientState) → IsBought (sent_by n s c)
  unfolding sent_by
  sent_by-bought c = send_open-bought c (port_at n s.port)
