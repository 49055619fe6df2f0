-- What a client's call leaves of its host and of the client.
use Rattle.std.proofs.Common.{◌≡◌, ◌≤◌, ◌+◌, ◌%◌, ℕ, false, List, length, set, Option, Some, None, is_some, refl, sym, ◌∙◌, ap, arith}
use Rattle.std.proofs.Math.ListN.{length-set}
use Rattle.std.proofs.lemmas.List.{set-get_or}
use Rattle.std.proofs.lemmas.List.FromFn.{length-map-range_with_len}
use Rattle.std.proofs.lemmas.Bool.Decides.{nat_tests}
use Rattle.gm_defs.specs.Body.{number_limit}
use Rattle.gm_defs.specs.Fragment.{piece_count}
use Rattle.gm_defs.specs.Connection.{SenderState, IsSender, is_spent, offered}
use Rattle.gm_defs.specs.Token.{PortState}
use Rattle.gm_defs.specs.Port.{sent_with}
use Rattle.world_defs.specs.declared.effect.Said.{Said}
use Rattle.world_defs.specs.Lane.{LaneState, new_lane, with_message}
use Rattle.world_defs.specs.Node.{NodeState, lane_at, port_at}
use Rattle.world_defs.specs.Client.{ClientState, Called, Wanted, wanted_lane, wanted_message, client_bytes, left, send_accepted}
use Rattle.world_defs.proofs.Calls.{Call, not_refused-acceptable}
use Rattle.world_laws.proofs.Lists.{at-set}

-- the numbers of a sender: in order if they were, and the base as it was
pub record SenderCalled (s t : SenderState) : Type 0 where
  pub in_order : IsSender s → IsSender t
  pub base : t.base ≡ s.base

sender_same : (s : SenderState) → SenderCalled s s
sender_same s = record { in_order = λ is. is; base = refl }

-- a host and the client of a port: the port is open exactly where the client is there
pub record CallKept (n : NodeState) (port : ℕ) (c : Option ClientState) (call : Called) : Type 0 where
  pub at_port : Option PortState
  pub ports : call.node.ports ≡ set n.ports port at_port
  pub open_port : is_some c ≡ is_some (port_at n port) → is_some call.client ≡ is_some at_port
  pub lanes : length call.node.lanes ≡ length n.lanes
  pub senders : (lane : ℕ) → SenderCalled (lane_at n lane).sender (lane_at call.node lane).sender

-- nothing changed
stays : (n : NodeState) (port : ℕ) (c : Option ClientState) (said : Said) → CallKept n port c (record { said = said; node = n; client = c })
stays n port c said = record {
  at_port = port_at n port;
  ports = sym (set-get_or n.ports port None);
  open_port = λ e. e;
  lanes = refl;
  senders = λ lane. sender_same (lane_at n lane).sender;
}

-- the port alone changed
left-kept : (n : NodeState) (port : ℕ) (b : Option ClientState) (p : Option PortState) (c : Option ClientState) (said : Said) → is_some c ≡ is_some p → CallKept n port b (left n port p c said)
left-kept n port b p c said e = record { at_port = p; ports = refl; open_port = λ _. e; lanes = refl; senders = λ lane. sender_same (lane_at n lane).sender }

-- fragments are offered where there are numbers for them
offered-called : (s : SenderState) (count : ℕ) → is_spent s count ≡ false → SenderCalled s (offered s count)
offered-called s count e =
    let room : s.next + count ≤ number_limit = grind (arith, nat_tests) in
    record { in_order = λ is. record { base_below = is.base_below; cursor_below = is.cursor_below; top_below = let a = is.top_below in omega (arith, a); in_range = omega (arith, room) }; base = refl }

accepted-kept : (n : NodeState) (s : Wanted) (p : PortState) (b : Option ClientState) (c : ClientState) (t : ℕ) (ts : List ℕ) → is_spent (lane_at n (wanted_lane s)).sender (piece_count s.len) ≡ false → length (client_bytes s.len s.seed) ≡ s.len → CallKept n s.port b (send_accepted n s p c t ts)
accepted-kept n s p b c t ts e long =
    let q : LaneState = with_message (lane_at n (wanted_lane s)) (wanted_message s) (record { port = s.port; token = t }) in
    let k : SenderCalled (lane_at n (wanted_lane s)).sender q.sender = offered-called (lane_at n (wanted_lane s)).sender (piece_count (length (client_bytes s.len s.seed))) (ap (λ l. is_spent (lane_at n (wanted_lane s)).sender (piece_count l)) long ∙ e) in
    record {
      at_port = Some (sent_with p t (client_bytes s.len s.seed));
      ports = refl;
      open_port = λ _. refl;
      lanes = length-set n.lanes (wanted_lane s) q;
      senders = λ j. at-set (λ a b. SenderCalled a.sender b.sender) (λ a. sender_same a.sender) n.lanes (wanted_lane s) j q new_lane k;
    }

pub call-kept : {n : NodeState} {c : Option ClientState} {port : ℕ} {call : Called} → Call n c port call → CallKept n port c call
call-kept {n = n} {c = c} (Call.rests {port = port}) = stays n port c _
call-kept {n = n} {c = c} (Call.opens {port = port} sends recvs d) = left-kept n port c _ _ _ refl
call-kept {n = n} {c = c} (Call.closes {port = port} p d e) = left-kept n port c None None _ refl
call-kept {n = n} {c = c} (Call.provides {port = port} size prio t ts p d e f g k) = left-kept n port c _ _ _ refl
call-kept {n = n} {c = c} (Call.accepts s t ts p d e f g k) =
    accepted-kept n s p c d t ts (not_refused-acceptable n s k).numbered (length-map-range_with_len (λ i. (s.seed + i) % 256) 0 s.len)
call-kept {n = n} {c = c} (Call.hands_sent {port = port} t buffer p d e f g) = left-kept n port c _ _ _ refl
call-kept {n = n} {c = c} (Call.hands_received {port = port} t buffer from sport prio len p d e f g) = left-kept n port c _ _ _ refl
