-- What a call makes of its port: it stays, opens, closes, or has a buffer more, or an event less; or a message is accepted.
use Rattle.std.proofs.Common.{◌≡◌, ℕ, List, ◌∷◌, length, set, Option, Some, None, refl, sym}
use Rattle.std.proofs.lemmas.List.{set-get_or}
use Rattle.gm_defs.specs.Token.{PortState, opened}
use Rattle.gm_defs.specs.Port.{provided_with, polled}
use Rattle.world_defs.specs.Node.{NodeState, port_at}
use Rattle.world_defs.specs.Client.{ClientState, Called, Wanted, empty_buffer, send_accepted, send_refusal}
use Rattle.world_defs.proofs.Calls.{Call}

-- what a call makes of a port
pub data PortCalled (o r : Option PortState) : Type 0 where
  stays : r ≡ o → PortCalled o r
  opens : (sends recvs : ℕ) → o ≡ None → r ≡ Some (opened sends recvs) → PortCalled o r
  closes : (p : PortState) → o ≡ Some p → length p.queue ≡ 0 → r ≡ None → PortCalled o r
  provides : (p : PortState) (token size prio : ℕ) → o ≡ Some p → r ≡ Some (provided_with p (record { token = token; size = size; prio = prio; filling = None; buffer = empty_buffer size })) → PortCalled o r
  polls : (p : PortState) → o ≡ Some p → r ≡ Some (polled p) → PortCalled o r

-- and of its host
pub record IsCall (n : NodeState) (port : ℕ) (call : Called) : Type 0 where
  pub after : Option PortState
  pub ports : call.node.ports ≡ set n.ports port after
  pub change : PortCalled (port_at n port) after

-- What a call makes of its host: its port alone changes, or a message is accepted.
pub data CallDoes (n : NodeState) (c : Option ClientState) : ℕ → Called → Type 0 where
  at_port : {port : ℕ} {call : Called} → IsCall n port call → call.node.lanes ≡ n.lanes → CallDoes n c port call
  accepts : (s : Wanted) (p : PortState) (d : ClientState) (t : ℕ) (ts : List ℕ) → port_at n s.port ≡ Some p → c ≡ Some d → d.sends ≡ t ∷ ts → send_refusal n s ≡ None → CallDoes n c s.port (send_accepted n s p d t ts)

pub call-does : {n : NodeState} {c : Option ClientState} {port : ℕ} {call : Called} → Call n c port call → CallDoes n c port call
call-does {n = n} (Call.rests {port = port}) = CallDoes.at_port (record { after = port_at n port; ports = sym (set-get_or n.ports port None); change = stays refl }) refl
call-does (Call.opens sends recvs e) = CallDoes.at_port (record { after = Some (opened sends recvs); ports = refl; change = opens sends recvs e refl }) refl
call-does (Call.closes p e f) = CallDoes.at_port (record { after = None; ports = refl; change = closes p e f.finished refl }) refl
call-does (Call.provides size prio t ts p d e f g k) =
    CallDoes.at_port (record { after = Some (provided_with p (record { token = t; size = size; prio = prio; filling = None; buffer = empty_buffer size })); ports = refl; change = provides p t size prio e refl }) refl
call-does (Call.accepts s t ts p d e f g k) = CallDoes.accepts s p d t ts e f g k
call-does (Call.hands_sent t buffer p d e f g) = CallDoes.at_port (record { after = Some (polled p); ports = refl; change = polls p e refl }) refl
call-does (Call.hands_received t buffer from sport prio len p d e f g) = CallDoes.at_port (record { after = Some (polled p); ports = refl; change = polls p e refl }) refl
