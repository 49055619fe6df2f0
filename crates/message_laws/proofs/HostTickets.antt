-- What is known of the hosts of a world, and what each change of one leaves of its sends, tickets and messages.
use Rattle.std.proofs.Common.{◌≡◌, ◌≢◌, ◌<◌, ℕ, false, List, [], ◌∷◌, ◌++◌, length, is_none, Option, Some, None, refl, sym, ap, ◌∙◌, subst}
use Rattle.std.specs.List.{AllByRecursion}
use Rattle.net_defs.specs.Network.{Apart}
use Rattle.gm_defs.specs.Body.{part_in}
use Rattle.gm_defs.specs.Connection.{IsSender}
use Rattle.gm_defs.specs.Token.{PortState, sent_tokens}
use Rattle.world_defs.specs.Table.{table_route}
use Rattle.world_defs.specs.Node.{NodeState, lane_count, prio_of, lane_at, port_at}
use Rattle.world_defs.specs.Hearing.{ack_lane, frame_took, hear}
use Rattle.world_defs.specs.Client.{ClientState, Called, Wanted, client_bytes, wanted_message, wanted_lane, send_accepted, send_refusal}
use Rattle.world_defs.proofs.Lanes.{lane_of-below}
use Rattle.world_defs.specs.Sound.{HasOwners, AreOwned}
use Rattle.message_laws.proofs.Lanes.{IsNumbered}
use Rattle.message_laws.proofs.Heard.{IsHeard, quietly, of_frame, of_ack, hear-is}
use Rattle.ticket_laws.specs.Host.{send_in, HasApartSends, AllApart}
use Rattle.ticket_laws.proofs.Sendings.{tokens, under-none}
use Rattle.ticket_laws.proofs.Ports.{SameSends, closed-sends, set-sends, lanes-same, HostMatched, host-same}
use Rattle.ticket_laws.proofs.Hosts.{quiet-same, frame-matched, acknowledged-matched, accept-matched}
use Rattle.world_defs.proofs.Calls.{not_refused-acceptable}
use Rattle.message_laws.specs.Unfinished.{HasBytes}
use Rattle.message_laws.proofs.Calls.{PortCalled, stays, opens, closes, provides, polls, IsCall, CallDoes}

-- sends, tickets and messages of a host are matched
abbrev pub IsMatched : NodeState → Type 0
IsMatched n = HostMatched HasBytes n

-- what is known of a host, one of so many, and of its clients
pub record IsKnown (n : NodeState) (client : ℕ → Option ClientState) (hosts : ℕ) : Type 0 where
  pub numbered : (k : ℕ) → IsNumbered (prio_of k) (lane_at n k)
  pub senders : (k : ℕ) → IsSender (lane_at n k).sender
  pub owned : (port : ℕ) → AreOwned (port_at n port) (client port)
  pub lanes : length n.lanes ≡ lane_count hosts
  pub routed : (dest : ℕ) → is_none (table_route n.table dest) ≡ false → dest < hosts

-- parts of what is apart
pub all-front : {X : Type 0} (P : X → Type 0) (xs ys : List X) → AllByRecursion P (xs ++ ys) → AllByRecursion P xs
all-front P [] ys all = tt
all-front P (z ∷ xs) ys all = (all.0, all-front P xs ys all.1)

apart-front : {X : Type 0} (xs ys : List X) → Apart (xs ++ ys) → Apart xs
apart-front [] ys a = tt
apart-front (x ∷ xs) ys a = (all-front (λ y. x ≢ y) xs ys a.0, apart-front xs ys a.1)

apart-back : {X : Type 0} (xs ys : List X) → Apart (xs ++ ys) → Apart ys
apart-back [] ys a = a
apart-back (x ∷ xs) ys a = apart-back xs ys a.1

all-middle : {X : Type 0} (P : X → Type 0) (xs ys zs : List X) → AllByRecursion P (xs ++ (ys ++ zs)) → AllByRecursion P ys
all-middle P [] [] zs all = tt
all-middle P [] (y ∷ ys) zs all = (all.0, all-middle P [] ys zs all.1)
all-middle P (x ∷ xs) ys zs all = all-middle P xs ys zs all.1

owned-apart : (o : Option PortState) (c : Option ClientState) → AreOwned o c → HasApartSends o
owned-apart None c own = tt
owned-apart (Some p) None own = absurd own
owned-apart (Some p) (Some c) own = apart-front (tokens p.queue) (sent_tokens p.events) (apart-back c.sends (tokens p.queue ++ sent_tokens p.events) own.sends.once)

-- a call that is no send leaves the sends
pub called-sends : (o r : Option PortState) → PortCalled o r → SameSends o r
called-sends o r (stays e) = record { each = λ t. ap (λ z. send_in z t) e }
called-sends o r (opens sends recvs e d) = record { each = λ t. ap (λ z. send_in z t) d ∙ sym (ap (λ z. send_in z t) e) }
called-sends o r (closes p e none d) = record { each = λ t. ap (λ z. send_in z t) d ∙ ((closed-sends p none).each t ∙ sym (ap (λ z. send_in z t) e)) }
called-sends o r (provides p token size prio e d) = record { each = λ t. ap (λ z. send_in z t) d ∙ sym (ap (λ z. send_in z t) e) }
called-sends o r (polls p e d) = record { each = λ t. ap (λ z. send_in z t) d ∙ sym (ap (λ z. send_in z t) e) }

pub call-same : (n : NodeState) (port : ℕ) (call : Called) → IsCall n port call → call.node.lanes ≡ n.lanes → IsMatched n → IsMatched call.node
call-same n port call is e = host-same HasBytes n call.node (set-sends n call.node port is.after is.ports (called-sends (port_at n port) is.after is.change)) (lanes-same n call.node e)

module _ (n : NodeState) (client : ℕ → Option ClientState) (hosts : ℕ) (known : IsKnown n client hosts) where
  pub all-apart : AllApart n.ports
  all-apart = record { each = λ port. owned-apart (port_at n port) (client port) (known.owned port) }

  lane-there : (lane : ℕ) → lane < lane_count hosts → lane < length n.lanes
  lane-there lane low = subst (λ count. lane < count) (sym known.lanes) low

  heard-matched : (host : ℕ) (wire : List ℕ) (m : NodeState) → IsHeard host hosts n wire m → IsMatched n → IsMatched m
  heard-matched host wire m (quietly e f) is = quiet-same HasBytes n m e f is
  heard-matched host wire m (of_frame body h e d mine there now) is = subst IsMatched (sym now) (frame-matched HasBytes n h (part_in body) (frame_took n h) is)
  heard-matched host wire m (of_ack body a e d mine there now) is =
      subst IsMatched (sym now) (acknowledged-matched HasBytes n (ack_lane a) a.next (known.senders (ack_lane a)) (lane-there (ack_lane a) (lane_of-below hosts a.src a.prio there)) all-apart is)

  pub hear-matched : (host : ℕ) (wire : List ℕ) → IsMatched n → IsMatched (hear host hosts n wire).1
  hear-matched host wire is = heard-matched host wire (hear host hosts n wire).1 (hear-is host hosts n wire) is

  -- a message is accepted: the client had the token
  accepted-matched : (s : Wanted) (p : PortState) (c : ClientState) (t : ℕ) (ts : List ℕ) → port_at n s.port ≡ Some p → c.sends ≡ t ∷ ts → HasOwners p c → send_refusal n s ≡ None → IsMatched n → IsMatched (send_accepted n s p c t ts).node
  accepted-matched s p c t ts e f own none =
      accept-matched HasBytes n (wanted_lane s) s.port t (wanted_message s) (client_bytes s.len s.seed) p
      (record {
        lane_there = lane-there (wanted_lane s) (lane_of-below hosts s.dest s.prio (known.routed s.dest (not_refused-acceptable n s none).routed));
        sender = known.senders (wanted_lane s);
        numbered = (known.numbered (wanted_lane s)).numbered;
        open_there = e;
        free = under-none t p.queue (all-middle (λ y. t ≢ y) ts (tokens p.queue) (sent_tokens p.events) (subst (λ l. Apart (l ++ (tokens p.queue ++ sent_tokens p.events))) f own.sends.once).0);
        of_port = refl;
        bytes = refl;
      })

  owners : (o : Option PortState) (d : Option ClientState) (p : PortState) (c : ClientState) → o ≡ Some p → d ≡ Some c → AreOwned o d → HasOwners p c
  owners o d p c e f own = subst (λ z. AreOwned (Some p) z) f (subst (λ z. AreOwned z d) e own)

  pub called-matched : {port : ℕ} {call : Called} → CallDoes n (client port) port call → IsMatched n → IsMatched call.node
  called-matched (CallDoes.at_port {port = port} {call = call} i e) is = call-same n port call i e is
  called-matched (CallDoes.accepts s p c t ts e d f none) is = accepted-matched s p c t ts e f (owners (port_at n s.port) (client s.port) p c e d (known.owned s.port)) none is
