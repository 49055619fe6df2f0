-- What a client's call makes of its port and of the client: tokens go from the one to the other, or begin, or end.
use Rattle.std.proofs.Common.{◌≡◌, ℕ, [], ◌∷◌, ◌++◌, set, Option, Some, None, refl, sym, ap, subst}
use Rattle.std.proofs.lemmas.List.{set-get_or}
use Rattle.gm_defs.specs.Token.{PortState, Provided, opened}
use Rattle.gm_defs.specs.Port.{sent_with, provided_with, polled}
use Rattle.world_defs.specs.declared.effect.Said.{Said}
use Rattle.world_defs.specs.Node.{NodeState, port_at}
use Rattle.world_defs.specs.Client.{ClientState, Called, new_client, client_bytes, empty_buffer, left}
use Rattle.world_defs.specs.declared.effect.Said.TheVariants.{Token}
use Rattle.world_defs.proofs.Calls.{Call}
use Rattle.world_defs.specs.Sound.{HasOwners, AreOwned}
use Rattle.token_moves.proofs.Moves.{owned-new, owned-provided, owned-sending, owned-polled_sent, owned-polled_received}

-- the one port that a call may change, with its client
pub record CallOwned (n : NodeState) (port : ℕ) (call : Called) : Type 0 where
  pub at_port : Option PortState
  pub ports : call.node.ports ≡ set n.ports port at_port
  pub owned : AreOwned at_port call.client

stays : (n : NodeState) (port : ℕ) (c : Option ClientState) (said : Said) → AreOwned (port_at n port) c → CallOwned n port (record { said = said; node = n; client = c })
stays n port c said is = record { at_port = port_at n port; ports = sym (set-get_or n.ports port None); owned = is }

changes : (n m : NodeState) (port : ℕ) (p : Option PortState) (c : Option ClientState) (said : Said) → m.ports ≡ n.ports → AreOwned p c → CallOwned n port (left m port p c said)
changes n m port p c said e is = record { at_port = p; ports = ap (λ ps. set ps port p) e; owned = is }

both-owned : {o : Option PortState} {c : Option ClientState} (p : PortState) (d : ClientState) → o ≡ Some p → c ≡ Some d → AreOwned o c → HasOwners p d
both-owned {o = o} p d e f is = subst (λ q. AreOwned q (Some d)) e (subst (λ b. AreOwned o b) f is)

-- every call
pub call-owned : {n : NodeState} {c : Option ClientState} {port : ℕ} {call : Called} → Call n c port call → AreOwned (port_at n port) c → CallOwned n port call
call-owned {n = n} {c = c} (Call.rests {port = port}) is = stays n port c _ is
call-owned {n = n} (Call.opens {port = port} sends recvs e) is = changes n n port (Some (opened sends recvs)) (Some (new_client sends recvs)) _ refl (owned-new sends recvs)
call-owned {n = n} (Call.closes {port = port} p e f) is = changes n n port None None _ refl tt
call-owned {n = n} (Call.provides {port = port} size prio t ts p d e f g k) is =
    let q : Provided = record { token = t; size = size; prio = prio; filling = None; buffer = empty_buffer size } in
    changes n n port (Some (provided_with p q)) (Some (record d { recvs = ts })) (Token t) refl (owned-provided p d q ts g (both-owned p d e f is))
call-owned {n = n} (Call.accepts s t ts p d e f g k) is =
    record { at_port = Some (sent_with p t (client_bytes s.len s.seed)); ports = refl; owned = owned-sending p d t (client_bytes s.len s.seed) ts g (both-owned p d e f is) }
call-owned {n = n} (Call.hands_sent {port = port} t buffer p d e f g) is =
    changes n n port (Some (polled p)) (Some (record d { sends = d.sends ++ t ∷ [] })) _ refl (owned-polled_sent p d t buffer g (both-owned p d e f is))
call-owned {n = n} (Call.hands_received {port = port} t buffer from sport prio len p d e f g) is =
    changes n n port (Some (polled p)) (Some (record d { recvs = d.recvs ++ t ∷ [] })) _ refl (owned-polled_received p d t buffer from sport prio len g (both-owned p d e f is))
