-- A port keeps its client whatever the client calls, and each token its one owner.
use Rattle.std.proofs.Common.{◌≡◌, ℕ, List, Option, Some, None, option_map, refl, sym, ap, ◌∙◌}
use Rattle.std.specs.Prelude.{drop, slice_get}
use Rattle.std.proofs.lemmas.Option.{same_Some, none-some}
use Rattle.gm_defs.specs.declared.frame.FrameHead.{FrameHead}
use Rattle.gm_defs.specs.Token.{Sending, Provided, PortEvent, Sent, Received, PortState, place_of_send, place_of_recv}
use Rattle.gm_defs.specs.Port.{sent_with, provided_with, send_of, ended_by, finished, delivered, next_event, polled}
use Rattle.gm_defs.proofs.Takers.{Delivery, delivery}
use Rattle.gm_tokens.specs.Token.{Token, token_at}
use Rattle.gm_port.specs.declared.event.PortEvent.{PortEvent as Event}
use Rattle.gm_port.specs.Held.{event_at, event_of}
use Rattle.gm_port.specs.Opened.{OpenPort}
use Rattle.token_moves.proofs.Moves.{front, owned-provided, owned-sending, owned-finished, owned-delivered, owned-polled_sent, owned-polled_received}
use Rattle.port_client.specs.Held.{OpenClient, with_sends, with_recvs}
use Rattle.port_client.specs.Back.{with_event}
use Rattle.port_client.specs.Serving.{IsClientOf}
use Rattle.port_client.proofs.Tokens.{taken-is, held-send, held-recv, same-event}

-- the same port in another state
abbrev pub now : OpenPort → PortState → OpenPort
now p s = record p { state = s }

-- a token that the client takes from the front is in no place of the port
pub free-send : (p : OpenPort) (c : OpenClient) (t : Token) → IsClientOf p c → option_map (token_at c.host c.port) (slice_get c.held.sends 0) ≡ Some t → place_of_send p.state t.number ≡ None
free-send p c t is e = (held-send p.state c.held t.number (taken-is c.host c.port c.held.sends t e).first is.owners).1

pub free-recv : (p : OpenPort) (c : OpenClient) (t : Token) → IsClientOf p c → option_map (token_at c.host c.port) (slice_get c.held.recvs 0) ≡ Some t → place_of_recv p.state t.number ≡ None
free-recv p c t is e = (held-recv p.state c.held t.number (taken-is c.host c.port c.held.recvs t e).first is.owners).1

-- ---- the calls

pub client-sends : (p : OpenPort) (c : OpenClient) (t : ℕ) (buffer : List ℕ) → slice_get c.held.sends 0 ≡ Some t → IsClientOf p c → IsClientOf (now p (sent_with p.state t buffer)) (with_sends c (drop 1 c.held.sends))
client-sends p c t buffer e is = record {
  own_host = is.own_host;
  own_port = is.own_port;
  minted_sends = is.minted_sends;
  minted_recvs = is.minted_recvs;
  owners = owned-sending p.state c.held t buffer (drop 1 c.held.sends) (front c.held.sends t e) is.owners;
}

pub client-provides : (p : OpenPort) (c : OpenClient) (r : Provided) → slice_get c.held.recvs 0 ≡ Some r.token → IsClientOf p c → IsClientOf (now p (provided_with p.state r)) (with_recvs c (drop 1 c.held.recvs))
client-provides p c r e is = record {
  own_host = is.own_host;
  own_port = is.own_port;
  minted_sends = is.minted_sends;
  minted_recvs = is.minted_recvs;
  owners = owned-provided p.state c.held r (drop 1 c.held.recvs) (front c.held.recvs r.token e) is.owners;
}

finished-counts : (p : PortState) (t : ℕ) → ((finished p t).sends ≡ p.sends) × ((finished p t).recvs ≡ p.recvs)
finished-counts p t = by (send_of p t)
  where
    by : (o : Option Sending) → ((ended_by p t o).sends ≡ p.sends) × ((ended_by p t o).recvs ≡ p.recvs)
    by None = (refl, refl)
    by (Some s) = (refl, refl)

pub client-finishes : (p : OpenPort) (c : OpenClient) (t : ℕ) → IsClientOf p c → IsClientOf (now p (finished p.state t)) c
client-finishes p c t is =
    let n = finished-counts p.state t in
    record {
      own_host = is.own_host;
      own_port = is.own_port;
      minted_sends = is.minted_sends ∙ sym n.0;
      minted_recvs = is.minted_recvs ∙ sym n.1;
      owners = owned-finished p.state c.held t is.owners;
    }

delivered-counts : (p : PortState) (h : FrameHead) (part : List ℕ) → ((delivered p h part).sends ≡ p.sends) × ((delivered p h part).recvs ≡ p.recvs)
delivered-counts p h part = by (delivery p h part)
  where
    by : {q : PortState} → Delivery p h part q → (q.sends ≡ p.sends) × (q.recvs ≡ p.recvs)
    by (Delivery.missed e) = (refl, refl)
    by (Delivery.ends r e t) = (refl, refl)
    by (Delivery.goes_on r e t) = (refl, refl)

pub client-delivered : (p : OpenPort) (c : OpenClient) (h : FrameHead) (part : List ℕ) → IsClientOf p c → IsClientOf (now p (delivered p.state h part)) c
client-delivered p c h part is =
    let n = delivered-counts p.state h part in
    record {
      own_host = is.own_host;
      own_port = is.own_port;
      minted_sends = is.minted_sends ∙ sym n.0;
      minted_recvs = is.minted_recvs ∙ sym n.1;
      owners = owned-delivered p.state c.held h part is.owners;
    }

-- ---- polls

pub client-polls : (p : OpenPort) (c : OpenClient) (e : PortEvent) → next_event p.state ≡ Some e → IsClientOf p c → IsClientOf (now p (polled p.state)) (with_event c e)
client-polls p c (Sent t b) e is = record {
  own_host = is.own_host;
  own_port = is.own_port;
  minted_sends = is.minted_sends;
  minted_recvs = is.minted_recvs;
  owners = owned-polled_sent p.state c.held t b e is.owners;
}
client-polls p c (Received t b from sport prio len) e is = record {
  own_host = is.own_host;
  own_port = is.own_port;
  minted_sends = is.minted_sends;
  minted_recvs = is.minted_recvs;
  owners = owned-polled_received p.state c.held t b from sport prio len e is.owners;
}

-- the event that a port handed out was its next
pub handed-next : (p : OpenPort) (o : Option Event) (e : Event) → o ≡ Some e → o ≡ option_map (event_at p.host p.port) (next_event p.state) → next_event p.state ≡ Some (event_of e)
handed-next p o e some first = by (next_event p.state) refl
  where
    by : (n : Option PortEvent) → next_event p.state ≡ n → next_event p.state ≡ Some (event_of e)
    by None f = absurd (none-some e (sym (ap (option_map (event_at p.host p.port)) f) ∙ (sym first ∙ some)))
    by (Some x) f =
        let made : event_at p.host p.port x ≡ e = same_Some (event_at p.host p.port x) e (sym (ap (option_map (event_at p.host p.port)) f) ∙ (sym first ∙ some)) in
        f ∙ ap (λ n. Some n) (sym (same-event p.host p.port x) ∙ ap event_of made)
