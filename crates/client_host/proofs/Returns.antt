-- Tokens that come back from a call that was refused, and from a port that is closed or abandoned.
use Rattle.std.proofs.Common.{◌≡◌, ℕ, List, [], ◌∷◌, ◌++◌, length, map, Option, Some, None, option_map, refl, sym, ap, subst, ◌∙◌, append-nil, arith}
use Rattle.std.specs.Prelude.{drop, slice_get, IfSome}
use Rattle.gm_defs.specs.Token.{sent_tokens, received_tokens, PortState}
use Rattle.gm_tokens.specs.Token.{Token, token_at}
use Rattle.gm_port.specs.declared.event.Wreck.{Wreck}
use Rattle.gm_port.specs.Held.{send_at, receive_at, event_at}
use Rattle.world_defs.specs.Sound.{IsEachOnce}
use Rattle.port_client.specs.Held.{OpenClient, with_sends, with_recvs}
use Rattle.port_client.specs.Back.{numbers_with, AreOwnWith, IsWhole}
use Rattle.port_client.specs.Serving.{IsClientOf}
use Rattle.port_client.proofs.Tokens.{taken-is, put-back, own-recvs, same-recvs}
use Rattle.port_client.proofs.Returns.{wreck-whole}
use Rattle.client_host.specs.Tied.{IsServing, IsTied}

-- a port that may be closed has no other tokens than the provided ones
pub closed-owners : (host hosts port : ℕ) (p : PortState) (c : OpenClient) (provided : List (Token × List ℕ)) → IsServing host hosts port p c → length p.queue ≡ 0 → length p.events ≡ 0 → provided ≡ map (receive_at host port) p.provided
    → AreOwnWith c.host c.port provided × IsEachOnce c.minted_sends c.held.sends × IsEachOnce c.minted_recvs (c.held.recvs ++ numbers_with provided)
closed-owners host hosts port p c provided is queue events given =
    let own = is.owners in
    let no_queue : p.queue ≡ [] = empty p.queue queue in
    let no_events : p.events ≡ [] = empty p.events events in
    let at = subst (λ h. AreOwnWith h c.port provided) (sym is.own_host) (subst (λ k. AreOwnWith host k provided) (sym is.own_port) (subst (AreOwnWith host port) (sym given) (own-recvs host port p.provided))) in
    let sends : c.held.sends ++ (map (λ s. s.token) p.queue ++ sent_tokens p.events) ≡ c.held.sends = (λ i. c.held.sends ++ (map (λ s. s.token) (no_queue i) ++ sent_tokens (no_events i))) ∙ append-nil c.held.sends in
    let recvs : c.held.recvs ++ (map (λ r. r.token) p.provided ++ received_tokens p.events) ≡ c.held.recvs ++ numbers_with provided =
    (λ i. c.held.recvs ++ (map (λ r. r.token) p.provided ++ received_tokens (no_events i))) ∙ ap (λ l. c.held.recvs ++ l) (append-nil (map (λ r. r.token) p.provided) ∙ sym (ap numbers_with given ∙ same-recvs host port p.provided)) in (
      at,
      subst (λ k. IsEachOnce k c.held.sends) (sym is.minted_sends) (subst (IsEachOnce p.sends) sends own.sends),
      subst (λ k. IsEachOnce k (c.held.recvs ++ numbers_with provided)) (sym is.minted_recvs) (subst (IsEachOnce p.recvs) recvs own.recvs),
    )
  where
    empty : {A : Type 0} (l : List A) → length l ≡ 0 → l ≡ []
    empty [] e = refl
    empty (x ∷ xs) e = absurd (omega (arith, e))

-- the token of a refused call is back in front of the others
pub returned-send : (k q r : OpenClient) (t s : Token) → option_map (token_at k.host k.port) (slice_get k.held.sends 0) ≡ Some t → s ≡ t → q ≡ with_sends k (drop 1 k.held.sends) → r ≡ with_sends q (s.number ∷ q.held.sends) → r ≡ k
returned-send k q r t s first same took gave =
    let f = (taken-is k.host k.port k.held.sends t first).first in
    gave ∙ ap (λ y. with_sends y (s.number ∷ y.held.sends)) took ∙ ap (with_sends k) (ap (λ (x : Token). x.number ∷ drop 1 k.held.sends) same ∙ put-back k.held.sends t.number f)

pub returned-recv : (k q r : OpenClient) (t s : Token) → option_map (token_at k.host k.port) (slice_get k.held.recvs 0) ≡ Some t → s ≡ t → q ≡ with_recvs k (drop 1 k.held.recvs) → r ≡ with_recvs q (s.number ∷ q.held.recvs) → r ≡ k
returned-recv k q r t s first same took gave =
    let f = (taken-is k.host k.port k.held.recvs t first).first in
    gave ∙ ap (λ y. with_recvs y (s.number ∷ y.held.recvs)) took ∙ ap (with_recvs k) (ap (λ (x : Token). x.number ∷ drop 1 k.held.recvs) same ∙ put-back k.held.recvs t.number f)

-- a client that serves an open port is that port's
client-of : (host hosts port : ℕ) (p : PortState) (c : OpenClient) → IsServing host hosts port p c → IsClientOf (record { host = host; port = port; state = p }) c
client-of host hosts port p c is = record {
  own_host = is.own_host;
  own_port = is.own_port;
  minted_sends = is.minted_sends;
  minted_recvs = is.minted_recvs;
  owners = is.owners;
}

-- with all that its port held, it holds all of its tokens
pub wreck-is : (host hosts port : ℕ) (o : Option PortState) (c : OpenClient) (w : Wreck) → IsTied host hosts port o (Some c) → IfSome o (λ p. w.sending.items ≡ map (send_at host port) p.queue)
    → IfSome o (λ p. w.provided.items ≡ map (receive_at host port) p.provided) → IfSome o (λ p. w.events.items ≡ map (event_at host port) p.events) → IsWhole c w
wreck-is host hosts port None c w tied sending provided events = absurd tied
wreck-is host hosts port (Some p) c w tied sending provided events = wreck-whole host port p c w (client-of host hosts port p c tied) sending provided events
