-- Tokens go back to their client one after the other.
use Rattle.std.proofs.Common.{◌≡◌, ◌≤◌, ◌+◌, ℕ, List, [], ◌++◌, length, map, sym, ap, subst, ◌∙◌, append-nil}
use Rattle.std.specs.List.{AllByRecursion, range_with_len}
use Rattle.std.proofs.lemmas.List.{append_assoc}
use Rattle.gm_defs.specs.Token.{sent_tokens, received_tokens, PortState}
use Rattle.gm_tokens.specs.Token.{Token}
use Rattle.gm_tokens.specs.Minted.{AreAll}
use Rattle.gm_port.specs.declared.event.PortEvent.{PortEvent as Event}
use Rattle.gm_port.specs.declared.event.Wreck.{Wreck}
use Rattle.gm_port.specs.Held.{send_at, receive_at, event_at}
use Rattle.world_defs.specs.Sound.{IsEachOnce}
use Rattle.port_client.specs.Held.{OpenClient, opened_client, with_sends, with_recvs, tokens_of}
use Rattle.token_moves.proofs.Moves.{owned-new}
use Rattle.port_client.proofs.Holding.{all-held}
use Rattle.port_client.specs.Back.{numbers_with, AreOwnWith, IsOwnEvent, events_of, IsWhole}
use Rattle.port_client.specs.Serving.{IsClientOf}
use Rattle.port_client.proofs.Tokens.{own-sends, own-recvs, own-events, same-sends, same-recvs, same-events}

-- of the sends of a list some are left
pub record TakesSends (first c : OpenClient) (all rest : List (Token × List ℕ)) : Type 0 where
  pub own : AreOwnWith c.host c.port rest
  pub room : length c.held.sends + length rest ≤ c.minted_sends
  pub whole : with_sends c (c.held.sends ++ numbers_with rest) ≡ with_sends first (first.held.sends ++ numbers_with all)

-- of the provided tokens of a list some are left
pub record TakesRecvs (first c : OpenClient) (all rest : List (Token × List ℕ)) : Type 0 where
  pub own : AreOwnWith c.host c.port rest
  pub room : length c.held.recvs + length rest ≤ c.minted_recvs
  pub whole : with_recvs c (c.held.recvs ++ numbers_with rest) ≡ with_recvs first (first.held.recvs ++ numbers_with all)

-- the client with the tokens of events behind those that it holds
abbrev pub with_events : OpenClient → List Event → OpenClient
with_events c es = with_recvs (with_sends c (c.held.sends ++ sent_tokens (events_of es))) (c.held.recvs ++ received_tokens (events_of es))

-- of the events of a list some are left
pub record TakesEvents (first c : OpenClient) (all rest : List Event) : Type 0 where
  pub own : AllByRecursion (IsOwnEvent c.host c.port) rest
  pub send_room : length c.held.sends + length (sent_tokens (events_of rest)) ≤ c.minted_sends
  pub recv_room : length c.held.recvs + length (received_tokens (events_of rest)) ≤ c.minted_recvs
  pub whole : with_events c rest ≡ with_events first all

-- a client that holds all of its tokens
pub once-all : (host port count : ℕ) (ns : List ℕ) → IsEachOnce count ns → AreAll host port count (tokens_of host port ns ++ [])
once-all host port count ns is = all-held host port count ns is.below is.once is.all

-- with all that its port held, a client holds all of its tokens
pub wreck-whole : (host port : ℕ) (p : PortState) (c : OpenClient) (w : Wreck) → IsClientOf (record { host = host; port = port; state = p }) c → w.sending.items ≡ map (send_at host port) p.queue → w.provided.items ≡ map (receive_at host port) p.provided
    → w.events.items ≡ map (event_at host port) p.events → IsWhole c w
wreck-whole host port p c w is sending provided events =
    let at_sends = subst (λ h. AreOwnWith h c.port w.sending.items) (sym is.own_host) (subst (λ k. AreOwnWith host k w.sending.items) (sym is.own_port) (subst (AreOwnWith host port) (sym sending) (own-sends host port p.queue))) in
    let at_recvs = subst (λ h. AreOwnWith h c.port w.provided.items) (sym is.own_host) (subst (λ k. AreOwnWith host k w.provided.items) (sym is.own_port) (subst (AreOwnWith host port) (sym provided) (own-recvs host port p.provided))) in
    let at_events = subst (λ h. AllByRecursion (IsOwnEvent h c.port) w.events.items) (sym is.own_host) (subst (λ k. AllByRecursion (IsOwnEvent host k) w.events.items) (sym is.own_port) (subst (AllByRecursion (IsOwnEvent host port)) (sym events) (own-events host port p.events))) in
    let es : events_of w.events.items ≡ p.events = ap events_of events ∙ same-events host port p.events in
    let ss : numbers_with w.sending.items ≡ map (λ s. s.token) p.queue = ap numbers_with sending ∙ same-sends host port p.queue in
    let rs : numbers_with w.provided.items ≡ map (λ r. r.token) p.provided = ap numbers_with provided ∙ same-recvs host port p.provided in
    let sends : c.held.sends ++ (map (λ s. s.token) p.queue ++ sent_tokens p.events) ≡ (c.held.sends ++ numbers_with w.sending.items) ++ sent_tokens (events_of w.events.items) =
    sym (append_assoc c.held.sends (map (λ s. s.token) p.queue) (sent_tokens p.events)) ∙ (λ i. (c.held.sends ++ sym ss i) ++ sent_tokens (sym es i)) in
    let recvs : c.held.recvs ++ (map (λ r. r.token) p.provided ++ received_tokens p.events) ≡ (c.held.recvs ++ numbers_with w.provided.items) ++ received_tokens (events_of w.events.items) =
    sym (append_assoc c.held.recvs (map (λ r. r.token) p.provided) (received_tokens p.events)) ∙ (λ i. (c.held.recvs ++ sym rs i) ++ received_tokens (sym es i)) in
    let own = is.owners in
    record {
      own_sends = at_sends;
      own_recvs = at_recvs;
      own_events = at_events;
      sends = subst (λ k. IsEachOnce k ((c.held.sends ++ numbers_with w.sending.items) ++ sent_tokens (events_of w.events.items))) (sym is.minted_sends) (subst (IsEachOnce p.sends) sends own.sends);
      recvs = subst (λ k. IsEachOnce k ((c.held.recvs ++ numbers_with w.provided.items) ++ received_tokens (events_of w.events.items))) (sym is.minted_recvs) (subst (IsEachOnce p.recvs) recvs own.recvs);
    }

-- a client that was just opened holds all of its tokens
pub opened-sends : (c : OpenClient) (host port sends recvs : ℕ) → c ≡ opened_client host port sends recvs → IsEachOnce c.minted_sends c.held.sends
opened-sends c host port sends recvs e =
    subst (λ x. IsEachOnce x.minted_sends x.held.sends) (sym e) (subst (IsEachOnce sends) (append-nil (range_with_len 0 sends)) (owned-new sends recvs).sends)

pub opened-recvs : (c : OpenClient) (host port sends recvs : ℕ) → c ≡ opened_client host port sends recvs → IsEachOnce c.minted_recvs c.held.recvs
opened-recvs c host port sends recvs e =
    subst (λ x. IsEachOnce x.minted_recvs x.held.recvs) (sym e) (subst (IsEachOnce recvs) (append-nil (range_with_len 0 recvs)) (owned-new sends recvs).recvs)
