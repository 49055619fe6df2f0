-- What a call comes to, by what its client and its port have.
use Rattle.std.proofs.Common.{◌≡◌, ℕ, Bool, true, false, List, [], ◌∷◌, Option, Some, None, option_map, refl, sym, ap, subst, ◌∙◌, if◌then◌else◌}
use Rattle.std.specs.Prelude.{drop, slice_get, Result, Ok, Err, IfOk, IfSome, OnOk, OnErr}
use Rattle.std.proofs.lemmas.Option.{same_Some, none-some}
use Rattle.std.proofs.lemmas.List.{set-get_or}
use Rattle.gm_defs.specs.Token.{PortState, PortEvent, Sent, Received}
use Rattle.gm_defs.specs.Port.{is_bad_size, sent_with, provided_with, next_event, polled}
use Rattle.gm_port.specs.declared.event.PortEvent.{PortEvent as Event}
use Rattle.gm_port.specs.Held.{event_at, event_of}
use Rattle.world_defs.specs.declared.client.ClientCause.{ClientCause}
use Rattle.world_defs.specs.declared.client.ClientCause.TheVariants.{NotOpen, NoToken, BadSize}
use Rattle.world_defs.specs.declared.effect.Said.{Said}
use Rattle.world_defs.specs.declared.effect.Said.TheVariants.{Token, Nothing}
use Rattle.world_defs.specs.Lane.{with_message}
use Rattle.world_defs.specs.Node.{NodeState, lane_at, with_lane, port_at, with_port}
use Rattle.world_defs.specs.Client.{ClientState, Called, Wanted, client_bytes, wanted_message, wanted_lane, empty_buffer, refused, left, provide_with, provide_open, provided_by, send_refusal, send_accepted, send_unless, send_with, send_open, sent_by, handed_out, poll_open, polled_by}
use Rattle.port_client.specs.Held.{OpenClient, with_sends, with_recvs}
use Rattle.nic_node.specs.Held.{HostNode, in_state}
use Rattle.port_client.specs.Back.{with_event, event_said}
use Rattle.client_host.specs.Telling.{size_cause, is_refused}
use Rattle.client_host.specs.Tied.{held_of, now_holding, IsTied}
use Rattle.port_client.proofs.Tokens.{same-event}
use Rattle.client_host.proofs.Tokens.{open-is}

-- where the call is refused for a cause, or else does so
abbrev pub unless : NodeState → ClientState → Option ClientCause → Called → Called
unless n c None call = call
unless n c (Some cause) call = refused n (Some c) cause

-- a token is provided
abbrev pub provided_call : NodeState → ℕ → ℕ → ℕ → ClientState → ℕ → Called
provided_call n port size prio c t =
    left n port (option_map (λ p. provided_with p (record { token = t; size = size; prio = prio; filling = None; buffer = empty_buffer size })) (port_at n port)) (Some (record c { recvs = drop 1 c.recvs })) (Token t)

provide-none : (n : NodeState) (port size prio : ℕ) (p : PortState) (c : ClientState) (ts : List ℕ) → slice_get ts 0 ≡ None → provide_with n port size prio p c ts ≡ refused n (Some c) NoToken
provide-none n port size prio p c [] e = refl
provide-none n port size prio p c (t ∷ ts) e = absurd (none-some t (sym e))

pub providing-none : (host hosts : ℕ) (n : NodeState) (port size prio : ℕ) (c : OpenClient) → IsTied host hosts port (port_at n port) (Some c) → slice_get c.held.recvs 0 ≡ None
    → provided_by n port size prio (Some c.held) ≡ refused n (Some c.held) NoToken
unfolding provided_by
providing-none host hosts n port size prio c tied e =
    let o = open-is host hosts port (port_at n port) c tied in
    ap (provide_open n port size prio (Some c.held)) o.is ∙ provide-none n port size prio o.state c.held c.held.recvs e

provide-some : (n : NodeState) (port size prio : ℕ) (p : PortState) (c : ClientState) (ts : List ℕ) (t : ℕ) → slice_get ts 0 ≡ Some t
    → provide_with n port size prio p c ts ≡ unless n c (size_cause size prio)
    (left n port (Some (provided_with p (record { token = t; size = size; prio = prio; filling = None; buffer = empty_buffer size }))) (Some (record c { recvs = drop 1 ts })) (Token t))
provide-some n port size prio p c [] t e = absurd (none-some t e)
provide-some n port size prio p c (k ∷ ks) t e =
    subst (λ x. provide_with n port size prio p c (k ∷ ks) ≡ unless n c (size_cause size prio) (left n port (Some (provided_with p (record { token = x; size = size; prio = prio; filling = None; buffer = empty_buffer size }))) (Some (record c { recvs = ks })) (Token x)))
    (same_Some k t e) (by (is_bad_size size prio))
  where
    call : Called
    call = left n port (Some (provided_with p (record { token = k; size = size; prio = prio; filling = None; buffer = empty_buffer size }))) (Some (record c { recvs = ks })) (Token k)

    by : (b : Bool) → (if b then refused n (Some c) BadSize else call) ≡ unless n c (if b then Some BadSize else None) call
    by true = refl
    by false = refl

pub providing-some : (host hosts : ℕ) (n : NodeState) (port size prio : ℕ) (c : OpenClient) (t : ℕ) → IsTied host hosts port (port_at n port) (Some c) → slice_get c.held.recvs 0 ≡ Some t
    → provided_by n port size prio (Some c.held) ≡ unless n c.held (size_cause size prio) (provided_call n port size prio c.held t)
unfolding provided_by
providing-some host hosts n port size prio c t tied e =
    let o = open-is host hosts port (port_at n port) c tied in
    ap (provide_open n port size prio (Some c.held)) o.is
    ∙ provide-some n port size prio o.state c.held c.held.recvs t e
    ∙ ap (λ x. unless n c.held (size_cause size prio) (left n port (option_map (λ p. provided_with p (record { token = t; size = size; prio = prio; filling = None; buffer = empty_buffer size })) x) (Some (record c.held { recvs = drop 1 c.held.recvs })) (Token t))) (sym o.is)

-- a message is sent
abbrev pub sent_call : NodeState → Wanted → ClientState → ℕ → Called
sent_call n s c t =
    left (with_lane n (wanted_lane s) (with_message (lane_at n (wanted_lane s)) (wanted_message s) (record { port = s.port; token = t }))) s.port
    (option_map (λ p. sent_with p t (client_bytes s.len s.seed)) (port_at n s.port)) (Some (record c { sends = drop 1 c.sends })) (Token t)

send-none : (n : NodeState) (s : Wanted) (p : PortState) (c : ClientState) (ts : List ℕ) → slice_get ts 0 ≡ None → send_with n s p c ts ≡ refused n (Some c) NoToken
send-none n s p c [] e = refl
send-none n s p c (t ∷ ts) e = absurd (none-some t (sym e))

pub sending-none : (host hosts : ℕ) (n : NodeState) (s : Wanted) (c : OpenClient) → IsTied host hosts s.port (port_at n s.port) (Some c) → slice_get c.held.sends 0 ≡ None
    → sent_by n s (Some c.held) ≡ refused n (Some c.held) NoToken
unfolding sent_by
sending-none host hosts n s c tied e =
    let o = open-is host hosts s.port (port_at n s.port) c tied in
    ap (send_open n s (Some c.held)) o.is ∙ send-none n s o.state c.held c.held.sends e

send-some : (n : NodeState) (s : Wanted) (p : PortState) (c : ClientState) (ts : List ℕ) (t : ℕ) → slice_get ts 0 ≡ Some t
    → send_with n s p c ts ≡ unless n c (send_refusal n s) (send_accepted n s p c t (drop 1 ts))
send-some n s p c [] t e = absurd (none-some t e)
send-some n s p c (k ∷ ks) t e =
    subst (λ x. send_with n s p c (k ∷ ks) ≡ unless n c (send_refusal n s) (send_accepted n s p c x ks)) (same_Some k t e) (by (send_refusal n s))
  where
    by : (o : Option ClientCause) → send_unless n s p c k ks o ≡ unless n c o (send_accepted n s p c k ks)
    by None = refl
    by (Some cause) = refl

pub sending-some : (host hosts : ℕ) (n : NodeState) (s : Wanted) (c : OpenClient) (t : ℕ) → IsTied host hosts s.port (port_at n s.port) (Some c) → slice_get c.held.sends 0 ≡ Some t
    → sent_by n s (Some c.held) ≡ unless n c.held (send_refusal n s) (sent_call n s c.held t)
unfolding sent_by
sending-some host hosts n s c t tied e =
    let o = open-is host hosts s.port (port_at n s.port) c tied in
    ap (send_open n s (Some c.held)) o.is
    ∙ send-some n s o.state c.held c.held.sends t e
    ∙ ap (λ x. unless n c.held (send_refusal n s) (left (with_lane n (wanted_lane s) (with_message (lane_at n (wanted_lane s)) (wanted_message s) (record { port = s.port; token = t }))) s.port
    (option_map (λ p. sent_with p t (client_bytes s.len s.seed)) x) (Some (record c.held { sends = drop 1 c.held.sends })) (Token t))) (sym o.is)

-- an event is polled
abbrev pub polled_call : NodeState → ℕ → OpenClient → PortEvent → Called
polled_call n port c e = left n port (option_map (λ p. polled p) (port_at n port)) (Some (with_event c e).held) (event_said e)

poll-some : (n : NodeState) (port : ℕ) (p : PortState) (c : OpenClient) (e : PortEvent) → handed_out n port p c.held (Some e) ≡ left n port (Some (polled p)) (Some (with_event c e).held) (event_said e)
poll-some n port p c (Sent t b) = refl
poll-some n port p c (Received t b from sport prio len) = refl

pub polling-some : (host hosts : ℕ) (n : NodeState) (port : ℕ) (c : OpenClient) (e : PortEvent) → IsTied host hosts port (port_at n port) (Some c) → ((p : PortState) → port_at n port ≡ Some p → next_event p ≡ Some e)
    → polled_by n port (Some c.held) ≡ polled_call n port c e
unfolding polled_by
polling-some host hosts n port c e tied first =
    let o = open-is host hosts port (port_at n port) c tied in
    ap (poll_open n port (Some c.held)) o.is
    ∙ ap (handed_out n port o.state c.held) (first o.state o.is)
    ∙ poll-some n port o.state c e
    ∙ ap (λ x. left n port (option_map (λ p. polled p) x) (Some (with_event c e).held) (event_said e)) (sym o.is)

pub polling-none : (host hosts : ℕ) (n : NodeState) (port : ℕ) (c : OpenClient) → IsTied host hosts port (port_at n port) (Some c) → ((p : PortState) → port_at n port ≡ Some p → next_event p ≡ None)
    → polled_by n port (Some c.held) ≡ record { said = Nothing; node = n; client = Some c.held }
unfolding polled_by
polling-none host hosts n port c tied first =
    let o = open-is host hosts port (port_at n port) c tied in
    ap (poll_open n port (Some c.held)) o.is ∙ ap (handed_out n port o.state c.held) (first o.state o.is)

-- a call on a port without a client
pub providing-closed : (n : NodeState) (port size prio : ℕ) (c : Option OpenClient) → c ≡ None → provided_by n port size prio (held_of c) ≡ refused n None NotOpen
unfolding provided_by
providing-closed n port size prio c e = ap (λ x. provide_open n port size prio (held_of x) (port_at n port)) e

pub sending-closed : (n : NodeState) (s : Wanted) (c : Option OpenClient) → c ≡ None → sent_by n s (held_of c) ≡ refused n None NotOpen
unfolding sent_by
sending-closed n s c e = ap (λ x. send_open n s (held_of x) (port_at n s.port)) e

pub polling-closed : (n : NodeState) (port : ℕ) (c : Option OpenClient) → c ≡ None → polled_by n port (held_of c) ≡ refused n None NotOpen
unfolding polled_by
polling-closed n port c e = ap (λ x. poll_open n port (held_of x) (port_at n port)) e

-- What a call came to that was refused.
record IsRefused (n : NodeState) (c : ClientState) (said : Said) (made : Called) : Type 0 where
  cause : ClientCause
  told : said ≡ Said.Refused cause
  is : made ≡ refused n (Some c) cause

is-refused : (said : Said) (cause bar : Option ClientCause) (n : NodeState) (c : ClientState) (call made : Called) → option_map (λ x. Said.Refused x) cause ≡ Some said → made ≡ unless n c bar call
    → cause ≡ bar → IsRefused n c said made
is-refused said (Some cause) bar n c call made told e same = record { cause = cause; told = sym (same_Some (Said.Refused cause) said told); is = e ∙ ap (λ o. unless n c o call) (sym same) }
is-refused said None bar n c call made told e f = absurd (none-some said told)

module _ {E : Type 0} (cause bar : Option ClientCause) (n : HostNode) (c : OpenClient) (call made : Called) where
  -- the call is refused for the cause, where there is one
  abbrev Told : Result Said E → Type 0
  Told r = IfOk r (λ said. option_map (λ x. Said.Refused x) cause ≡ Some said)

  pub told-said : (r : Result Said E) → Told r → made ≡ unless n.state c.held bar call → cause ≡ bar → IfOk r (λ said. said ≡ made.said)
  told-said (Ok said) told e f = let k = is-refused said cause bar n.state c.held call made told e f in k.told ∙ sym (ap (λ x. x.said) k.is)
  told-said (Err x) told e f = tt

  pub told-node : (r : Result Said E) (m : HostNode) → Told r → made ≡ unless n.state c.held bar call → cause ≡ bar → m ≡ n → OnOk r (m ≡ in_state n made.node)
  told-node (Ok said) m told e f same = let k = is-refused said cause bar n.state c.held call made told e f in same ∙ ap (λ x. in_state n x.node) (sym k.is)
  told-node (Err x) m told e f same = tt

  pub told-client : (r : Result Said E) (q : OpenClient) → Told r → made ≡ unless n.state c.held bar call → cause ≡ bar → q ≡ c → OnOk r (Some q ≡ now_holding (Some c) made.client)
  told-client (Ok said) q told e f same = let k = is-refused said cause bar n.state c.held call made told e f in ap (λ x. Some x) same ∙ ap (λ x. now_holding (Some c) x.client) (sym k.is)
  told-client (Err x) q told e f same = tt

-- where memory runs out there was no cause, and then the call isn't refused
pub told-wanting : {E : Type 0} (r : Result Said E) (cause bar : Option ClientCause) (n : NodeState) (c : ClientState) (call made : Called) → OnErr r (cause ≡ None) → made ≡ unless n c bar call → cause ≡ bar
    → is_refused call.said ≡ false → OnErr r (is_refused made.said ≡ false)
told-wanting (Ok said) cause bar n c call made none e same done = tt
told-wanting (Err x) cause bar n c call made none e same done = ap (λ (k : Called). is_refused k.said) (e ∙ ap (λ o. unless n c o call) (sym same ∙ none)) ∙ done

-- the first event of a port
pub event-first : (host port : ℕ) (o : Option PortState) (f : Option Event) (e : Event) → f ≡ Some e → IfSome o (λ p. f ≡ option_map (event_at host port) (next_event p)) → (p : PortState) → o ≡ Some p → next_event p ≡ Some (event_of e)
event-first host port o f e there first p is = by (next_event p) (sym there ∙ subst (λ x. IfSome x (λ p. f ≡ option_map (event_at host port) (next_event p))) is first)
  where
    by : (x : Option PortEvent) → Some e ≡ option_map (event_at host port) x → x ≡ Some (event_of e)
    by None f = absurd (none-some e (sym f))
    by (Some y) f = ap (λ z. Some z) (sym (same-event host port y)) ∙ ap (λ z. Some (event_of z)) (sym (same_Some e (event_at host port y) f))

pub event-none : (host port : ℕ) (o : Option PortState) (f : Option Event) → f ≡ None → IfSome o (λ p. f ≡ option_map (event_at host port) (next_event p)) → (p : PortState) → o ≡ Some p → next_event p ≡ None
event-none host port o f there first p is = by (next_event p) (sym there ∙ subst (λ x. IfSome x (λ p. f ≡ option_map (event_at host port) (next_event p))) is first)
  where
    by : (x : Option PortEvent) → None ≡ option_map (event_at host port) x → x ≡ None
    by None f = refl
    by (Some y) f = absurd (none-some (event_at host port y) f)

pub same-holder : (c : OpenClient) (e : PortEvent) → Some (with_event c e) ≡ now_holding (Some c) (Some (with_event c e).held)
same-holder c (Sent t b) = refl
same-holder c (Received t b from sport prio len) = refl

-- where no event waits, nothing is handed out
no-drop : {A : Type 0} (l : List A) → slice_get l 0 ≡ None → drop 1 l ≡ l
no-drop [] e = refl
no-drop (x ∷ xs) e = absurd (none-some x (sym e))

pub none-left-sends : (c : OpenClient) → slice_get c.held.sends 0 ≡ None → with_sends c (drop 1 c.held.sends) ≡ c
none-left-sends c e = ap (with_sends c) (no-drop c.held.sends e)

pub none-left-recvs : (c : OpenClient) → slice_get c.held.recvs 0 ≡ None → with_recvs c (drop 1 c.held.recvs) ≡ c
none-left-recvs c e = ap (with_recvs c) (no-drop c.held.recvs e)

pub none-polled : (n : NodeState) (port : ℕ) → ((p : PortState) → port_at n port ≡ Some p → next_event p ≡ None) → with_port n port (option_map (λ p. polled p) (port_at n port)) ≡ n
none-polled n port first = ap (with_port n port) (by (port_at n port) first) ∙ ap (λ ps. record n { ports = ps }) (set-get_or n.ports port None)
  where
    by : (o : Option PortState) → ((p : PortState) → o ≡ Some p → next_event p ≡ None) → option_map (λ p. polled p) o ≡ o
    by None f = refl
    by (Some p) f = ap (λ es. Some (record p { events = es })) (no-drop p.events (f p refl))
