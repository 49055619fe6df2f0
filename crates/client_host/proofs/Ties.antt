-- A call leaves its port tied to its client.
use Rattle.std.proofs.Common.{◌≡◌, ℕ, Bool, true, false, List, [], ◌∷◌, ◌++◌, map, set, Option, Some, None, refl, sym, ap, subst, if◌then◌else◌}
use Rattle.std.specs.Prelude.{drop, slice_get}
use Rattle.std.specs.List.{AllByRecursion}
use Rattle.std.proofs.lemmas.List.{set-get_or}
use Rattle.gm_defs.specs.Token.{PortState, PortEvent, Sent, Received, opened, sent_tokens, received_tokens}
use Rattle.gm_defs.specs.Port.{is_bad_size, sent_with, provided_with, polled}
use Rattle.world_defs.specs.declared.client.ClientCause.{ClientCause}
use Rattle.world_defs.specs.declared.client.ClientCause.TheVariants.{BadSize}
use Rattle.world_defs.specs.declared.effect.Said.{Said}
use Rattle.world_defs.specs.declared.effect.Said.TheVariants.{Token}
use Rattle.world_defs.specs.Node.{NodeState, port_at}
use Rattle.world_defs.specs.Client.{ClientState, Called, Wanted, client_bytes, empty_buffer, refused, left, begin_at, begun, close_refusal, close_unless, close_open, closed, provide_with, provide_open, provided_by, send_refusal, send_unless, send_with, send_open, sent_by, handed_out, poll_open, polled_by}
use Rattle.world_defs.specs.Sound.{IsEachOnce}
use Rattle.token_moves.proofs.Moves.{owned-new, owned-provided, owned-sending, once-handed}
use Rattle.port_client.specs.Held.{OpenClient, opened_client}
use Rattle.client_host.specs.Held.{IsFromHosts}
use Rattle.client_host.specs.Tied.{held_of, now_holding, opened_where, IsEventFrom, IsServing, IsTied}

-- the one port that a call may change is tied to the client that it leaves
pub record CallTied (host hosts : ℕ) (n : NodeState) (port : ℕ) (call : Called) (q : Option OpenClient) : Type 0 where
  pub at_port : Option PortState
  pub ports : call.node.ports ≡ set n.ports port at_port
  pub tied : IsTied host hosts port at_port q
  pub held : held_of q ≡ call.client

-- the client after a call that isn't an opening
abbrev Keeps : ℕ → ℕ → NodeState → ℕ → Option OpenClient → Called → Type 0
Keeps host hosts n port c call = CallTied host hosts n port call (now_holding c call.client)

pub same-client : (c : Option OpenClient) → c ≡ now_holding c (held_of c)
same-client None = refl
same-client (Some c) = refl

stays : (host hosts : ℕ) (n : NodeState) (port : ℕ) (c : Option OpenClient) (said : Said) → IsTied host hosts port (port_at n port) c
    → CallTied host hosts n port (record { said = said; node = n; client = held_of c }) c
stays host hosts n port c said is = record { at_port = port_at n port; ports = sym (set-get_or n.ports port None); tied = is; held = refl }

keeps : (host hosts : ℕ) (n : NodeState) (port : ℕ) (c : Option OpenClient) (said : Said) → IsTied host hosts port (port_at n port) c
    → Keeps host hosts n port c (record { said = said; node = n; client = held_of c })
keeps host hosts n port c said is =
    subst (CallTied host hosts n port (record { said = said; node = n; client = held_of c })) (same-client c) (stays host hosts n port c said is)

changes : (host hosts : ℕ) (n m : NodeState) (port : ℕ) (p : Option PortState) (q : Option OpenClient) (said : Said) → m.ports ≡ n.ports → IsTied host hosts port p q
    → CallTied host hosts n port (left m port p (held_of q) said) q
changes host hosts n m port p q said e is = record { at_port = p; ports = ap (λ ps. set ps port p) e; tied = is; held = refl }

-- a port is opened
new-serving : (host hosts port sends recvs : ℕ) → IsServing host hosts port (opened sends recvs) (opened_client host port sends recvs)
new-serving host hosts port sends recvs = record { own_host = refl; own_port = refl; minted_sends = refl; minted_recvs = refl; owners = owned-new sends recvs; senders = tt }

begin_at-tied : (host hosts : ℕ) (n : NodeState) (port sends recvs : ℕ) (c : Option OpenClient) (o : Option PortState) → IsTied host hosts port (port_at n port) c → IsTied host hosts port o c
    → CallTied host hosts n port (begin_at n port sends recvs (held_of c) o) (opened_where host port sends recvs c)
begin_at-tied host hosts n port sends recvs (Some c) (Some p) is own = stays host hosts n port (Some c) _ is
begin_at-tied host hosts n port sends recvs None (Some p) is own = absurd own
begin_at-tied host hosts n port sends recvs (Some c) None is own = absurd own
begin_at-tied host hosts n port sends recvs None None is own =
    changes host hosts n n port (Some (opened sends recvs)) (Some (opened_client host port sends recvs)) _ refl (new-serving host hosts port sends recvs)

pub begun-tied : (host hosts : ℕ) (n : NodeState) (port sends recvs : ℕ) (c : Option OpenClient) → IsTied host hosts port (port_at n port) c
    → CallTied host hosts n port (begun n port sends recvs (held_of c)) (opened_where host port sends recvs c)
unfolding begun
begun-tied host hosts n port sends recvs c is = begin_at-tied host hosts n port sends recvs c (port_at n port) is is

-- one is closed
close_unless-tied : (host hosts : ℕ) (n : NodeState) (port : ℕ) (c : OpenClient) (p : PortState) (o : Option ClientCause) → IsTied host hosts port (port_at n port) (Some c)
    → Keeps host hosts n port (Some c) (close_unless n port (Some c.held) p o)
close_unless-tied host hosts n port c p None is = changes host hosts n n port None None _ refl tt
close_unless-tied host hosts n port c p (Some cause) is = keeps host hosts n port (Some c) _ is

close_open-tied : (host hosts : ℕ) (n : NodeState) (port : ℕ) (c : Option OpenClient) (o : Option PortState) → IsTied host hosts port (port_at n port) c → IsTied host hosts port o c
    → Keeps host hosts n port c (close_open n port (held_of c) o)
close_open-tied host hosts n port c None is own = keeps host hosts n port c _ is
close_open-tied host hosts n port None (Some p) is own = absurd own
close_open-tied host hosts n port (Some c) (Some p) is own = close_unless-tied host hosts n port c p (close_refusal p) is

pub closed-tied : (host hosts : ℕ) (n : NodeState) (port : ℕ) (c : Option OpenClient) → IsTied host hosts port (port_at n port) c → Keeps host hosts n port c (closed n port (held_of c))
unfolding closed
closed-tied host hosts n port c is = close_open-tied host hosts n port c (port_at n port) is is

-- a token is provided
provide_if-tied : (host hosts : ℕ) (n : NodeState) (port : ℕ) (c : OpenClient) (d : ClientState) (p : PortState) (b : Bool) (cause : ClientCause) (said : Said) → IsTied host hosts port (port_at n port) (Some c)
    → IsServing host hosts port p (record c { held = d }) → Keeps host hosts n port (Some c) (if b then refused n (Some c.held) cause else left n port (Some p) (Some d) said)
provide_if-tied host hosts n port c d p true cause said is now = keeps host hosts n port (Some c) _ is
provide_if-tied host hosts n port c d p false cause said is now = changes host hosts n n port (Some p) (Some (record c { held = d })) said refl now

provide_with-tied : (host hosts : ℕ) (n : NodeState) (port size prio : ℕ) (p : PortState) (c : OpenClient) (ts : List ℕ) → c.held.recvs ≡ ts → IsTied host hosts port (port_at n port) (Some c)
    → IsServing host hosts port p c → Keeps host hosts n port (Some c) (provide_with n port size prio p c.held ts)
provide_with-tied host hosts n port size prio p c [] e is own = keeps host hosts n port (Some c) _ is
provide_with-tied host hosts n port size prio p c (t ∷ ts) e is own =
    provide_if-tied host hosts n port c (record c.held { recvs = ts }) (provided_with p (record { token = t; size = size; prio = prio; filling = None; buffer = empty_buffer size })) (is_bad_size size prio) BadSize (Token t) is
    (record {
      own_host = own.own_host;
      own_port = own.own_port;
      minted_sends = own.minted_sends;
      minted_recvs = own.minted_recvs;
      owners = owned-provided p c.held (record { token = t; size = size; prio = prio; filling = None; buffer = empty_buffer size }) ts e own.owners;
      senders = own.senders;
    })

provide_open-tied : (host hosts : ℕ) (n : NodeState) (port size prio : ℕ) (c : Option OpenClient) (o : Option PortState) → IsTied host hosts port (port_at n port) c → IsTied host hosts port o c
    → Keeps host hosts n port c (provide_open n port size prio (held_of c) o)
provide_open-tied host hosts n port size prio (Some c) (Some p) is own = provide_with-tied host hosts n port size prio p c c.held.recvs refl is own
provide_open-tied host hosts n port size prio (Some c) None is own = keeps host hosts n port (Some c) _ is
provide_open-tied host hosts n port size prio None o is own = keeps host hosts n port None _ is

pub provided_by-tied : (host hosts : ℕ) (n : NodeState) (port size prio : ℕ) (c : Option OpenClient) → IsTied host hosts port (port_at n port) c
    → Keeps host hosts n port c (provided_by n port size prio (held_of c))
unfolding provided_by
provided_by-tied host hosts n port size prio c is = provide_open-tied host hosts n port size prio c (port_at n port) is is

-- a message is accepted
send_unless-tied : (host hosts : ℕ) (n : NodeState) (s : Wanted) (p : PortState) (c : OpenClient) (t : ℕ) (ts : List ℕ) (o : Option ClientCause) → c.held.sends ≡ t ∷ ts
    → IsTied host hosts s.port (port_at n s.port) (Some c) → IsServing host hosts s.port p c → Keeps host hosts n s.port (Some c) (send_unless n s p c.held t ts o)
send_unless-tied host hosts n s p c t ts (Some cause) e is own = keeps host hosts n s.port (Some c) _ is
send_unless-tied host hosts n s p c t ts None e is own = record {
  at_port = Some (sent_with p t (client_bytes s.len s.seed));
  ports = refl;
  tied = record {
    own_host = own.own_host;
    own_port = own.own_port;
    minted_sends = own.minted_sends;
    minted_recvs = own.minted_recvs;
    owners = owned-sending p c.held t (client_bytes s.len s.seed) ts e own.owners;
    senders = own.senders;
  };
  held = refl;
}

send_with-tied : (host hosts : ℕ) (n : NodeState) (s : Wanted) (p : PortState) (c : OpenClient) (ts : List ℕ) → c.held.sends ≡ ts → IsTied host hosts s.port (port_at n s.port) (Some c)
    → IsServing host hosts s.port p c → Keeps host hosts n s.port (Some c) (send_with n s p c.held ts)
send_with-tied host hosts n s p c [] e is own = keeps host hosts n s.port (Some c) _ is
send_with-tied host hosts n s p c (t ∷ ts) e is own = send_unless-tied host hosts n s p c t ts (send_refusal n s) e is own

send_open-tied : (host hosts : ℕ) (n : NodeState) (s : Wanted) (c : Option OpenClient) (o : Option PortState) → IsTied host hosts s.port (port_at n s.port) c → IsTied host hosts s.port o c
    → Keeps host hosts n s.port c (send_open n s (held_of c) o)
send_open-tied host hosts n s (Some c) (Some p) is own = send_with-tied host hosts n s p c c.held.sends refl is own
send_open-tied host hosts n s (Some c) None is own = keeps host hosts n s.port (Some c) _ is
send_open-tied host hosts n s None o is own = keeps host hosts n s.port None _ is

pub sent_by-tied : (host hosts : ℕ) (n : NodeState) (s : Wanted) (c : Option OpenClient) → IsTied host hosts s.port (port_at n s.port) c → Keeps host hosts n s.port c (sent_by n s (held_of c))
unfolding sent_by
sent_by-tied host hosts n s c is = send_open-tied host hosts n s c (port_at n s.port) is is

-- an event is handed out
abbrev pub first_event : List PortEvent → Option PortEvent
first_event [] = None
first_event (e ∷ es) = Some e

pub first-event : (es : List PortEvent) → first_event es ≡ slice_get es 0
first-event [] = refl
first-event (e ∷ es) = refl

handed-tied : (host hosts : ℕ) (n : NodeState) (port : ℕ) (p : PortState) (c : OpenClient) (es : List PortEvent) → p.events ≡ es → IsTied host hosts port (port_at n port) (Some c) → IsServing host hosts port p c
    → Keeps host hosts n port (Some c) (handed_out n port p c.held (first_event es))
handed-tied host hosts n port p c [] e is own = keeps host hosts n port (Some c) _ is
handed-tied host hosts n port p c (Sent t b ∷ es) e is own =
    let out : List ℕ = map (λ s. s.token) p.queue in
    let k = own.owners in
    let was : IsEachOnce p.sends (c.held.sends ++ (out ++ t ∷ sent_tokens es)) = subst (λ l. IsEachOnce p.sends (c.held.sends ++ (out ++ sent_tokens l))) e k.sends in
    let was_recvs : IsEachOnce p.recvs (c.held.recvs ++ (map (λ r. r.token) p.provided ++ received_tokens es)) = subst (λ l. IsEachOnce p.recvs (c.held.recvs ++ (map (λ r. r.token) p.provided ++ received_tokens l))) e k.recvs in
    let from : AllByRecursion (IsEventFrom hosts) (Sent t b ∷ es) = subst (AllByRecursion (IsEventFrom hosts)) e own.senders in
    let d : ClientState = record c.held { sends = c.held.sends ++ t ∷ [] } in
    let now : IsServing host hosts port (record p { events = es }) (record c { held = d }) = record {
      own_host = own.own_host;
      own_port = own.own_port;
      minted_sends = own.minted_sends;
      minted_recvs = own.minted_recvs;
      owners = record { sends = once-handed p.sends t c.held.sends out (sent_tokens es) was; recvs = was_recvs };
      senders = from.1;
    } in
    let same : record p { events = es } ≡ polled p = ap (λ l. record p { events = drop 1 l }) (sym e) in
    changes host hosts n n port (Some (polled p)) (Some (record c { held = d })) _ refl (subst (λ q. IsServing host hosts port q (record c { held = d })) same now)
handed-tied host hosts n port p c (Received t b from sport prio len ∷ es) e is own =
    let out : List ℕ = map (λ r. r.token) p.provided in
    let k = own.owners in
    let was : IsEachOnce p.recvs (c.held.recvs ++ (out ++ t ∷ received_tokens es)) = subst (λ l. IsEachOnce p.recvs (c.held.recvs ++ (out ++ received_tokens l))) e k.recvs in
    let was_sends : IsEachOnce p.sends (c.held.sends ++ (map (λ s. s.token) p.queue ++ sent_tokens es)) = subst (λ l. IsEachOnce p.sends (c.held.sends ++ (map (λ s. s.token) p.queue ++ sent_tokens l))) e k.sends in
    let senders : AllByRecursion (IsEventFrom hosts) (Received t b from sport prio len ∷ es) = subst (AllByRecursion (IsEventFrom hosts)) e own.senders in
    let d : ClientState = record c.held { recvs = c.held.recvs ++ t ∷ [] } in
    let now : IsServing host hosts port (record p { events = es }) (record c { held = d }) = record {
      own_host = own.own_host;
      own_port = own.own_port;
      minted_sends = own.minted_sends;
      minted_recvs = own.minted_recvs;
      owners = record { sends = was_sends; recvs = once-handed p.recvs t c.held.recvs out (received_tokens es) was };
      senders = senders.1;
    } in
    let same : record p { events = es } ≡ polled p = ap (λ l. record p { events = drop 1 l }) (sym e) in
    changes host hosts n n port (Some (polled p)) (Some (record c { held = d })) _ refl (subst (λ q. IsServing host hosts port q (record c { held = d })) same now)

poll_open-tied : (host hosts : ℕ) (n : NodeState) (port : ℕ) (c : Option OpenClient) (o : Option PortState) → IsTied host hosts port (port_at n port) c → IsTied host hosts port o c
    → Keeps host hosts n port c (poll_open n port (held_of c) o)
poll_open-tied host hosts n port (Some c) (Some p) is own =
    subst (λ x. Keeps host hosts n port (Some c) (handed_out n port p c.held x)) (first-event p.events) (handed-tied host hosts n port p c p.events refl is own)
poll_open-tied host hosts n port (Some c) None is own = keeps host hosts n port (Some c) _ is
poll_open-tied host hosts n port None o is own = keeps host hosts n port None _ is

pub polled_by-tied : (host hosts : ℕ) (n : NodeState) (port : ℕ) (c : Option OpenClient) → IsTied host hosts port (port_at n port) c → Keeps host hosts n port c (polled_by n port (held_of c))
unfolding polled_by
polled_by-tied host hosts n port c is = poll_open-tied host hosts n port c (port_at n port) is is

-- a message that is polled came from a host
handed-sender : (hosts : ℕ) (n : NodeState) (port : ℕ) (p : PortState) (c : ClientState) (es : List PortEvent) → AllByRecursion (IsEventFrom hosts) es → IsFromHosts hosts (handed_out n port p c (first_event es)).said
handed-sender hosts n port p c [] is = tt
handed-sender hosts n port p c (Sent t b ∷ es) is = tt
handed-sender hosts n port p c (Received t b from sport prio len ∷ es) is = is.0

poll_open-sender : (host hosts : ℕ) (n : NodeState) (port : ℕ) (c : Option OpenClient) (o : Option PortState) → IsTied host hosts port o c → IsFromHosts hosts (poll_open n port (held_of c) o).said
poll_open-sender host hosts n port (Some c) (Some p) is =
    subst (λ x. IsFromHosts hosts (handed_out n port p c.held x).said) (first-event p.events) (handed-sender hosts n port p c.held p.events is.senders)
poll_open-sender host hosts n port (Some c) None is = tt
poll_open-sender host hosts n port None o is = tt

pub polled_by-sender : (host hosts : ℕ) (n : NodeState) (port : ℕ) (c : Option OpenClient) → IsTied host hosts port (port_at n port) c → IsFromHosts hosts (polled_by n port (held_of c)).said
unfolding polled_by
polled_by-sender host hosts n port c is = poll_open-sender host hosts n port c (port_at n port) is
