-- What the closing of a port comes to.
use Rattle.std.proofs.Common.{◌≡◌, ◌<◌, ◌^◌, ◌++◌, ℕ, Bool, true, false, List, length, map, nat_lt, Option, Some, None, option_map, refl, sym, ap, subst, ◌∙◌, arith, if◌then◌else◌}
use Rattle.std.specs.Prelude.{is_some, IfSome}
use Rattle.std.proofs.lemmas.List.{length-map}
use Rattle.std.proofs.lemmas.Option.{same_Some, none-some}
use Rattle.gm_defs.specs.Token.{PortState}
use Rattle.gm_defs.specs.Port.{unfinished, unread, filling_count}
use Rattle.gm_tokens.specs.Token.{Token}
use Rattle.gm_port.specs.declared.ask.CloseRefusal.{CloseRefusal}
use Rattle.gm_port.specs.Held.{receive_at}
use Rattle.host_ports.specs.declared.ask.NodeClose.{NodeClose}
use Rattle.host_ports.specs.declared.ask.NodeClose.TheVariants.{NotOpen as NothingToClose, Busy as CloseBusy, Unread as CloseUnread, Filling as CloseFilling}
use Rattle.host_ports.specs.Refusal.{close_bar, close_word}
use Rattle.world_defs.specs.declared.client.ClientCause.TheVariants.{NotOpen, Busy, Unread, Filling}
use Rattle.world_defs.specs.declared.effect.Said.TheVariants.{Count}
use Rattle.world_defs.specs.Node.{NodeState, port_at}
use Rattle.world_defs.specs.Sound.{IsEachOnce}
use Rattle.world_defs.specs.Client.{ClientState, refused, left, close_refusal, close_unless, close_open, closed}
use Rattle.world_defs.proofs.Calls.{IsClosable, not_refused-closable}
use Rattle.port_client.specs.Held.{OpenClient}
use Rattle.port_client.specs.Back.{numbers_with, AreOwnWith}
use Rattle.client_host.specs.Telling.{close_cause, IsCounted}
use Rattle.client_host.specs.Tied.{held_of, now_holding, IsTied}
use Rattle.port_client.proofs.Tokens.{sends-counted, recvs-counted, events-counted}
use Rattle.client_host.proofs.Tokens.{open-is}
use Rattle.client_host.proofs.Returns.{closed-owners}

not-open : (host hosts port : ℕ) (o : Option PortState) → IsTied host hosts port o None → o ≡ None
not-open host hosts port None is = refl
not-open host hosts port (Some p) is = absurd is

pub closing-closed : (host hosts : ℕ) (n : NodeState) (port : ℕ) (c : Option OpenClient) → IsTied host hosts port (port_at n port) c → c ≡ None → closed n port (held_of c) ≡ refused n None NotOpen
unfolding closed
closing-closed host hosts n port c tied e =
    ap (λ x. close_open n port (held_of x) (port_at n port)) e
    ∙ ap (close_open n port None) (not-open host hosts port (port_at n port) (subst (IsTied host hosts port (port_at n port)) e tied))

-- the port's refusal, as the client is told of it, is the one of the world
same-cause : (u r f : ℕ) (a b c : Bool)
    → (if a then Some (Busy u) else if b then Some (Unread r) else if c then Some (Filling f) else None)
    ≡ option_map close_cause (option_map close_word (if a then Some (CloseRefusal.Busy u) else if b then Some (CloseRefusal.Unread r) else if c then Some (CloseRefusal.Filling f) else None))
same-cause u r f true b c = refl
same-cause u r f false true c = refl
same-cause u r f false false true = refl
same-cause u r f false false false = refl

refusal-is : (p : PortState) → close_refusal p ≡ option_map close_cause (close_bar (Some p))
refusal-is p = same-cause (unfinished p) (unread p) (filling_count p) (nat_lt 0 (unfinished p)) (nat_lt 0 (unread p)) (nat_lt 0 (filling_count p))

-- a port is closed
pub closing-open : (n : NodeState) (port : ℕ) (c : Option ClientState) (p : PortState) → port_at n port ≡ Some p → close_bar (port_at n port) ≡ None
    → (closed n port c ≡ left n port None None (Count (length p.provided))) × IsClosable p
unfolding closed
closing-open n port c p is bar =
    let none : close_refusal p ≡ None = refusal-is p ∙ ap (option_map close_cause) (subst (λ o. close_bar o ≡ None) is bar) in
    (ap (close_open n port c) is ∙ ap (close_unless n port c p) none, not_refused-closable p none)

close-bar : (n : NodeState) (port : ℕ) (c : Option ClientState) (o : Option PortState) (e : NodeClose) → close_bar o ≡ Some e → close_open n port c o ≡ refused n c (close_cause e)
close-bar n port c None e is = ap (λ k. refused n c (close_cause k)) (same_Some NothingToClose e is)
close-bar n port c (Some p) e is = ap (close_unless n port c p) (refusal-is p ∙ ap (option_map close_cause) is)

pub closing-refused : (n : NodeState) (port : ℕ) (c : Option ClientState) (e : NodeClose) → close_bar (port_at n port) ≡ Some e → closed n port c ≡ refused n c (close_cause e)
unfolding closed
closing-refused n port c e is = close-bar n port c (port_at n port) e is

-- the counts of a refusal are of 32 bits, since a port has no more tokens than 16 bits count
counts : (u r f : ℕ) (a b c : Bool) (e : NodeClose)
    → option_map close_word (if a then Some (CloseRefusal.Busy u) else if b then Some (CloseRefusal.Unread r) else if c then Some (CloseRefusal.Filling f) else None) ≡ Some e
    → u < 2 ^ 32 → r < 2 ^ 32 → IsCounted e
counts u r f true b c e is x y = subst IsCounted (same_Some (CloseBusy u) e is) x
counts u r f false true c e is x y = subst IsCounted (same_Some (CloseUnread r) e is) y
counts u r f false false true e is x y = subst IsCounted (same_Some (CloseFilling f) e is) tt
counts u r f false false false e is x y = absurd (none-some e is)

pub bar-counted : (host hosts port : ℕ) (o : Option PortState) (c : OpenClient) (e : NodeClose) → IsTied host hosts port o (Some c) → c.minted_sends < 65536 → c.minted_recvs < 65536
    → close_bar o ≡ Some e → IsCounted e
bar-counted host hosts port None c e tied sends recvs is = absurd tied
bar-counted host hosts port (Some p) c e tied sends recvs is =
    let a = sends-counted p c.held tied.owners in
    let b = recvs-counted p c.held tied.owners in
    let l = events-counted p.events in
    let s = tied.minted_sends in
    let r = tied.minted_recvs in
    counts (unfinished p) (unread p) (filling_count p) (nat_lt 0 (unfinished p)) (nat_lt 0 (unread p)) (nat_lt 0 (filling_count p)) e is
    (omega (arith, a, s, sends)) (omega (arith, a, b, l, s, r, sends, recvs))

-- each token count of a client is of 16 bits
abbrev pub IsFew : OpenClient → Type 0
IsFew c = (c.minted_sends < 65536) × (c.minted_recvs < 65536)

pub bar-few : (host hosts port : ℕ) (o : Option PortState) (x : Option OpenClient) (e : NodeClose) → IsTied host hosts port o x → is_some x ≡ true → IfSome x IsFew → close_bar o ≡ Some e → IsCounted e
bar-few host hosts port o None e tied there few is = absurd (grind arith)
bar-few host hosts port o (Some c) e tied there few is = bar-counted host hosts port o c e tied few.0 few.1 is

-- What a port that may be closed hands back, and its client holds, is all.
pub record IsLast (x : Option OpenClient) (provided : List (Token × List ℕ)) : Type 0 where
  pub own : IfSome x (λ c. AreOwnWith c.host c.port provided)
  pub sends : IfSome x (λ c. IsEachOnce c.minted_sends c.held.sends)
  pub recvs : IfSome x (λ c. IsEachOnce c.minted_recvs (c.held.recvs ++ numbers_with provided))
  pub few : length provided < 65536

module _ (host hosts port : ℕ) (provided : List (Token × List ℕ)) where
  pub closing-last : (o : Option PortState) (x : Option OpenClient) → IsTied host hosts port o x → is_some x ≡ true → IfSome x IsFew → close_bar o ≡ None → IfSome o (λ p. provided ≡ map (receive_at host port) p.provided)
      → IsLast x provided
  closing-last o None tied there few bar given = absurd (grind arith)
  closing-last None (Some c) tied there few bar given = absurd tied
  closing-last (Some p) (Some c) tied there few bar given =
      let k = not_refused-closable p (refusal-is p ∙ ap (option_map close_cause) bar) in
      let own = closed-owners host hosts port p c provided tied k.finished k.read given in
      let n = recvs-counted p c.held tied.owners in
      let l = ap length given ∙ length-map p.provided (receive_at host port) in
      let m = tied.minted_recvs in
      let f = few.1 in
      record { own = own.0; sends = own.1; recvs = own.2; few = omega (arith, n, l, m, f) }

  pub closing-is : (n : NodeState) (x : Option OpenClient) → IsTied host hosts port (port_at n port) x → is_some x ≡ true → close_bar (port_at n port) ≡ None → IfSome (port_at n port) (λ p. provided ≡ map (receive_at host port) p.provided)
      → closed n port (held_of x) ≡ left n port None None (Count (length provided))
  closing-is n None tied there bar given = absurd (grind arith)
  closing-is n (Some c) tied there bar given =
      let o = open-is host hosts port (port_at n port) c tied in
      let g = subst (λ y. IfSome y (λ p. provided ≡ map (receive_at host port) p.provided)) o.is given in
      (closing-open n port (Some c.held) o.state o.is bar).0 ∙ ap (λ k. left n port None None (Count k)) (sym (ap length g ∙ length-map o.state.provided (receive_at host port)))

-- a port without a client
pub unminted : (x : Option OpenClient) → ◌≡◌ {A = Option (ℕ × ℕ)} None (option_map (λ (c : OpenClient). (c.minted_sends, c.minted_recvs)) x) → x ≡ None
unminted None e = refl
unminted (Some c) e = let pair : ℕ × ℕ = (c.minted_sends, c.minted_recvs) in absurd (none-some pair e)

pub none-held : (x : Option OpenClient) → None ≡ now_holding x None
none-held None = refl
none-held (Some c) = refl
