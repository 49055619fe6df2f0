-- The line of each call of a client is read, is an answer of its command, and tells of its port what the call made of it.
use Rattle.std.proofs.Common.{◌≡◌, ◌<◌, ◌≤◌, ◌+◌, ◌&&◌, ◌||◌, ℕ, Bool, true, false, List, [], ◌∷◌, ◌++◌, map, length, set, take, nat_eq, Option, Some, None, refl, sym, ap, ◌∙◌, subst, length-append, arith, if◌then◌else◌}
use Rattle.std.specs.Prelude.{slice_get}
use Rattle.std.proofs.lemmas.List.{length-map}
use Rattle.net_defs.specs.Network.{Network}
use Rattle.gm_defs.specs.Port.{without_first, sent_with, provided_with, next_event, polled}
use Rattle.gm_defs.specs.Token.{PortState, PortEvent, Sent, Received as ReceivedEvent, opened, has_number, sends_out, recvs_out, sent_tokens, received_tokens}
use Rattle.world_defs.specs.declared.effect.Said.TheVariants.{Refused, Received as SaidReceived}
use Rattle.world_defs.specs.Node.{NodeState, port_at}
use Rattle.world_defs.specs.Client.{ClientState, Called, client_bytes, empty_buffer}
use Rattle.world_defs.specs.Sound.{IsEachOnce, AreOwned, HasOwners}
use Rattle.world_defs.proofs.Calls.{IsClosable}
use Rattle.port_ledgers.specs.declared.lane.PortName.{PortName}
use Rattle.port_ledgers.specs.Told.{Told, Opened as ToldOpened, Closed as ToldClosed, Provided as ToldProvided, Accepted as ToldAccepted, Returned as ToldReturned, Received as ToldReceived}
use Rattle.port_ledgers.specs.Held.{OpenPort, port_of, port_from, MayBeSaidOf}
use Rattle.run_defs.specs.declared.command.Command.{Command}
use Rattle.run_defs.specs.declared.command.Command.TheVariants.{Begin as BeginCommand, Close as CloseCommand, Poll as PollCommand, Tokens as TokensCommand, Provide as ProvideCommand, Send as SendCommand}
use Rattle.run_defs.specs.declared.line.ClientCall.{ClientCall}
use Rattle.run_defs.specs.declared.line.ClientCall.TheVariants.{Begin, Close, Provide, Send, Poll, Tokens}
use Rattle.report_lines.specs.declared.line.ReportLine.{ReportLine}
use Rattle.report_lines.specs.declared.line.ReportLine.TheVariants.{Opened, Closed, Provided, Accepted, Returned, Received, NothingCame, CallRefused}
use Rattle.answer_defs.specs.Answer.{told_by}
use Rattle.judge_defs.specs.Form.{call_of, same_call, may_answer}
use Rattle.judge_laws.specs.Lines.{IsCounted}
use Rattle.judge_laws.specs.Answers.{is_alone}
use Rattle.judge_laws.proofs.Counts.{counts}
use Rattle.judge_laws.proofs.Calls.{IsCall}
use Rattle.judge_laws.proofs.Owners.{number-join, number-holds, other-part}
use Rattle.judge_laws.proofs.Ports.{open_by}
use Rattle.judge_laws.proofs.Messages.{same-number, IsShown, IsMessageTold}
use Rattle.judge_laws.proofs.CallMessages.{one_line, refused-messages, rests-messages, opens-messages, closes-messages, provides-messages, accepts-messages, sent-messages, received-messages}
use Rattle.judge_laws.proofs.CallSaying.{CallSays, opened as says_opened, closed as says_closed, provided as says_provided, accepted as says_accepted, returned as says_returned, received as says_received, nothing_came as says_nothing, refused as says_refused}

-- what a line tells, and what the call made of its port: nothing, or one thing
pub data IsTold (m : NodeState) (c : Option ClientState) (a : PortName) (call : Called) : List Told → Type 0 where
  stays : call.node ≡ m → call.client ≡ c → IsTold m c a call []
  tells : (t : Told) (p : Option PortState) → call.node.ports ≡ set m.ports a.port p → port_of t ≡ a → MayBeSaidOf t (open_by (counts (port_at m a.port)) c)
      → port_from t (open_by (counts (port_at m a.port)) c) ≡ open_by (counts p) call.client → IsTold m c a call (t ∷ [])

-- The line of a call.
pub record IsCallLine (n : Network) (m : NodeState) (c : Option ClientState) (a : PortName) (cmd : Command) (call : Called) : Type 0 where
  pub kind : ClientCall
  pub r : ReportLine
  pub says : CallSays n a kind call.said r
  pub may : may_answer cmd r ≡ true
  pub told : IsTold m c a call (told_by cmd r)
  pub only : (adopted : Bool) → is_alone adopted r ≡ true
  pub kind_is : call_of cmd ≡ Some (kind, a)
  pub messages : IsMessageTold cmd (one_line kind a.host a.port call.said) (told_by cmd r)

-- the first of some tokens is taken
first-taken : (held ts : List ℕ) (t : ℕ) → held ≡ t ∷ ts → without_first (nat_eq t) held ≡ ts
first-taken held ts t e = ap (without_first (nat_eq t)) e ∙ (λ i. if same-number t i then ts else t ∷ without_first (nat_eq t) ts)

first-held : (held ts : List ℕ) (t : ℕ) → held ≡ t ∷ ts → has_number held t ≡ true
first-held held ts t e = ap (λ l. has_number l t) e ∙ (λ i. same-number t i || has_number ts t)

or-true : (a b : Bool) → b ≡ true → (a || b) ≡ true
or-true true b e = refl
or-true false b e = e

plus-none : (k : ℕ) → k + 0 ≡ k
plus-none k = omega arith

-- the token of the first event
first-sent : (es : List PortEvent) (t : ℕ) (buffer : List ℕ) → slice_get es 0 ≡ Some (Sent t buffer) → has_number (sent_tokens es) t ≡ true
first-sent [] t buffer e = cc
first-sent (Sent u b ∷ es) t buffer e = let one : u ≡ t = cc in (λ i. nat_eq t (one i) || has_number (sent_tokens es) t) ∙ (λ i. same-number t i || has_number (sent_tokens es) t)
first-sent (ReceivedEvent u b from sport prio len ∷ es) t buffer e = cc

first-received : (es : List PortEvent) (t : ℕ) (buffer : List ℕ) (from sport prio len : ℕ) → slice_get es 0 ≡ Some (ReceivedEvent t buffer from sport prio len) → has_number (received_tokens es) t ≡ true
first-received [] t buffer from sport prio len e = cc
first-received (Sent u b ∷ es) t buffer from sport prio len e = cc
first-received (ReceivedEvent u b g s q l ∷ es) t buffer from sport prio len e = let one : u ≡ t = cc in (λ i. nat_eq t (one i) || has_number (received_tokens es) t) ∙ (λ i. same-number t i || has_number (received_tokens es) t)

-- a refusal tells nothing
refusal-told : (cmd : Command) (kind : ClientCall) (a : PortName) → told_by cmd (CallRefused kind a) ≡ []
refusal-told cmd kind a = refl

-- a port that may be closed has no event
no-unread : (p : PortState) → IsClosable p → p.events ≡ []
no-unread p k = by p.events k.read
  where
    by : (es : List PortEvent) → length es ≡ 0 → es ≡ []
    by [] e = refl
    by (x ∷ es) e = absurd (omega arith)

-- an open port of a world whose tokens have their owners
module _ (n : Network) (m : NodeState) (c : Option ClientState) (h port : ℕ) (owned : AreOwned (port_at m port) c) (few : (p : PortState) → port_at m port ≡ Some p → (p.sends ≤ 64) × (p.recvs ≤ 64)) where
  abbrev at : PortName
  at = record { host = h; port = port }

  abbrev before : Option OpenPort
  before = open_by (counts (port_at m port)) c

  both-owned : (p : PortState) (d : ClientState) → port_at m port ≡ Some p → c ≡ Some d → HasOwners p d
  both-owned p d e f = subst (λ o. AreOwned o (Some d)) e (subst (λ b. AreOwned (port_at m port) b) f owned)

  opened-as : (p : PortState) (d : ClientState) → port_at m port ≡ Some p → c ≡ Some d → before ≡ Some (record { sends = p.sends; recvs = p.recvs; client = d })
  opened-as p d e f = λ i. open_by (counts (e i)) (f i)

  same-named : (kind : ClientCall) → same_call (Some (kind, at)) (Some (kind, at)) ≡ true
  same-named Begin = λ i. same-number h i && same-number port i
  same-named Close = λ i. same-number h i && same-number port i
  same-named Provide = λ i. same-number h i && same-number port i
  same-named Send = λ i. same-number h i && same-number port i
  same-named Poll = λ i. same-number h i && same-number port i
  same-named Tokens = λ i. same-number h i && same-number port i

  -- a token of few is of 64 bits
  few-token : (count t : ℕ) (ts : List ℕ) → IsEachOnce count ts → count ≤ 64 → has_number ts t ≡ true → IsCounted t
  few-token count t ts once most e = let low = number-holds (λ x. x < count) t ts once.below e in omega arith

  front-number : (t : ℕ) (front back : List ℕ) → has_number front t ≡ true → has_number (front ++ back) t ≡ true
  front-number t front back e = number-join front back t ∙ (λ i. e i || has_number back t)

  back-number : (t : ℕ) (front back : List ℕ) → has_number back t ≡ true → has_number (front ++ back) t ≡ true
  back-number t front back e = number-join front back t ∙ or-true (has_number front t) (has_number back t) e

  -- the first event's token is one that the client hasn't
  sent-out : (t : ℕ) (buffer : List ℕ) (p : PortState) → next_event p ≡ Some (Sent t buffer) → has_number (sends_out p) t ≡ true
  sent-out t buffer p e = back-number t (map (λ s. s.token) p.queue) (sent_tokens p.events) (first-sent p.events t buffer e)

  received-out : (t : ℕ) (buffer : List ℕ) (from sport prio len : ℕ) (p : PortState) → next_event p ≡ Some (ReceivedEvent t buffer from sport prio len) → has_number (recvs_out p) t ≡ true
  received-out t buffer from sport prio len p e = back-number t (map (λ r. r.token) p.provided) (received_tokens p.events) (first-received p.events t buffer from sport prio len e)

  -- an open port has a client
  owned-open : (p : PortState) → port_at m port ≡ Some p → (d : ClientState) × (c ≡ Some d)
  owned-open p e = by c refl
    where
      by : (o : Option ClientState) → c ≡ o → (d : ClientState) × (c ≡ Some d)
      by (Some d) f = (d, f)
      by None f = absurd (subst (λ x. AreOwned x None) e (subst (λ y. AreOwned (port_at m port) y) f owned))

  -- a refusal answers its command
  refusal-may : (cmd : Command) (kind : ClientCall) → call_of cmd ≡ Some (kind, at) → may_answer cmd (CallRefused kind at) ≡ true
  refusal-may (BeginCommand g p sends recvs) kind e = ap (λ o. same_call o (Some (kind, at))) e ∙ same-named kind
  refusal-may (CloseCommand g p) kind e = ap (λ o. same_call o (Some (kind, at))) e ∙ same-named kind
  refusal-may (ProvideCommand g p size prio) kind e = ap (λ o. same_call o (Some (kind, at))) e ∙ same-named kind
  refusal-may (SendCommand g p dest dport prio len seed) kind e = ap (λ o. same_call o (Some (kind, at))) e ∙ same-named kind
  refusal-may (PollCommand g p) kind e = ap (λ o. same_call o (Some (kind, at))) e ∙ same-named kind
  refusal-may (TokensCommand g p) kind e = ap (λ o. same_call o (Some (kind, at))) e ∙ same-named kind
  refusal-may _ kind e = cc

  pub call-line : (cmd : Command) (call : Called) → IsCall m c h port cmd call → ((t from sport prio : ℕ) (body : List ℕ) → cmd ≡ PollCommand h port → call.said ≡ SaidReceived t from sport prio body → IsShown n from sport prio body) → IsCallLine n m c at cmd call
  call-line cmd call (IsCall.refuses kind cause e may) shown = record {
    kind = kind;
    r = CallRefused kind at;
    says = says_refused kind cause may;
    may = refusal-may cmd kind e;
    told = subst (IsTold m c at call) (sym (refusal-told cmd kind at)) (IsTold.stays refl refl);
    only = λ adopted. refl;
    kind_is = e;
    messages = subst (IsMessageTold cmd (one_line kind h port (Refused cause))) (sym (refusal-told cmd kind at)) (refused-messages cmd kind h port cause);
  }
  call-line cmd call IsCall.rests shown = record { kind = Poll; r = NothingCame at; says = says_nothing; may = same-named Poll; told = IsTold.stays refl refl; only = λ adopted. refl; kind_is = refl; messages = rests-messages h port }
  call-line cmd call (IsCall.opens sends recvs e) shown = record {
    kind = Begin;
    r = Opened at;
    says = says_opened;
    may = same-named Begin;
    told = IsTold.tells (ToldOpened at sends recvs) (Some (opened sends recvs)) refl refl tt refl;
    only = λ adopted. refl;
    kind_is = refl;
    messages = opens-messages h port sends recvs at;
  }
  call-line cmd call (IsCall.closes p e closable) shown =
      let there = owned-open p e in
      let d = there.0 in
      let f = there.1 in
      let has = both-owned p d e f in
      let few_p = few p e in
      let whole = has.recvs.all in
      let none = no-unread p closable in
      let out : length (recvs_out p) ≡ length p.provided = length-append (map (λ r. r.token) p.provided) (received_tokens p.events) ∙ (λ i. length (map (λ r. r.token) p.provided) + length (received_tokens (none i))) ∙ plus-none (length (map (λ r. r.token) p.provided)) ∙ length-map p.provided (λ r. r.token) in
      let parts = length-append d.recvs (recvs_out p) in
      let before_is = opened-as p d e f in
      record {
        kind = Close;
        r = Closed at (length p.provided);
        says = says_closed (length p.provided) (let most = few_p.1 in omega arith);
        may = same-named Close;
        told = IsTold.tells (ToldClosed at (length p.provided)) None refl refl (subst (MayBeSaidOf (ToldClosed at (length p.provided))) (sym before_is) (omega arith)) (ap (port_from (ToldClosed at (length p.provided))) before_is);
        only = λ adopted. refl;
        kind_is = refl;
        messages = closes-messages h port (length p.provided) at;
      }
  call-line cmd call (IsCall.provides size prio t ts p d e f g) shown =
      let has = both-owned p d e f in
      let held = first-held d.recvs ts t g in
      let before_is = opened-as p d e f in
      record {
        kind = Provide;
        r = Provided at t;
        says = says_provided t (few-token p.recvs t (d.recvs ++ recvs_out p) has.recvs (few p e).1 (front-number t d.recvs (recvs_out p) held));
        may = same-named Provide;
        told = IsTold.tells (ToldProvided at t) (Some (provided_with p (record { token = t; size = size; prio = prio; filling = None; buffer = empty_buffer size }))) refl refl (subst (MayBeSaidOf (ToldProvided at t)) (sym before_is) held)
            (ap (port_from (ToldProvided at t)) before_is ∙ (λ i. Some (record { sends = p.sends; recvs = p.recvs; client = record { sends = d.sends; recvs = first-taken d.recvs ts t g i } })));
        only = λ adopted. refl;
        kind_is = refl;
        messages = provides-messages h port size prio t at;
      }
  call-line cmd call (IsCall.accepts dest dport prio len seed t ts p d e f g) shown =
      let has = both-owned p d e f in
      let held = first-held d.sends ts t g in
      let before_is = opened-as p d e f in
      let said : Told = ToldAccepted (record { from = h; to = dest; port = dport; prio = prio }) (record { sport = port; len = len; seed = seed }) t in
      record {
        kind = Send;
        r = Accepted at t;
        says = says_accepted t (few-token p.sends t (d.sends ++ sends_out p) has.sends (few p e).0 (front-number t d.sends (sends_out p) held));
        may = same-named Send;
        told = IsTold.tells said (Some (sent_with p t (client_bytes len seed))) refl refl (subst (MayBeSaidOf said) (sym before_is) held)
            (ap (port_from said) before_is ∙ (λ i. Some (record { sends = p.sends; recvs = p.recvs; client = record { sends = first-taken d.sends ts t g i; recvs = d.recvs } })));
        only = λ adopted. refl;
        kind_is = refl;
        messages = accepts-messages h port dest dport prio len seed t;
      }
  call-line cmd call (IsCall.hands_sent t buffer p d e f g) shown =
      let has = both-owned p d e f in
      let out = sent-out t buffer p g in
      let low = number-holds (λ x. x < p.sends) t (d.sends ++ sends_out p) has.sends.below (back-number t d.sends (sends_out p) out) in
      let before_is = opened-as p d e f in
      record {
        kind = Poll;
        r = Returned at t;
        says = says_returned t (few-token p.sends t (d.sends ++ sends_out p) has.sends (few p e).0 (back-number t d.sends (sends_out p) out));
        may = same-named Poll;
        told = IsTold.tells (ToldReturned at t) (Some (polled p)) refl refl (subst (MayBeSaidOf (ToldReturned at t)) (sym before_is) (low, other-part t d.sends (sends_out p) has.sends.once out)) (ap (port_from (ToldReturned at t)) before_is);
        only = λ adopted. refl;
        kind_is = refl;
        messages = sent-messages h port t at;
      }
  call-line cmd call (IsCall.hands_received t buffer from sport prio len p d e f g) shown =
      let has = both-owned p d e f in
      let out = received-out t buffer from sport prio len p g in
      let low = number-holds (λ x. x < p.recvs) t (d.recvs ++ recvs_out p) has.recvs.below (back-number t d.recvs (recvs_out p) out) in
      let before_is = opened-as p d e f in
      let body = take len buffer in
      let is = shown t from sport prio body refl refl in
      let said : Told = ToldReceived (record { from = from; to = h; port = port; prio = prio }) sport body t in
      record {
        kind = Poll;
        r = Received (record { port = at; token = t; from = from; sport = sport; prio = prio; len = length body; body = body });
        says = says_received t from sport prio body (few-token p.recvs t (d.recvs ++ recvs_out p) has.recvs (few p e).1 (back-number t d.recvs (recvs_out p) out)) is.sender is.of_port is.of_prio is.long is.bytes;
        may = same-named Poll;
        told = IsTold.tells said (Some (polled p)) refl refl (subst (MayBeSaidOf said) (sym before_is) (low, other-part t d.recvs (recvs_out p) has.recvs.once out)) (ap (port_from said) before_is);
        only = λ adopted. refl;
        kind_is = refl;
        messages = received-messages h port t from sport prio body;
      }
