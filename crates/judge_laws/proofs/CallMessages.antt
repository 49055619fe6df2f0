-- What each call's line tells of messages is what it shows.
use Rattle.std.proofs.Common.{◌≡◌, ◌<◌, ◌&&◌, ℕ, Bool, true, false, cond, List, [], ◌∷◌, ◌++◌, map, nat_eq, refl, sym, ap, ◌∙◌, true≢false, if◌then◌else◌}
use Rattle.std.specs.List.{filter}
use Rattle.std.proofs.lemmas.Bool.Decides.{Decides-eqb}
use Rattle.gm_defs.specs.declared.message.Message.{Message}
use Rattle.gm_defs.specs.declared.frame.ConnectionKey.{ConnectionKey}
use Rattle.gm_defs.specs.Body.{prio_limit}
use Rattle.world_defs.specs.declared.client.ClientCause.{ClientCause}
use Rattle.world_defs.specs.declared.effect.Said.{Said}
use Rattle.world_defs.specs.declared.effect.Said.TheVariants.{Done, Count, Token, Sent as SaidSent, Received as SaidReceived, Nothing, Refused}
use Rattle.world_defs.specs.Client.{client_bytes}
use Rattle.world_defs.specs.Node.{prio_place}
use Rattle.port_ledgers.specs.declared.lane.Lane.{Lane}
use Rattle.port_ledgers.specs.declared.lane.PortName.{PortName}
use Rattle.port_ledgers.specs.Told.{Opened as ToldOpened, Closed as ToldClosed, Provided as ToldProvided, Accepted as ToldAccepted, Returned as ToldReturned, Received as ToldReceived, sent_told}
use Rattle.run_defs.specs.declared.command.Command.{Command}
use Rattle.run_defs.specs.declared.command.Command.TheVariants.{Begin, Close, Poll, Provide, Send}
use Rattle.run_defs.specs.declared.line.ClientCall.{ClientCall}
use Rattle.run_defs.specs.declared.line.ClientCall.TheVariants.{Begin as BeginCall, Close as CloseCall, Provide as ProvideCall, Send as SendCall, Poll as PollCall, Tokens as TokensCall}
use Rattle.run_defs.specs.declared.line.Line.TheVariants.{Client}
use Rattle.run_defs.specs.Output.{Piece, OneLine}
use Rattle.client_laws.specs.Handed.{Handed, in_answer, is_on, is_sent_on}
use Rattle.promise_laws.specs.ReceivedLines.{is_send, accepted_by_lines, accepted_of}
use Rattle.judge_laws.proofs.Messages.{IsMessageTold, connection, on, of_lane}
use Rattle.judge_laws.proofs.Quiet.{IsQuiet, quiet-messages}

-- the line of a call of a host's port
abbrev pub one_line : ClientCall → ℕ → ℕ → Said → List Piece
one_line kind h port said = OneLine (Client kind h port said) ∷ []

none-either : {X : Type 0} (b : Bool) → ◌≡◌ {A = List X} (if b then [] else []) []
none-either true = refl
none-either false = refl

none-first : {X : Type 0} (b : Bool) → ◌≡◌ {A = List X} ((if b then [] else []) ++ []) []
none-first true = refl
none-first false = refl

-- a line of a poll that hands out nothing
poll-quiet : (h port : ℕ) (said : Said) → in_answer said ≡ [] → IsQuiet (one_line PollCall h port said)
poll-quiet h port said none = record {
  received = λ i p. (λ j. (if nat_eq h i && nat_eq port p then none j else []) ++ []) ∙ none-first (nat_eq h i && nat_eq port p);
  answers = refl;
}

-- a refused call tells nothing, and its line shows nothing
refused-accepted : (c : ConnectionKey) (cmd : Command) (cause : ClientCause) → accepted_by_lines c (filter is_send (cmd ∷ [])) (Refused cause ∷ []) ≡ []
refused-accepted c (Send h port dest dport prio len seed) cause = none-first (is_sent_on c h dest prio)
refused-accepted c cmd cause = refl

pub refused-messages : (cmd : Command) (kind : ClientCall) (h port : ℕ) (cause : ClientCause) → IsMessageTold cmd (one_line kind h port (Refused cause)) []
refused-messages cmd BeginCall h port cause = quiet-messages cmd (one_line BeginCall h port (Refused cause)) [] refl (record { received = λ i p. refl; answers = refl })
refused-messages cmd CloseCall h port cause = quiet-messages cmd (one_line CloseCall h port (Refused cause)) [] refl (record { received = λ i p. refl; answers = refl })
refused-messages cmd ProvideCall h port cause = quiet-messages cmd (one_line ProvideCall h port (Refused cause)) [] refl (record { received = λ i p. refl; answers = refl })
refused-messages cmd TokensCall h port cause = quiet-messages cmd (one_line TokensCall h port (Refused cause)) [] refl (record { received = λ i p. refl; answers = refl })
refused-messages cmd PollCall h port cause = quiet-messages cmd (one_line PollCall h port (Refused cause)) [] refl (poll-quiet h port (Refused cause) refl)
refused-messages cmd SendCall h port cause = record {
  received = λ k. refl;
  sent = λ k low. sym (ap (filter (of_lane k)) (refused-accepted (connection k) cmd cause));
}

-- calls of no message
pub rests-messages : (h port : ℕ) → IsMessageTold (Poll h port) (one_line PollCall h port Nothing) []
rests-messages h port = quiet-messages (Poll h port) (one_line PollCall h port Nothing) [] refl (poll-quiet h port Nothing refl)

pub opens-messages : (h port sends recvs : ℕ) (a : PortName) → IsMessageTold (Begin h port sends recvs) (one_line BeginCall h port Done) (ToldOpened a sends recvs ∷ [])
opens-messages h port sends recvs a = record { received = λ k. refl; sent = λ k low. refl }

pub closes-messages : (h port count : ℕ) (a : PortName) → IsMessageTold (Close h port) (one_line CloseCall h port (Count count)) (ToldClosed a count ∷ [])
closes-messages h port count a = record { received = λ k. refl; sent = λ k low. refl }

pub provides-messages : (h port size prio t : ℕ) (a : PortName) → IsMessageTold (Provide h port size prio) (one_line ProvideCall h port (Token t)) (ToldProvided a t ∷ [])
provides-messages h port size prio t a = record { received = λ k. refl; sent = λ k low. refl }

pub sent-messages : (h port t : ℕ) (a : PortName) → IsMessageTold (Poll h port) (one_line PollCall h port (SaidSent t)) (ToldReturned a t ∷ [])
sent-messages h port t a = record {
  received = λ k. sym (ap (λ xs. map (on k) (filter (is_on k.from k.prio) (xs ++ []))) (none-either (nat_eq h k.to && nat_eq port k.port)));
  sent = λ k low. refl;
}

-- an accepted send, by whether it goes by a lane
accepted-by : (p : Message → Bool) (m : Message) (a b c d e : Bool) → p m ≡ (c && d) → (d ≡ true → e ≡ true) → (if a && (b && (c && d)) then m ∷ [] else []) ≡ filter p ((if a && (b && e) then m ∷ [] else []) ++ [])
accepted-by p m true true true true true same near = λ i. cond (sym same i) (m ∷ []) []
accepted-by p m true true false true true same near = λ i. cond (sym same i) (m ∷ []) []
accepted-by p m true true true false true same near = λ i. cond (sym same i) (m ∷ []) []
accepted-by p m true true false false true same near = λ i. cond (sym same i) (m ∷ []) []
accepted-by p m true true c true false same near = absurd (true≢false (sym (near refl)))
accepted-by p m true true true false false same near = refl
accepted-by p m true true false false false same near = refl
accepted-by p m true false c d e same near = refl
accepted-by p m false b c d e same near = refl

pub accepts-messages : (h port dest dport prio len seed t : ℕ)
    → IsMessageTold (Send h port dest dport prio len seed) (one_line SendCall h port (Token t)) (ToldAccepted (record { from = h; to = dest; port = dport; prio = prio }) (record { sport = port; len = len; seed = seed }) t ∷ [])
accepts-messages h port dest dport prio len seed t = record { received = λ k. refl; sent = sent }
  where
    near : (k : Lane) → nat_eq prio k.prio ≡ true → nat_eq (prio_place prio) (prio_place k.prio) ≡ true
    near k e = ap (λ q. nat_eq (prio_place prio) (prio_place q)) (sym ((Decides-eqb prio k.prio).0 e)) ∙ (Decides-eqb (prio_place prio) (prio_place prio)).1 refl

    sent : (k : Lane) → k.prio < prio_limit → sent_told k (ToldAccepted (record { from = h; to = dest; port = dport; prio = prio }) (record { sport = port; len = len; seed = seed }) t ∷ [])
        ≡ filter (of_lane k) (accepted_of (connection k) (Send h port dest dport prio len seed ∷ []) (one_line SendCall h port (Token t)))
    sent k low =
        let m : Message = record { sport = port; dport = dport; prio = prio; body = client_bytes len seed } in
        accepted-by (of_lane k) m (nat_eq h k.from) (nat_eq dest k.to) (nat_eq dport k.port) (nat_eq prio k.prio) (nat_eq (prio_place prio) (prio_place k.prio)) refl (near k)

-- a received message, by whether it came by a lane
received-by : (k : Lane) (from h port prio sport : ℕ) (body : List ℕ) (a b c d : Bool) → nat_eq from k.from ≡ a → nat_eq h k.to ≡ b → nat_eq port k.port ≡ c → nat_eq prio k.prio ≡ d
    → (if a && (b && (c && d)) then record { sport = sport; dport = port; prio = prio; body = body } ∷ [] else [])
    ≡ map (on k) (filter (is_on k.from k.prio) ((if b && c then record { from = from; sport = sport; prio = prio; bytes = body } ∷ [] else []) ++ []))
received-by k from h port prio sport body true true true true e f g i =
    let x : Handed = record { from = from; sport = sport; prio = prio; bytes = body } in
    let same_port : port ≡ k.port = (Decides-eqb port k.port).0 g in
    let same_prio : prio ≡ k.prio = (Decides-eqb prio k.prio).0 i in
    (λ j. record { sport = sport; dport = same_port j; prio = same_prio j; body = body } ∷ [])
    ∙ (λ j. map (on k) (cond (sym e j && sym i j) (x ∷ []) []))
received-by k from h port prio sport body true true true false e f g i =
    let x : Handed = record { from = from; sport = sport; prio = prio; bytes = body } in
    λ j. map (on k) (cond (sym e j && sym i j) (x ∷ []) [])
received-by k from h port prio sport body false true true d e f g i =
    let x : Handed = record { from = from; sport = sport; prio = prio; bytes = body } in
    λ j. map (on k) (cond (sym e j && nat_eq prio k.prio) (x ∷ []) [])
received-by k from h port prio sport body true true false d e f g i = refl
received-by k from h port prio sport body false true false d e f g i = refl
received-by k from h port prio sport body true false c d e f g i = refl
received-by k from h port prio sport body false false c d e f g i = refl

pub received-messages : (h port t from sport prio : ℕ) (body : List ℕ) → IsMessageTold (Poll h port) (one_line PollCall h port (SaidReceived t from sport prio body)) (ToldReceived (record { from = from; to = h; port = port; prio = prio }) sport body t ∷ [])
received-messages h port t from sport prio body = record {
  received = λ k. received-by k from h port prio sport body (nat_eq from k.from) (nat_eq h k.to) (nat_eq port k.port) (nat_eq prio k.prio) refl refl refl refl;
  sent = λ k low. refl;
}
