-- What commands of the network print shows no message.
use Rattle.std.proofs.Common.{◌≡◌, ℕ, Bool, true, false, List, [], ◌∷◌, ◌++◌, map, length, Option, Some, None, refl, sym, ap, ◌∙◌, subst, true≢false, if◌then◌else◌}
use Rattle.std.specs.List.{AllByRecursion, filter}
use Rattle.net_defs.specs.Network.{Network}
use Rattle.gm_defs.specs.declared.frame.ConnectionKey.{ConnectionKey}
use Rattle.journal_defs.proofs.Members.{all-join}
use Rattle.map_defs.specs.NetMap.{NetMap}
use Rattle.world_defs.specs.declared.client.ClientCause.TheVariants.{Busy, Unread, Filling}
use Rattle.world_defs.specs.declared.effect.Said.{Said}
use Rattle.world_defs.specs.declared.effect.Said.TheVariants.{Done, Count, Token, Sent, Received as SaidReceived, Nothing, Refused}
use Rattle.port_ledgers.specs.declared.lane.PortName.{PortName}
use Rattle.port_ledgers.specs.Told.{Told}
use Rattle.run_defs.specs.declared.command.Command.{Command}
use Rattle.run_defs.specs.declared.command.Command.TheVariants.{Begin, Close, Poll, Tokens as TokensCommand, Provide, Send, Duo}
use Rattle.run_defs.specs.declared.line.ClientCall.{ClientCall}
use Rattle.run_defs.specs.declared.line.ClientCall.TheVariants.{Begin as BeginCall, Provide as ProvideCall, Send as SendCall}
use Rattle.run_defs.specs.declared.line.Line.{Line}
use Rattle.run_defs.specs.declared.line.Line.TheVariants.{Client, Routes, EndRoutes, Installed, Table, Broken, EndBroken}
use Rattle.run_defs.specs.LineRows.{call_word, client_cause, said_kind, said_values, line_values}
use Rattle.line_table.specs.declared.kind.LineKind.TheVariants.{CallDone, CallUnfinished}
use Rattle.line_table.specs.Matching.{is_among}
use Rattle.run_defs.specs.Output.{Piece, OneLine, MapLines, lines}
use Rattle.run_defs.specs.Run.{route_line, rank_line}
use Rattle.report_lines.specs.declared.line.ReceivedLine.{ReceivedLine}
use Rattle.report_lines.specs.declared.line.TokensLine.{TokensLine}
use Rattle.report_lines.specs.declared.line.ReportLine.{ReportLine}
use Rattle.report_lines.specs.declared.line.ReportLine.TheVariants.{Opened, Closed, Provided, Accepted, Returned, Received, NothingCame, CallRefused, Tokens}
use Rattle.report_lines.specs.Meaning.{call_named, called, causes_of, meaning, message_of, where_known}
use Rattle.client_laws.specs.Handed.{is_on}
use Rattle.promise_laws.specs.ReceivedLines.{received_in_line, received_in, send_answer, send_answers, is_send, accepted_by_lines}
use Rattle.answer_defs.specs.Answer.{Answer}
use Rattle.judge_defs.specs.Form.{Known, may_answer}
use Rattle.judge_laws.specs.Lines.{Says, by_row}
use Rattle.judge_laws.specs.Answers.{IsPrintedAnswer, alone, with_map, with_routes, with_tables, with_broken}
use Rattle.judge_laws.specs.Commands.{is_of_network}
use Rattle.judge_laws.proofs.Messages.{IsMessageTold, connection, on, of_lane}

-- a line that shows no message, and says nothing of a send
pub record IsQuietLine (l : Line) : Type 0 where
  pub received : (h port : ℕ) → received_in_line h port l ≡ []
  pub answers : send_answer l ≡ []

-- and so pieces
pub record IsQuiet (out : List Piece) : Type 0 where
  pub received : (h port : ℕ) → received_in h port out ≡ []
  pub answers : send_answers out ≡ []

quiet-none : IsQuiet []
quiet-none = record { received = λ h port. refl; answers = refl }

quiet-then : (l : Line) (out : List Piece) → IsQuietLine l → IsQuiet out → IsQuiet (OneLine l ∷ out)
quiet-then l out one rest = record { received = λ h port. (λ i. one.received h port i ++ rest.received h port i); answers = λ i. one.answers i ++ rest.answers i }

quiet-map : (m : NetMap) (out : List Piece) → IsQuiet out → IsQuiet (MapLines m ∷ out)
quiet-map m out rest = record { received = rest.received; answers = rest.answers }

quiet-lines : (ls : List Line) → AllByRecursion IsQuietLine ls → IsQuiet (lines ls)
quiet-lines [] all = quiet-none
quiet-lines (l ∷ ls) all = quiet-then l (lines ls) all.0 (quiet-lines ls all.1)

quiet-mapped : {X : Type 0} (f : X → Line) (xs : List X) → ((x : X) → IsQuietLine (f x)) → AllByRecursion IsQuietLine (map f xs)
quiet-mapped f [] one = tt
quiet-mapped f (x ∷ xs) one = (one x, quiet-mapped f xs one)

-- no line of a call answers a command of the network
record HasNoCalls (c : Command) : Type 0 where
  pub opened : (a : PortName) → may_answer c (Opened a) ≡ false
  pub closed : (a : PortName) (count : ℕ) → may_answer c (Closed a count) ≡ false
  pub provided : (a : PortName) (token : ℕ) → may_answer c (Provided a token) ≡ false
  pub accepted : (a : PortName) (token : ℕ) → may_answer c (Accepted a token) ≡ false
  pub returned : (a : PortName) (token : ℕ) → may_answer c (Returned a token) ≡ false
  pub received : (l : ReceivedLine) → may_answer c (Received l) ≡ false
  pub nothing : (a : PortName) → may_answer c (NothingCame a) ≡ false
  pub refused : (kind : ClientCall) (a : PortName) → may_answer c (CallRefused kind a) ≡ false
  pub tokens : (l : TokensLine) → may_answer c (Tokens l) ≡ false

no-calls : (c : Command) → is_of_network c ≡ true → HasNoCalls c
no-calls (Begin h port sends recvs) e = absurd (true≢false (sym e))
no-calls (Close h port) e = absurd (true≢false (sym e))
no-calls (Poll h port) e = absurd (true≢false (sym e))
no-calls (TokensCommand h port) e = absurd (true≢false (sym e))
no-calls (Provide h port size prio) e = absurd (true≢false (sym e))
no-calls (Send h port dest dport prio len seed) e = absurd (true≢false (sym e))
no-calls (Duo event) e = absurd (true≢false (sym e))
no-calls c e = record { opened = λ a. refl; closed = λ a count. refl; provided = λ a token. refl; accepted = λ a token. refl; returned = λ a token. refl; received = λ l. refl; nothing = λ a. refl; refused = λ kind a. refl; tokens = λ l. refl }

never : (b : Bool) → b ≡ true → b ≡ false → ⊥
never b e f = true≢false (sym e ∙ f)

none-says : (c : Command) (x r : ReportLine) → ◌≡◌ {A = Option ReportLine} (Some x) (Some r) → may_answer c x ≡ false → may_answer c r ≡ true → ⊥
none-says c x r e none may = let same : x ≡ r = cc in never (may_answer c r) may (ap (may_answer c) (sym same) ∙ none)

none-refused : (c : Command) (call : ClientCall) (a : PortName) (r : ReportLine) (t : Bool) → HasNoCalls c → (if t then Some (CallRefused call a) else None) ≡ Some r → may_answer c r ≡ true → ⊥
none-refused c call a r true none e may = none-says c (CallRefused call a) r e (none.refused call a) may
none-refused c call a r false none e may = cc

-- what a call says of its port
none-called : (c : Command) → HasNoCalls c → (a : PortName) (r : ReportLine) (said : Said) (call : ClientCall) → called (said_kind said) call a (said_values said) ≡ Some r → may_answer c r ≡ true → ⊥
none-called c none a r Done call e may = none-says c (Opened a) r e (none.opened a) may
none-called c none a r (Count count) call e may = none-says c (Closed a count) r e (none.closed a count) may
none-called c none a r (Token t) ProvideCall e may = none-says c (Provided a t) r e (none.provided a t) may
none-called c none a r (Token t) SendCall e may = none-says c (Accepted a t) r e (none.accepted a t) may
none-called c none a r (Token t) _ e may = cc
none-called c none a r (Sent t) call e may = none-says c (Returned a t) r e (none.returned a t) may
none-called c none a r (SaidReceived t from sport prio body) call e may = none-says c (message_of a t from sport prio (length body) body) r e (none.received _) may
none-called c none a r Nothing call e may = none-says c (NothingCame a) r e (none.nothing a) may
none-called c none a r (Refused (Busy count)) call e may = none-says c (CallRefused call a) r e (none.refused call a) may
none-called c none a r (Refused (Unread count)) call e may = none-says c (CallRefused call a) r e (none.refused call a) may
none-called c none a r (Refused (Filling count)) call e may = none-says c (CallRefused call a) r e (none.refused call a) may
none-called c none a r (Refused cause) call e may = none-refused c call a r (is_among (causes_of call) (client_cause cause)) none e may

-- the values of a call's line mean what the call says
call-named : (call : ClientCall) → call_named (call_word call) ≡ Some call
call-named BeginCall = refl
call-named _ = refl

call-means : (call : ClientCall) (h port : ℕ) (said : Said)
    → meaning (said_kind said) (line_values (Client call h port said)) ≡ called (said_kind said) call (record { host = h; port = port }) (said_values said)
call-means call h port Done = ap (λ o. where_known CallDone o (record { host = h; port = port }) []) (call-named call)
call-means call h port (Refused (Busy count)) = ap (λ o. where_known CallUnfinished o (record { host = h; port = port }) (said_values (Refused (Busy count)))) (call-named call)
call-means call h port said = ap (λ o. where_known (said_kind said) o (record { host = h; port = port }) (said_values said)) (call-named call)

-- a line that may answer such a command
says-quiet : (n : Network) (c : Command) (l : Line) (r : ReportLine) → HasNoCalls c → Says n l r → may_answer c r ≡ true → IsQuietLine l
says-quiet n c l r none (by_row (Client call h port said) q fits apart means) may =
    absurd (none-called c none (record { host = h; port = port }) r said call (sym (call-means call h port said) ∙ means) may)
says-quiet n c l r none _ may = record { received = λ i p. refl; answers = refl }

-- and the pieces of its answer
pub answer-quiet : (n : Network) (k : Known) (out : List Piece) (c : Command) (a : Answer) → is_of_network c ≡ true → IsPrintedAnswer n k out c a → IsQuiet out
answer-quiet n k out c a kind (alone d l r says may only e) = subst IsQuiet (sym e) (quiet-then l [] (says-quiet n d l r (no-calls d kind) says may) quiet-none)
answer-quiet n k out c a kind (with_map d l r m says may has shows back e) = subst IsQuiet (sym e) (quiet-then l (MapLines m ∷ []) (says-quiet n d l r (no-calls d kind) says may) (quiet-map m [] quiet-none))
answer-quiet n k out c a kind (with_routes m found ranks shown counted all rising each growing e) =
    let routes = quiet-mapped route_line found (λ r. record { received = λ i p. refl; answers = refl }) in
    let others = quiet-mapped (rank_line m) ranks (λ r. record { received = λ i p. refl; answers = refl }) in
    let last : AllByRecursion IsQuietLine (EndRoutes ∷ []) = (record { received = λ i p. refl; answers = refl }, tt) in
    let all_of : AllByRecursion IsQuietLine (Routes (length found) ∷ map route_line found ++ map (rank_line m) ranks ++ EndRoutes ∷ []) =
    (record { received = λ i p. refl; answers = refl }, all-join IsQuietLine (map route_line found ++ map (rank_line m) ranks) (EndRoutes ∷ []) (all-join IsQuietLine (map route_line found) (map (rank_line m) ranks) routes others) last) in
    subst IsQuiet (sym e) (quiet-lines (Routes (length found) ∷ map route_line found ++ map (rank_line m) ranks ++ EndRoutes ∷ []) all_of)
answer-quiet n k out c a kind (with_tables tries acked active hosts routed enough counted all e) =
    subst IsQuiet (sym e) (quiet-lines (Installed acked (length hosts) ∷ map (λ h. Table h (active h)) hosts) (record { received = λ i p. refl; answers = refl }, quiet-mapped (λ h. Table h (active h)) hosts (λ h. record { received = λ i p. refl; answers = refl })))
answer-quiet n k out c a kind (with_broken pairs adopted rising e) =
    subst IsQuiet (sym e) (quiet-lines (map (λ p. Broken p.0 p.1) pairs ++ EndBroken ∷ [])
    (all-join IsQuietLine (map (λ p. Broken p.0 p.1) pairs) (EndBroken ∷ []) (quiet-mapped (λ p. Broken p.0 p.1) pairs (λ p. record { received = λ i q. refl; answers = refl })) (record { received = λ i p. refl; answers = refl }, tt)))

-- where lines show nothing, nothing is told of messages
no-accepted : (c : ConnectionKey) (cs : List Command) → accepted_by_lines c cs [] ≡ []
no-accepted c [] = refl
no-accepted c (x ∷ xs) = refl

pub quiet-messages : (cmd : Command) (out : List Piece) (told : List Told) → told ≡ [] → IsQuiet out → IsMessageTold cmd out told
quiet-messages cmd out told none quiet = subst (IsMessageTold cmd out) (sym none) (record {
  received = λ k. ap (λ xs. map (on k) (filter (is_on k.from k.prio) xs)) (sym (quiet.received k.to k.port));
  sent = λ k low. sym (ap (λ ss. filter (of_lane k) (accepted_by_lines (connection k) (filter is_send (cmd ∷ [])) ss)) quiet.answers ∙ ap (filter (of_lane k)) (no-accepted (connection k) (filter is_send (cmd ∷ []))));
})
