-- Whatever a run without the two hosts that restart prints is judged yes.
use Rattle.std.proofs.Common.{◌≡◌, ◌++◌, ℕ, true, List, [], ◌∷◌, length, replicate, get_or, Option, Some, None, option_map, refl, sym, ap, ◌∙◌, subst, true≢false, if◌then◌else◌}
use Rattle.std.specs.List.{AllByRecursion}
use Rattle.net_defs.specs.Network.{Network, IsFabric}
use Rattle.world_defs.proofs.First.{first_stands}
use Rattle.gm_defs.specs.Token.{PortState}
use Rattle.journal_defs.proofs.Members.{all-join}
use Rattle.fabric_file.specs.Reading.{AreNamed}
use Rattle.fab_script.specs.Ranges.{IsCommandOf}
use Rattle.world_defs.specs.declared.event.Event.TheVariants.{Begin as BeginEvent, Close as CloseEvent, Provide as ProvideEvent, Send as SendEvent, Poll as PollEvent}
use Rattle.world_defs.specs.Client.{Called, begun, closed, provided_by, sent_by, polled_by}
use Rattle.world_defs.specs.Node.{new_node, port_at, port_count}
use Rattle.world_defs.specs.declared.effect.Effect.{Effect}
use Rattle.world_defs.specs.World.{WorldState, new_world, node_at, client_at}
use Rattle.world_defs.specs.Step.{wanted, step}
use Rattle.world_defs.proofs.Lists.{each-replicate}
use Rattle.run_defs.specs.declared.command.Command.{Command}
use Rattle.run_defs.specs.declared.command.Command.TheVariants.{Begin, Close, Poll, Tokens, Provide, Send, Duo}
use Rattle.run_defs.specs.declared.line.Line.TheVariants.{MapBusy}
use Rattle.run_defs.specs.declared.line.ClientCall.{ClientCall}
use Rattle.run_defs.specs.declared.line.ClientCall.TheVariants.{Begin as BeginCall, Close as CloseCall, Provide as ProvideCall, Send as SendCall, Poll as PollCall}
use Rattle.run_defs.specs.LineText.{output_text}
use Rattle.run_defs.specs.Deed.{says}
use Rattle.run_defs.specs.Outcome.{Outcome, client_lines, token_lines, routes_refused, seen, outcome}
use Rattle.run_defs.specs.Output.{Piece, lines}
use Rattle.run_defs.specs.Session.{SessionState, new_session}
use Rattle.run_defs.specs.Run.{Does, Runs, IsRun}
use Rattle.run_defs.proofs.Doing.{Doing, doing, does}
use Rattle.run_defs.proofs.Doing.Doing.{determined, maps, circuits, routes}
use Rattle.run_defs.specs.Run.Runs.{ended as run_ended, goes_on as run_goes_on}
use Rattle.run_laws.proofs.RunsOnce.{runs-more, text_of_both}
use Rattle.answer_defs.specs.Answer.{Answered, answered}
use Rattle.judge_defs.specs.Form.{known_by}
use Rattle.judge_defs.specs.Verdict.{AreJudgedYes}
use Rattle.judge_defs.specs.Verdict.AreJudgedYes.{ended, goes_on}
use Rattle.judge_laws.specs.Answers.{lines_at}
use Rattle.judge_laws.specs.Commands.{PlansNoPull, is_judged}
use Rattle.judge_laws.specs.Reports.{ReportsAreJudgedYes}
use Rattle.judge_laws.proofs.Answering.{answer-first}
use Rattle.judge_laws.proofs.Calling.{call-next, tokens-next}
use Rattle.judge_laws.proofs.Calls.{begun-is, closed-is, provided-is, sent-is, polled-is}
use Rattle.judge_laws.proofs.Counts.{counts}
use Rattle.judge_laws.proofs.Messages.{none-messages}
use Rattle.judge_laws.proofs.Ports.{open_by}
use Rattle.judge_laws.proofs.Tracked.{IsFollowed, IsNext, network-next}

-- a client's call, by its effect and the world then
abbrev called : SessionState → ClientCall → ℕ → ℕ → Effect × WorldState → Outcome
called s call h port r = record { output = lines (client_lines call h port r.0); after = record s { world = r.1 } }

-- what a command does where it is determined
as-so : {s next : SessionState} {c : Command} {out : List Piece} → Doing s c out next → (o : Outcome) → outcome s c ≡ Some o → (out ≡ o.output) × (next ≡ o.after)
as-so {next = next} {out = out} (determined e) o g =
    let one : ◌≡◌ {A = Option Outcome} (Some (record { output = out; after = next })) (Some o) = sym e ∙ g in
    let same : ◌≡◌ {A = Outcome} (record { output = out; after = next }) o = cc in
    (ap (λ (x : Outcome). x.output) same, ap (λ (x : Outcome). x.after) same)
as-so {s = s} (maps {host = host} after j m words idle made is left) o g =
    let one : ◌≡◌ {A = Option Outcome} None (Some o) = sym (ap (λ b. option_map (seen s) (if b then None else Some (says (MapBusy host ∷ [])))) idle) ∙ g in cc
as-so (circuits is left) o g = cc
as-so {s = s} (routes l found complete are is left) o g = let one : ◌≡◌ {A = Option Outcome} None (Some o) = ap (λ x. option_map (seen s) (routes_refused x)) (sym complete) ∙ g in cc

as-next : (n : Network) (front : List Command) (done : List Piece) (before : List Answered) (c : Command) (out : List Piece) (next : SessionState) (o : Outcome) → (out ≡ o.output) × (next ≡ o.after) → IsNext n front done before c o.output o.after → IsNext n front done before c out next
as-next n front done before c out next o e x = subst (λ y. IsNext n front done before c y next) (sym e.0) (subst (IsNext n front done before c o.output) (sym e.1) x)

module _ (n : Network) (front : List Command) (done : List Piece) (before : List Answered) (s next : SessionState) (out : List Piece) (f : IsFabric n) (good : AreNamed n) (all : AllByRecursion (IsCommandOf n) front) (run : IsRun n front done s) (k : IsFollowed n front done before s) where
  command-next : (c : Command) → IsCommandOf n c → Does s c out next → is_judged c ≡ true → PlansNoPull c → IsNext n front done before c out next
  command-next (Begin h port sends recvs) of_n d kind safe =
      let o = called s BeginCall h port (step s.world (BeginEvent h port sends recvs)) in
      let call : Called = begun (node_at s.world h) port sends recvs (client_at s.world h port) in
      as-next n front done before (Begin h port sends recvs) out next o (as-so (doing d) o refl)
      (call-next n front done before s f all run k h port of_n.0 of_n.1.1 (Begin h port sends recvs) BeginCall call of_n refl (begun-is (node_at s.world h) (client_at s.world h port) h port sends recvs) (does (determined refl)))
  command-next (Close h port) of_n d kind safe =
      let o = called s CloseCall h port (step s.world (CloseEvent h port)) in
      let call : Called = closed (node_at s.world h) port (client_at s.world h port) in
      as-next n front done before (Close h port) out next o (as-so (doing d) o refl)
      (call-next n front done before s f all run k h port of_n.0 of_n.1.1 (Close h port) CloseCall call of_n refl (closed-is (node_at s.world h) (client_at s.world h port) h port) (does (determined refl)))
  command-next (Poll h port) of_n d kind safe =
      let o = called s PollCall h port (step s.world (PollEvent h port)) in
      let call : Called = polled_by (node_at s.world h) port (client_at s.world h port) in
      as-next n front done before (Poll h port) out next o (as-so (doing d) o refl)
      (call-next n front done before s f all run k h port of_n.0 of_n.1.1 (Poll h port) PollCall call of_n refl (polled-is (node_at s.world h) h port (client_at s.world h port)) (does (determined refl)))
  command-next (Tokens h port) of_n d kind safe =
      let o = seen s (says (token_lines h port (port_at (node_at s.world h) port))) in
      as-next n front done before (Tokens h port) out next o (as-so (doing d) o refl) (tokens-next n front done before s f all run k h port of_n.0 of_n.1.1 of_n (does (determined refl)))
  command-next (Provide h port size prio) of_n d kind safe =
      let o = called s ProvideCall h port (step s.world (ProvideEvent h port size prio)) in
      let call : Called = provided_by (node_at s.world h) port size prio (client_at s.world h port) in
      as-next n front done before (Provide h port size prio) out next o (as-so (doing d) o refl)
      (call-next n front done before s f all run k h port of_n.0 of_n.1.1 (Provide h port size prio) ProvideCall call of_n refl (provided-is (node_at s.world h) h port (client_at s.world h port) size prio) (does (determined refl)))
  command-next (Send h port dest dport prio len seed) of_n d kind safe =
      let o = called s SendCall h port (step s.world (SendEvent h port dest dport prio len seed)) in
      let call : Called = sent_by (node_at s.world h) (wanted port dest dport prio len seed) (client_at s.world h port) in
      as-next n front done before (Send h port dest dport prio len seed) out next o (as-so (doing d) o refl)
      (call-next n front done before s f all run k h port of_n.0 of_n.2.1 (Send h port dest dport prio len seed) SendCall call of_n refl (sent-is (node_at s.world h) h port (client_at s.world h port) dest dport prio len seed) (does (determined refl)))
  command-next (Duo event) of_n d kind safe = absurd (true≢false (sym kind))
  command-next c of_n d kind safe = network-next n front done before s next c out f good all of_n run k d refl safe

module _ (n : Network) (past : ℕ) (f : IsFabric n) (good : AreNamed n) where
  judged : {s last : SessionState} {cs : List Command} {out : List Piece} (front : List Command) (done : List Piece) (before : List Answered) (number : ℕ) → AllByRecursion (IsCommandOf n) front → AllByRecursion (IsCommandOf n) cs → AllByRecursion (λ c. is_judged c ≡ true) cs → AllByRecursion PlansNoPull cs
      → IsRun n front done s → IsFollowed n front done before s → Runs s cs out last → AreJudgedYes n past before cs (lines_at number (output_text n out))
  judged front done before number all of kinds safe run k run_ended = ended
  judged {s = s} front done before number all of kinds safe run k (run_goes_on {next = next} {c = c} {cs = cs} {out = out} {rest = rest} d r e) =
      let x = command-next n front done before s next out f good all run k c of.0 d kinds.0 safe.0 in
      let first = answer-first n f good (known_by n before) past c out x.a number (output_text n rest) x.printed in
      let others = judged (front ++ c ∷ []) (done ++ out) (answered c x.a ∷ before) first.next (all-join (IsCommandOf n) front (c ∷ []) all (of.0, tt)) of.1 kinds.1 safe.1 (runs-more c out run d) x.followed r in
      let text = ap (output_text n) e ∙ text_of_both n out rest in
      subst (λ t. AreJudgedYes n past before (c ∷ cs) (lines_at number t)) (sym text) (goes_on x.a (lines_at first.next (output_text n rest)) first.read x.right others)

-- no port is open before the first command
no-port : (n : Network) (h port : ℕ) → port_at (node_at (new_world n) h) port ≡ None
no-port n h port =
    let none : get_or (replicate {A = Option PortState} port_count None) port None ≡ None = each-replicate (λ o. o ≡ None) port_count port None None refl refl in
    let hosts = length n.hosts in
    each-replicate (λ m. port_at m port ≡ None) hosts h (new_node hosts) (new_node 0) none none

-- nothing is known before the first command
first-followed : (n : Network) → IsFollowed n [] [] [] (new_session n)
first-followed n = record {
  known = record { complete = refl; shown = refl; routed = refl; adopted = refl };
  fabric = sym (first_stands n 0).0;
  ports = record { each = λ a. sym (ap (λ o. open_by (counts o) (client_at (new_world n) a.host a.port)) (no-port n a.host a.port)) };
  few = tt;
  messages = none-messages;
  unpulled = tt;
}

pub reports_are_judged_yes : ReportsAreJudgedYes
reports_are_judged_yes n commands out last past number f good all kinds safe r =
    judged n past f good [] [] [] number tt all kinds safe run_ended (first-followed n) r
