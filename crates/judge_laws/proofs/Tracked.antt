-- What the answers so far tell of a session: what is known, the fabric, the ports and the messages.
use Rattle.std.proofs.Common.{◌≡◌, ◌≤◌, ℕ, Bool, true, false, List, [], ◌∷◌, ◌++◌, Option, Some, None, IfSome, sym, ap, ◌∙◌, subst, if◌then◌else◌}
use Rattle.std.specs.List.{AllByRecursion}
use Rattle.net_defs.specs.Network.{Network, IsFabric}
use Rattle.net_defs.proofs.Distinct.{all-weaker}
use Rattle.journal_defs.proofs.Members.{all-join}
use Rattle.fabric_file.specs.Reading.{AreNamed}
use Rattle.fab_script.specs.Ranges.{IsCommandOf}
use Rattle.world_defs.specs.World.{fabric_of}
use Rattle.port_ledgers.specs.declared.lane.Lane.{Lane}
use Rattle.port_ledgers.specs.declared.lane.PortName.{PortName}
use Rattle.port_ledgers.specs.declared.lane.SentMessage.{SentMessage}
use Rattle.port_ledgers.specs.Told.{Told, Opened as ToldOpened, Closed as ToldClosed, Provided as ToldProvided, Accepted as ToldAccepted, Returned as ToldReturned, Received as ToldReceived}
use Rattle.port_ledgers.specs.Held.{OpenPort, is_port, port_of, port_from, port_told, AreTokensRight}
use Rattle.run_defs.specs.declared.command.Command.{Command}
use Rattle.run_defs.specs.declared.command.Command.TheVariants.{Begin}
use Rattle.run_defs.specs.Output.{Piece}
use Rattle.run_defs.specs.Session.{SessionState}
use Rattle.run_defs.specs.Run.{Does, IsRun}
use Rattle.run_laws.specs.Acts.{IsActOf}
use Rattle.run_laws.proofs.RunsOnce.{runs-more}
use Rattle.report_lines.specs.declared.line.ReportLine.{ReportLine}
use Rattle.report_lines.specs.declared.line.ReportLine.TheVariants.{Opened, Closed, Provided, Accepted, Returned, Received}
use Rattle.promise_laws.specs.ReceivedLines.{AreReceivedAsSent}
use Rattle.promise_laws.proofs.ReceivedLines.{runs-receive_as_sent}
use Rattle.promise_laws.proofs.Said.{said-act}
use Rattle.answer_defs.specs.Answer.{Answer, Answered, answered, fabric_by, fabric_after, told, told_in, told_by, opened_told, accepted_told, tokens_of, message_of}
use Rattle.answer_defs.specs.Right.{MapIsTrue, IsRight}
use Rattle.judge_defs.specs.Form.{known_by}
use Rattle.judge_laws.specs.Answers.{IsPrintedAnswer}
use Rattle.judge_laws.specs.Commands.{IsToldOf, HasNoPull, PlansNoPull, is_of_network}
use Rattle.judge_laws.proofs.Commanded.{commands_are_answered}
use Rattle.judge_laws.proofs.Keeping.{does-kept}
use Rattle.judge_laws.proofs.Messages.{AreMessagesTold, next-messages, in-order}
use Rattle.judge_laws.proofs.Ports.{IsToldPorts, kept-port, same-told}
use Rattle.judge_laws.proofs.Quiet.{answer-quiet, quiet-messages}

-- a port is opened with at most 64 tokens of each kind
abbrev pub IsFewTold : Told → Type 0
IsFewTold (ToldOpened a sends recvs) = (sends ≤ 64) × (recvs ≤ 64)
IsFewTold t = Unit {0}

abbrev pub IsFewPort : OpenPort → Type 0
IsFewPort p = (p.sends ≤ 64) × (p.recvs ≤ 64)

from-few : (t : Told) (o : Option OpenPort) → IsFewTold t → IfSome o IsFewPort → IfSome (port_from t o) IsFewPort
from-few (ToldOpened a sends recvs) o few all = few
from-few (ToldClosed a count) None few all = tt
from-few (ToldProvided a token) None few all = tt
from-few (ToldAccepted l m token) None few all = tt
from-few (ToldReturned a token) None few all = tt
from-few (ToldReceived l sport body token) None few all = tt
from-few (ToldClosed a count) (Some p) few all = tt
from-few (ToldProvided a token) (Some p) few all = all
from-few (ToldAccepted l m token) (Some p) few all = all
from-few (ToldReturned a token) (Some p) few all = all
from-few (ToldReceived l sport body token) (Some p) few all = all

pub port-few : (a : PortName) (past : List Told) → AllByRecursion IsFewTold past → IfSome (port_told a past) IsFewPort
port-few a [] all = tt
port-few a (t ∷ past) all = by (is_port (port_of t) a) (port-few a past all.1)
  where
    by : (b : Bool) → IfSome (port_told a past) IsFewPort → IfSome (if b then port_from t (port_told a past) else port_told a past) IsFewPort
    by true rest = from-few t (port_told a past) all.0 rest
    by false rest = rest

opened-few : (n : Network) (cmd : Command) (a : PortName) → IsCommandOf n cmd → AllByRecursion IsFewTold (opened_told a (tokens_of cmd))
opened-few n (Begin h port sends recvs) a of_n = ((of_n.2.1, of_n.3.1), tt)
opened-few n cmd a of_n = tt

accepted-few : (o : Option (Lane × SentMessage)) (token : ℕ) → AllByRecursion IsFewTold (accepted_told o token)
accepted-few None token = tt
accepted-few (Some m) token = (tt, tt)

pub told-few : (n : Network) (cmd : Command) (r : ReportLine) → IsCommandOf n cmd → AllByRecursion IsFewTold (told_by cmd r)
told-few n cmd (Opened a) of_n = opened-few n cmd a of_n
told-few n cmd (Accepted a token) of_n = accepted-few (message_of cmd a) token
told-few n cmd (Closed a count) of_n = (tt, tt)
told-few n cmd (Provided a token) of_n = (tt, tt)
told-few n cmd (Returned a token) of_n = (tt, tt)
told-few n cmd (Received l) of_n = (tt, tt)
told-few n cmd r of_n = tt

-- By the answers so far the fabric, the ports and the messages are those of a session of a run.
pub record IsFollowed (n : Network) (front : List Command) (done : List Piece) (before : List Answered) (s : SessionState) : Type 0 where
  pub known : IsToldOf n before s
  pub fabric : fabric_after n before ≡ fabric_of s.world
  pub ports : IsToldPorts s.world (told before)
  pub few : AllByRecursion IsFewTold (told before)
  pub messages : AreMessagesTold front done (told before)
  pub unpulled : HasNoPull s.world

-- The answer of the next command, which is right, and what is followed by it.
pub record IsNext (n : Network) (front : List Command) (done : List Piece) (before : List Answered) (c : Command) (out : List Piece) (next : SessionState) : Type 0 where
  pub a : Answer
  pub printed : IsPrintedAnswer n (known_by n before) out c a
  pub right : IsRight n before (answered c a)
  pub followed : IsFollowed n (front ++ c ∷ []) (done ++ out) (answered c a ∷ before) next

-- what the lines of a run show of messages
pub run-received : (n : Network) (commands : List Command) (out : List Piece) (s : SessionState) → IsFabric n → AllByRecursion (IsCommandOf n) commands → IsRun n commands out s → AreReceivedAsSent n commands out s.world
run-received n commands out s f all run = runs-receive_as_sent n commands out s f (all-weaker (IsCommandOf n) (IsActOf n) commands (said-act n) all) run

-- a command of the network
pub network-next : (n : Network) (front : List Command) (done : List Piece) (before : List Answered) (s next : SessionState) (c : Command) (out : List Piece) → IsFabric n → AreNamed n → AllByRecursion (IsCommandOf n) front → IsCommandOf n c → IsRun n front done s
    → IsFollowed n front done before s → Does s c out next → is_of_network c ≡ true → PlansNoPull c → IsNext n front done before c out next
network-next n front done before s next c out f good all of_n run k d kind safe =
    let x = commands_are_answered n front done out before s next c f good all of_n run k.known d kind in
    let one = quiet-messages c out (told_in c x.a) x.nothing.told (answer-quiet n (known_by n before) out c x.a kind x.printed) in
    let messages = next-messages front done (told before) c out (told_in c x.a) (run-received n front done s f all run).answered k.messages one in
    let whole = all-join (IsCommandOf n) front (c ∷ []) all (of_n, tt) in
    let same : told before ≡ told (answered c x.a ∷ before) = λ i. sym x.nothing.told i ++ told before in
    record {
      a = x.a;
      printed = x.printed;
      right = record {
        maps = subst (λ m. MapIsTrue m x.a) (sym k.fabric) x.maps;
        routes = x.routes;
        messages = record { in_order = in-order n (front ++ c ∷ []) (done ++ out) next.world (told_in c x.a ++ told before) whole (run-received n (front ++ c ∷ []) (done ++ out) next f whole (runs-more c out run d)) messages; lengths = x.nothing.lengths };
        tokens = record { calls = subst (AllByRecursion (AreTokensRight (told before))) (sym x.nothing.told) tt; places = x.nothing.places (told before) };
      };
      followed = record {
        known = x.told;
        fabric = ap (fabric_by x.a) k.fabric ∙ x.fabric k.unpulled safe;
        ports = subst (IsToldPorts next.world) same (same-told s.world next.world (told before) k.ports (kept-port s.world next.world (does-kept d kind)));
        few = subst (AllByRecursion IsFewTold) same k.few;
        messages = messages;
        unpulled = x.unpulled k.unpulled safe;
      };
    }
