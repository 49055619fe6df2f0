-- The answers of client calls are right, and what they tell of ports and messages is what these are.
use Rattle.std.proofs.Common.{◌≡◌, ◌<◌, ◌≤◌, ◌&&◌, ℕ, zero, suc, Bool, true, false, List, [], ◌∷◌, ◌++◌, map, length, get_or, set, Option, Some, None, IfSome, refl, sym, ap, ◌∙◌, subst, arith, if◌then◌else◌}
use Rattle.std.specs.List.{AllByRecursion}
use Rattle.std.proofs.lemmas.Bool.Decides.{nat_tests}
use Rattle.net_defs.specs.declared.vertex.Vertex.TheVariants.{Host}
use Rattle.net_defs.specs.Network.{Network, IsFabric, has_vertex}
use Rattle.net_defs.proofs.Distinct.{all-weaker}
use Rattle.journal_defs.proofs.Members.{all-join}
use Rattle.fab_script.specs.Ranges.{IsHost, IsCommandOf}
use Rattle.gm_defs.specs.Token.{PortState, place_of_send, place_of_recv}
use Rattle.world_defs.specs.declared.client.ClientCause.TheVariants.{NotOpen}
use Rattle.world_defs.specs.declared.effect.Said.{Said}
use Rattle.world_defs.specs.declared.effect.Said.TheVariants.{Received as SaidReceived, Refused}
use Rattle.world_defs.specs.Node.{NodeState, port_at}
use Rattle.world_defs.specs.Client.{ClientState, Called}
use Rattle.world_defs.specs.Sound.{AreOwned, HasOwners}
use Rattle.world_defs.specs.World.{WorldState, fabric_of, node_at, client_at, with_node, with_client}
use Rattle.world_defs.specs.Acts.{IsReached}
use Rattle.owner_laws.proofs.Owners.{always-owned}
use Rattle.port_ledgers.specs.declared.lane.PortName.{PortName}
use Rattle.port_ledgers.specs.Told.{Told}
use Rattle.port_ledgers.specs.Held.{is_port, port_told, MayBeSaidOf, AreTokensRight, AreAllPlaced}
use Rattle.mapping_laws.specs.Runs.{IsSessionOf}
use Rattle.mapping_laws.proofs.Sessions.{run_keeps_world}
use Rattle.run_defs.specs.declared.command.Command.{Command}
use Rattle.run_defs.specs.declared.command.Command.TheVariants.{Poll as PollCommand, Tokens as TokensCommand}
use Rattle.run_defs.specs.declared.line.ClientCall.{ClientCall}
use Rattle.run_defs.specs.declared.line.ClientCall.TheVariants.{Poll, Tokens as TokensCall}
use Rattle.run_defs.specs.declared.line.Line.{Line}
use Rattle.run_defs.specs.declared.line.Line.TheVariants.{Client, Tokens as TokensLine}
use Rattle.run_defs.specs.Headline.{FitsFabric}
use Rattle.run_defs.specs.Outcome.{places, token_lines}
use Rattle.run_defs.specs.Output.{Piece, OneLine, lines}
use Rattle.run_defs.specs.Run.{Does, IsRun}
use Rattle.run_defs.specs.Session.{SessionState}
use Rattle.run_laws.specs.Acts.{IsActOf}
use Rattle.run_laws.proofs.Reaching.{run_is_reached}
use Rattle.run_laws.proofs.RunsOnce.{runs-more}
use Rattle.report_lines.specs.declared.line.ReportLine.{ReportLine}
use Rattle.report_lines.specs.declared.line.ReportLine.TheVariants.{CallRefused, Tokens as TokensRead}
use Rattle.client_laws.specs.Handed.{Handed}
use Rattle.promise_laws.specs.ReceivedLines.{received_in}
use Rattle.promise_laws.proofs.Said.{said-act, said-command}
use Rattle.answer_defs.specs.Answer.{Alone, Answered, complete_by, complete_map, shown_by, shown_map, fabric_by, fabric_after, told, told_by}
use Rattle.map_defs.specs.NetMap.{NetMap}
use Rattle.answer_defs.specs.Right.{MapIsTrue, GivesLength, PlacesAreTrue}
use Rattle.judge_defs.specs.Form.{call_of, known_by}
use Rattle.judge_laws.specs.Answers.{alone}
use Rattle.judge_laws.proofs.CallLines.{IsTold, call-line}
use Rattle.judge_laws.proofs.CallMessages.{one_line, refused-messages}
use Rattle.judge_laws.proofs.Calls.{IsCall}
use Rattle.judge_laws.proofs.Counts.{counts}
use Rattle.judge_laws.proofs.Messages.{same-number, IsShown, IsMessageTold, received-join, next-messages, in-order, last-shown}
use Rattle.judge_laws.proofs.Placing.{numbered, sends-placed, recvs-placed}
use Rattle.judge_laws.proofs.Ports.{open_by, port_in, called-port, same-port, IsToldPorts, next-told, same-told}
use Rattle.judge_laws.proofs.Quiet.{quiet-messages}
use Rattle.judge_laws.proofs.Tracked.{IsFewTold, IsFewPort, port-few, told-few, IsFollowed, IsNext, run-received}
use Rattle.judge_laws.proofs.CallSaying.{CallSays, call_line, tokens_not_open, opened as says_opened, closed as says_closed, provided as says_provided, accepted as says_accepted, returned as says_returned, received as says_received, nothing_came as says_nothing, refused as says_refused}
use Rattle.judge_laws.proofs.Saying.{tokens_line, told_place}

-- what the line of a call leaves of what is known
record IsPlainLine (r : ReportLine) : Type 0 where
  pub complete : (o : Option NetMap) → complete_by (Alone r) o ≡ o
  pub shown : (o : Option NetMap) → shown_by (Alone r) o ≡ o
  pub fabric : (m : Network) → fabric_by (Alone r) m ≡ m
  pub maps : (m : Network) → MapIsTrue m (Alone r)
  pub lengths : GivesLength (Alone r)
  pub places : (past : List Told) → PlacesAreTrue past (Alone r)

call-plain : {n : Network} {a : PortName} {kind : ClientCall} {said : Said} {r : ReportLine} → CallSays n a kind said r → IsPlainLine r
call-plain says_opened = record { complete = λ o. refl; shown = λ o. refl; fabric = λ m. refl; maps = λ m. tt; lengths = tt; places = λ past. tt }
call-plain (says_closed count fits) = record { complete = λ o. refl; shown = λ o. refl; fabric = λ m. refl; maps = λ m. tt; lengths = tt; places = λ past. tt }
call-plain (says_provided token fits) = record { complete = λ o. refl; shown = λ o. refl; fabric = λ m. refl; maps = λ m. tt; lengths = tt; places = λ past. tt }
call-plain (says_accepted token fits) = record { complete = λ o. refl; shown = λ o. refl; fabric = λ m. refl; maps = λ m. tt; lengths = tt; places = λ past. tt }
call-plain (says_returned token fits) = record { complete = λ o. refl; shown = λ o. refl; fabric = λ m. refl; maps = λ m. tt; lengths = tt; places = λ past. tt }
call-plain (says_received token from sport prio body fits there low few long bytes) = record { complete = λ o. refl; shown = λ o. refl; fabric = λ m. refl; maps = λ m. tt; lengths = refl; places = λ past. tt }
call-plain says_nothing = record { complete = λ o. refl; shown = λ o. refl; fabric = λ m. refl; maps = λ m. tt; lengths = tt; places = λ past. tt }
call-plain (says_refused call cause why) = record { complete = λ o. refl; shown = λ o. refl; fabric = λ m. refl; maps = λ m. tt; lengths = tt; places = λ past. tt }

-- setting what is there
set-same : {X : Type 0} (xs : List X) (i : ℕ) (d : X) → xs ≡ set xs i (get_or xs i d)
set-same [] i d = refl
set-same (x ∷ xs) zero d = refl
set-same (x ∷ xs) (suc i) d = ap (λ l. x ∷ l) (set-same xs i d)

host-below : (n : Network) (h : ℕ) → has_vertex n (Host h) ≡ true → h < length n.hosts
host-below n h there = grind (arith, nat_tests)

-- the kind of a poll's line
poll-kind : (cmd : Command) (kind : ClientCall) (h port : ℕ) → cmd ≡ PollCommand h port → call_of cmd ≡ Some (kind, record { host = h; port = port }) → kind ≡ Poll
poll-kind cmd kind h port e f = kind-of (subst (λ c. call_of c ≡ Some (kind, record { host = h; port = port })) e f)
  where
    kind-of : ◌≡◌ {A = Option (ClientCall × PortName)} (Some (Poll, record { host = h; port = port })) (Some (kind, record { host = h; port = port })) → kind ≡ Poll
    kind-of g =
        let same : ◌≡◌ {A = ClientCall × PortName} (Poll, record { host = h; port = port }) (kind, record { host = h; port = port }) = cc in
        sym (ap (λ (q : ClientCall × PortName). q.0) same)

pair-kind : (o : Option (ClientCall × PortName)) (x y : ClientCall) (a b : PortName) → o ≡ Some (x, a) → o ≡ Some (y, b) → x ≡ y
pair-kind o x y a b e f =
    let same : ◌≡◌ {A = ClientCall × PortName} (x, a) (y, b) = cc in
    ap (λ (q : ClientCall × PortName). q.0) same

-- after a run, over a host's port
module _ (n : Network) (front : List Command) (done : List Piece) (before : List Answered) (s : SessionState) (f : IsFabric n) (all : AllByRecursion (IsCommandOf n) front) (run : IsRun n front done s) (k : IsFollowed n front done before s) (h port : ℕ) (there : IsHost n h) (few : port ≤ 7) where
  abbrev w : WorldState
  w = s.world

  abbrev m : NodeState
  m = node_at s.world h

  abbrev c : Option ClientState
  c = client_at s.world h port

  abbrev at : PortName
  at = record { host = h; port = port }

  session : IsSessionOf n s
  session = run_keeps_world n front done s f (all-weaker (IsCommandOf n) (FitsFabric n) front (said-command n) all) run

  reached : IsReached n s.world
  reached = run_is_reached n front done s f (all-weaker (IsCommandOf n) (IsActOf n) front (said-act n) all) run

  owned : AreOwned (port_at m port) c
  owned = subst (λ (v : WorldState). AreOwned (port_at (node_at v h) port) (client_at v h port)) (sym reached.leads) (always-owned n reached.acts h port)

  host-there : h < length s.world.nodes
  host-there =
      let low = host-below n h there in
      let nodes = session.world.hosts in
      let hosts : length (fabric_of s.world).hosts ≡ length n.hosts = ap (λ (x : Network). length x.hosts) session.first in
      omega (arith, low, nodes, hosts)

  client-there : h < length s.world.clients
  client-there = let low = host-there in let same = session.world.clients in omega (arith, low, same)

  port-there : port < length m.ports
  port-there = let ports = (session.world.each_node h host-there).ports in omega (arith, ports, few)

  row-there : port < length (get_or s.world.clients h [])
  row-there = let row = session.world.each_client h host-there in omega (arith, row, few)

  -- an open port has a client
  open-client : (p : PortState) → port_at m port ≡ Some p → (d : ClientState) × (c ≡ Some d)
  open-client p e = by c refl
    where
      by : (o : Option ClientState) → c ≡ o → (d : ClientState) × (c ≡ Some d)
      by (Some d) g = (d, g)
      by None g = absurd (subst (λ x. AreOwned x None) e (subst (λ y. AreOwned (port_at m port) y) g owned))

  opened-as : (p : PortState) (d : ClientState) → port_at m port ≡ Some p → c ≡ Some d → port_in s.world at ≡ Some (record { sends = p.sends; recvs = p.recvs; client = d })
  opened-as p d e g = λ i. open_by (counts (e i)) (g i)

  few-tokens : (p : PortState) → port_at m port ≡ Some p → (p.sends ≤ 64) × (p.recvs ≤ 64)
  few-tokens p e =
      let d = open-client p e in
      subst (λ o. IfSome o IsFewPort) (k.ports.each at ∙ opened-as p d.0 e d.1) (port-few at (told before) k.few)

  -- the world after a call
  abbrev after : Called → WorldState
  after call = with_client (with_node s.world h call.node) h port call.client

  called-ports : (call : Called) (ts : List Told) → IsTold m c at call ts → IsToldPorts (after call) (ts ++ told before)
  called-ports call ts (IsTold.stays same_node same_client) = same-told s.world (after call) (told before) k.ports each
    where
      is : call.node.ports ≡ set m.ports port (port_at m port)
      is = ap (λ (x : NodeState). x.ports) same_node ∙ set-same m.ports port None

      each : (a : PortName) → port_in (after call) a ≡ port_in s.world a
      each a = called-port s.world h port call.node (port_at m port) call.client host-there port-there client-there row-there is a ∙ by (is_port at a) refl
        where
          by : (b : Bool) → is_port at a ≡ b → (if b then open_by (counts (port_at m port)) call.client else port_in s.world a) ≡ port_in s.world a
          by true e = ap (open_by (counts (port_at m port))) same_client ∙ ap (port_in s.world) (sym (same-port at a e))
          by false e = refl
  called-ports call ts (IsTold.tells t p ports of may from) =
      next-told s.world (after call) (told before) t at (open_by (counts p) call.client) k.ports
      (called-port s.world h port call.node p call.client host-there port-there client-there row-there ports) of from

  called-tokens : (call : Called) (ts : List Told) → IsTold m c at call ts → AllByRecursion (AreTokensRight (told before)) ts
  called-tokens call ts (IsTold.stays same_node same_client) = tt
  called-tokens call ts (IsTold.tells t p ports of may from) =
      (subst (MayBeSaidOf t) (sym (ap (λ x. port_told x (told before)) of ∙ k.ports.each at)) may, tt)

  -- a call and its line
  pub call-next : (cmd : Command) (kind : ClientCall) (call : Called) → IsCommandOf n cmd → call_of cmd ≡ Some (kind, at) → IsCall m c h port cmd call → Does s cmd (one_line kind h port call.said) (record s { world = after call })
      → IsNext n front done before cmd (one_line kind h port call.said) (record s { world = after call })
  call-next cmd kind call of_n kind_of is d =
      let out = one_line kind h port call.said in
      let next : SessionState = record s { world = after call } in
      let whole = all-join (IsCommandOf n) front (cmd ∷ []) all (of_n, tt) in
      let facts = run-received n (front ++ cmd ∷ []) (done ++ out) next f whole (runs-more cmd out run d) in
      let shown : (t from sport prio : ℕ) (body : List ℕ) → cmd ≡ PollCommand h port → call.said ≡ SaidReceived t from sport prio body → IsShown n from sport prio body =
      λ t from sport prio body polls said.
      let x : Handed = record { from = from; sport = sport; prio = prio; bytes = body } in
      let poll = poll-kind cmd kind h port polls kind_of in
      let line : received_in h port out ≡ x ∷ [] =
      (λ i. received_in h port (one_line (poll i) h port (said i))) ∙ (λ i. (if same-number h i && same-number port i then x ∷ [] else []) ++ []) in
      last-shown n (front ++ cmd ∷ []) (done ++ out) next.world h port x (received_in h port done) whole facts (received-join h port done out ∙ ap (λ l. received_in h port done ++ l) line) in
      let x = call-line n m c h port owned few-tokens cmd call is shown in
      let same : x.kind ≡ kind = pair-kind (call_of cmd) x.kind kind at at x.kind_is kind_of in
      let says : CallSays n at kind call.said x.r = subst (λ y. CallSays n at y call.said x.r) same x.says in
      let plain = call-plain says in
      let told_now = told_by cmd x.r in
      let one : IsMessageTold cmd out told_now = subst (λ y. IsMessageTold cmd (one_line y h port call.said) told_now) same x.messages in
      let messages = next-messages front done (told before) cmd out told_now (run-received n front done s f all run).answered k.messages one in
      record {
        a = Alone x.r;
        printed = alone cmd (Client kind h port call.said) x.r (call_line kind h port call.said x.r there few says) x.may (x.only (known_by n before).adopted) refl;
        right = record {
          maps = plain.maps (fabric_after n before);
          routes = tt;
          messages = record { in_order = in-order n (front ++ cmd ∷ []) (done ++ out) next.world (told_now ++ told before) whole facts messages; lengths = plain.lengths };
          tokens = record { calls = called-tokens call told_now x.told; places = plain.places (told before) };
        };
        followed = record {
          known = record { complete = plain.complete (complete_map before) ∙ k.known.complete; shown = plain.shown (shown_map before) ∙ k.known.shown; routed = k.known.routed; adopted = k.known.adopted };
          fabric = plain.fabric (fabric_after n before) ∙ k.fabric;
          ports = called-ports call told_now x.told;
          few = all-join IsFewTold told_now (told before) (told-few n cmd x.r of_n) k.few;
          messages = messages;
          unpulled = k.unpulled;
        };
      }

  -- the places of a port's tokens
  tokens-by : (o : Option PortState) → port_at m port ≡ o → IsCommandOf n (TokensCommand h port) → Does s (TokensCommand h port) (lines (token_lines h port o)) s → IsNext n front done before (TokensCommand h port) (lines (token_lines h port o)) s
  tokens-by None e of_n d =
      let cmd = TokensCommand h port in
      let out = one_line TokensCall h port (Refused NotOpen) in
      let whole = all-join (IsCommandOf n) front (cmd ∷ []) all (of_n, tt) in
      let facts = run-received n (front ++ cmd ∷ []) (done ++ out) s f whole (runs-more cmd out run d) in
      let messages = next-messages front done (told before) cmd out [] (run-received n front done s f all run).answered k.messages (refused-messages cmd TokensCall h port NotOpen) in
      record {
        a = Alone (CallRefused TokensCall at);
        printed = alone cmd (Client TokensCall h port (Refused NotOpen)) (CallRefused TokensCall at) (call_line TokensCall h port (Refused NotOpen) (CallRefused TokensCall at) there few (says_refused TokensCall NotOpen tokens_not_open)) (λ i. same-number h i && same-number port i) refl refl;
        right = record { maps = tt; routes = tt; messages = record { in_order = in-order n (front ++ cmd ∷ []) (done ++ out) s.world (told before) whole facts messages; lengths = tt }; tokens = record { calls = tt; places = tt } };
        followed = record { known = record { complete = k.known.complete; shown = k.known.shown; routed = k.known.routed; adopted = k.known.adopted }; fabric = k.fabric; ports = k.ports; few = k.few; messages = messages; unpulled = k.unpulled };
      }
  tokens-by (Some p) e of_n d =
      let cmd = TokensCommand h port in
      let sends = places p.sends (place_of_send p) in
      let recvs = places p.recvs (place_of_recv p) in
      let l : Line = TokensLine h port sends recvs in
      let r : ReportLine = TokensRead (record { port = at; sends = map told_place sends; recvs = map told_place recvs }) in
      let out = OneLine l ∷ [] in
      let whole = all-join (IsCommandOf n) front (cmd ∷ []) all (of_n, tt) in
      let facts = run-received n (front ++ cmd ∷ []) (done ++ out) s f whole (runs-more cmd out run d) in
      let messages = next-messages front done (told before) cmd out [] (run-received n front done s f all run).answered k.messages (quiet-messages cmd out [] refl (record { received = λ i q. refl; answers = refl })) in
      let client = open-client p e in
      let has : HasOwners p client.0 = subst (λ o. AreOwned o (Some client.0)) e (subst (λ b. AreOwned (port_at m port) b) client.1 owned) in
      let most = few-tokens p e in
      let right_places : AreAllPlaced (port_told at (told before)) (map told_place sends) (map told_place recvs) =
      subst (λ o. AreAllPlaced o (map told_place sends) (map told_place recvs)) (sym (k.ports.each at ∙ opened-as p client.0 e client.1)) (sends-placed p client.0 has.sends, recvs-placed p client.0 has.recvs) in
      record {
        a = Alone r;
        printed = alone cmd l r (tokens_line h port sends recvs there few (numbered p.sends (place_of_send p) most.0) (numbered p.recvs (place_of_recv p) most.1)) (λ i. same-number h i && same-number port i) refl refl;
        right = record { maps = tt; routes = tt; messages = record { in_order = in-order n (front ++ cmd ∷ []) (done ++ out) s.world (told before) whole facts messages; lengths = tt }; tokens = record { calls = tt; places = right_places } };
        followed = record { known = record { complete = k.known.complete; shown = k.known.shown; routed = k.known.routed; adopted = k.known.adopted }; fabric = k.fabric; ports = k.ports; few = k.few; messages = messages; unpulled = k.unpulled };
      }

  pub tokens-next : IsCommandOf n (TokensCommand h port) → Does s (TokensCommand h port) (lines (token_lines h port (port_at m port))) s → IsNext n front done before (TokensCommand h port) (lines (token_lines h port (port_at m port))) s
  tokens-next of_n d = tokens-by (port_at m port) refl of_n d
