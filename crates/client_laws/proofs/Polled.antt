-- Every act leaves what was polled and what waits at a port what was got for it.
use Rattle.std.proofs.Common.{◌≡◌, ◌≢◌, ◌<◌, ◌≤◌, ℕ, Bool, true, false, ◌&&◌, List, [], ◌∷◌, ◌++◌, map, length, drop, get_or, nat_eq, nat_lt, Option, Some, None, refl, sym, ap, ◌∙◌, subst, arith, if◌then◌else◌}
use Rattle.std.specs.Prelude.{slice_get}
use Rattle.std.specs.List.{filter}
use Rattle.std.proofs.lemmas.Bool.Decides.{nat_tests}
use Rattle.std.proofs.lemmas.Option.{same_Some}
use Rattle.std.proofs.lemmas.List.{append_assoc, append-nil, get_or-set_same, get_or-set_other, get_or_past, set_past}
use Rattle.net_defs.specs.Network.{Network}
use Rattle.packet_defs.specs.declared.kind.Kind.TheVariants.{Gm}
use Rattle.gm_defs.specs.Token.{PortEvent, Sent, Received, PortState}
use Rattle.gm_defs.specs.Port.{is_bad_size, next_event, polled}
use Rattle.gm_defs.proofs.Found.{filter-append}
use Rattle.world_defs.specs.declared.event.Event.{Event}
use Rattle.world_defs.specs.declared.event.Event.TheVariants.{Poll}
use Rattle.world_defs.specs.declared.effect.Effect.{Effect}
use Rattle.world_defs.specs.Lane.{LaneState, new_lane}
use Rattle.world_defs.specs.Table.{whole_table}
use Rattle.world_defs.specs.Node.{NodeState, StagedProbe, StagedPart, given_up, lane_of, lane_at, port_at, new_node, lane_count, port_count}
use Rattle.world_defs.specs.Client.{ClientState, Called, Wanted, begin_at, begun, close_refusal, close_unless, close_open, closed, provide_with, provide_open, provided_by, send_refusal, send_unless, send_with, send_open, sent_by, handed_out, poll_open, polled_by}
use Rattle.world_defs.specs.declared.client.ClientCause.{ClientCause}
use Rattle.world_defs.specs.World.{WorldState, host_count, new_world, node_at, client_at, adoption_of}
use Rattle.world_defs.specs.Traffic.{sent_on}
use Rattle.world_defs.proofs.Views.{HostChange, CallChange}
use Rattle.world_defs.proofs.Calls.{call_view}
use Rattle.world_defs.proofs.Lists.{each-replicate}
use Rattle.world_defs.specs.Acts.{Act, Happens, acted, acted_all, MayAct, MayActAll, IsReached}
use Rattle.world_defs.proofs.Hosts.{NodeChange, nodes_view, each_node}
use Rattle.world_defs.proofs.Reaching.{reached-next, reached-new}
use Rattle.table_laws.proofs.Keeping.{holds-read}
use Rattle.message_laws.specs.Says.{SaysTrue}
use Rattle.message_laws.proofs.Heard.{hear-is}
use Rattle.message_laws.proofs.Fillings.{read-prio}
use Rattle.message_laws.proofs.Windows.{reached-windowed}
use Rattle.message_laws.proofs.Arrivals.{carried}
use Rattle.message_laws.proofs.Known.{reached-count, reached-known}
use Rattle.client_laws.specs.Handed.{Handed, in_answer, in_event, in_events, waiting_in, is_on, is_to, as_handed, handed_by, handed_in}
use Rattle.client_laws.specs.Seen.{PolledThenWaitingIsGot}
use Rattle.client_laws.proofs.Moves.{waits, gets, MovesAt, Moves, nothing, moves-same, open-there, heard-moves, sending-moves, expires-moves, IsQuiet, call-moves}
use Rattle.world_defs.specs.Step.{gives_up_epoch}

-- no call but a poll hands out a message
begun-quiet : (n : NodeState) (port sends recvs : ℕ) (c : Option ClientState) → IsQuiet (begun n port sends recvs c).said
unfolding begun
begun-quiet n port sends recvs c = by (port_at n port)
  where
    by : (o : Option PortState) → IsQuiet (begin_at n port sends recvs c o).said
    by None = tt
    by (Some p) = tt

closed-quiet : (n : NodeState) (port : ℕ) (c : Option ClientState) → IsQuiet (closed n port c).said
unfolding closed
closed-quiet n port c = by (port_at n port)
  where
    unless : (p : PortState) (o : Option ClientCause) → IsQuiet (close_unless n port c p o).said
    unless p None = tt
    unless p (Some cause) = tt

    by : (o : Option PortState) → IsQuiet (close_open n port c o).said
    by None = tt
    by (Some p) = unless p (close_refusal p)

provided-quiet : (n : NodeState) (port size prio : ℕ) (c : Option ClientState) → IsQuiet (provided_by n port size prio c).said
unfolding provided_by
provided-quiet n port size prio c = by c (port_at n port)
  where
    chosen : (b : Bool) (x y : Called) → IsQuiet x.said → IsQuiet y.said → IsQuiet (if b then x else y).said
    chosen true x y p q = p
    chosen false x y p q = q

    with : (p : PortState) (d : ClientState) (ts : List ℕ) → IsQuiet (provide_with n port size prio p d ts).said
    with p d [] = tt
    with p d (t ∷ ts) = chosen (is_bad_size size prio) _ _ tt tt

    by : (c : Option ClientState) (o : Option PortState) → IsQuiet (provide_open n port size prio c o).said
    by (Some d) (Some p) = with p d d.recvs
    by (Some d) None = tt
    by None o = tt

sent-quiet : (n : NodeState) (s : Wanted) (c : Option ClientState) → IsQuiet (sent_by n s c).said
unfolding sent_by
sent-quiet n s c = by c (port_at n s.port)
  where
    unless : (p : PortState) (d : ClientState) (t : ℕ) (ts : List ℕ) (o : Option ClientCause) → IsQuiet (send_unless n s p d t ts o).said
    unless p d t ts None = tt
    unless p d t ts (Some cause) = tt

    with : (p : PortState) (d : ClientState) (ts : List ℕ) → IsQuiet (send_with n s p d ts).said
    with p d [] = tt
    with p d (t ∷ ts) = unless p d t ts (send_refusal n s)

    by : (c : Option ClientState) (o : Option PortState) → IsQuiet (send_open n s c o).said
    by (Some d) (Some p) = with p d d.sends
    by (Some d) None = tt
    by None o = tt

-- an act that isn't a poll
abbrev pub IsNoPoll : Act → Type 0
IsNoPoll (Happens (Poll h port)) = ⊥
IsNoPoll _ = Unit {0}

pub none-handed : (h port : ℕ) (w : WorldState) (a : Act) → IsNoPoll a → handed_by h port w a ≡ []
none-handed h port w (Happens (Poll i p)) calm = absurd calm
none-handed h port w _ calm = refl

call-quiet : {w : WorldState} {e : Event} {h port : ℕ} {call : Called} → CallChange w e h port call → IsNoPoll (Happens e) → IsQuiet call.said
call-quiet {w = w} {h = h} {port = port} (CallChange.begins {sends = sends} {recvs = recvs}) calm = begun-quiet (node_at w h) port sends recvs (client_at w h port)
call-quiet {w = w} {h = h} {port = port} CallChange.closes calm = closed-quiet (node_at w h) port (client_at w h port)
call-quiet {w = w} {h = h} {port = port} (CallChange.provides {size = size} {prio = prio}) calm = provided-quiet (node_at w h) port size prio (client_at w h port)
call-quiet {w = w} {h = h} {port = port} CallChange.accepts calm = sent-quiet (node_at w h) _ (client_at w h port)
call-quiet CallChange.polls calm = absurd calm

-- a host of the fabric as an act that isn't a poll leaves it
record Still (count h : ℕ) (n m : NodeState) : Type 0 where
  still : h < count → Moves n m nothing

host-moves : {w : WorldState} {e : Event} {x : Effect} {h : ℕ} {m : NodeState} → HostChange w e x h m → Moves (node_at w h) m nothing
host-moves {w = w} (HostChange.asks {h = h} {walk = walk} {looped = looped}) = moves-same (node_at w h) (record (node_at w h) { staged = Some (StagedProbe walk looped) }) (λ k. refl) (λ port. refl)
host-moves {w = w} (HostChange.stages a p by d e f) = moves-same (node_at w a.mapper) (record (node_at w a.mapper) { staged = Some (StagedPart p by) }) (λ k. refl) (λ port. refl)
host-moves {w = w} (HostChange.expires {h = h} {peer = peer} k) = expires-moves (node_at w h) peer
host-moves {w = w} (HostChange.gives_up {h = h} k) = moves-same (node_at w h) (given_up (node_at w h)) (λ k. refl) (λ port. refl)
host-moves {w = w} (HostChange.revokes {h = h} a d) = moves-same (node_at w h) (gives_up_epoch (node_at w h) a.epoch) (λ k. refl) (λ port. refl)

node-moves : (n : Network) (w : WorldState) → IsReached n w → (a : Act) → IsNoPoll a → (h : ℕ) (m : NodeState) → NodeChange w a h m → Still (length n.hosts) h (node_at w h) m
node-moves n w r a calm h m (NodeChange.itself k) = record { still = λ low. host-moves k }
node-moves n w r a calm h m (NodeChange.hears {c = c} packet j d e) = record {
  still = λ low.
      heard-moves j (host_count w) (node_at w j) (reached-known n w j r low).lanes packet.wire _
      (λ body x f g mine seq. carried n w r j body x (holds-read (SaysTrue (sent_on w)) w.links c packet (reached-windowed n w r).ordered.links d Gm body f x g) g mine seq)
      (λ body x g. read-prio body x g) (hear-is j (host_count w) (node_at w j) packet.wire);
}
node-moves n w r a calm h m (NodeChange.sends c out d e) = record { still = λ low. sending-moves (node_at w h) out }
node-moves n w r a calm h m (NodeChange.calls k) = record { still = λ low. call-moves (call_view k) (call-quiet k calm) }
node-moves n w r a calm h m (NodeChange.adopts {mapper = mapper} {routes = routes}) = record { still = λ low. moves-same (node_at w mapper) (record (node_at w mapper) { table = whole_table routes mapper (adoption_of w mapper routes).epoch }) (λ k. refl) (λ port. refl) }

-- what an act makes of a world
record Goes (w : WorldState) (a : Act) : Type 0 where
  nodes : (h : ℕ) → Moves (node_at w h) (node_at (acted w a) h) (λ port. handed_by h port w a)

-- hosts that aren't there
past-same : (n : Network) (w : WorldState) → IsReached n w → (h : ℕ) → length n.hosts ≤ h → node_at w h ≡ new_node 0
past-same n w is h past = let count = reached-count n w is in get_or_past w.nodes h (new_node 0) (omega (arith, count, past))

quiet-goes : (n : Network) (w : WorldState) (a : Act) → IsReached n w → MayAct w a → IsNoPoll a → Goes w a
quiet-goes n w a r may calm = record { nodes = λ h. subst (Moves (node_at w h) (node_at (acted w a) h)) (λ i port. sym (none-handed h port w a calm) i) (by h (nat_lt h (length n.hosts)) refl) }
  where
    all : (h : ℕ) → Still (length n.hosts) h (node_at w h) (node_at (acted w a) h)
    all = each_node (λ h. Still (length n.hosts) h (node_at w h)) (nodes_view w a) (λ h. record { still = λ low. moves-same (node_at w h) (node_at w h) (λ k. refl) (λ port. refl) }) (node-moves n w r a calm)

    by : (h : ℕ) (b : Bool) → nat_lt h (length n.hosts) ≡ b → Moves (node_at w h) (node_at (acted w a) h) nothing
    by h true e = (all h).still (grind (arith, nat_tests))
    by h false e =
        let past : length n.hosts ≤ h = grind (arith, nat_tests) in
        let same : node_at (acted w a) h ≡ node_at w h = past-same n (acted w a) (reached-next n w a r may) h past ∙ sym (past-same n w r h past) in
        moves-same (node_at w h) (node_at (acted w a) h) (λ k. ap (λ (x : NodeState). (lane_at x k).got) same) (λ port. ap (λ (x : NodeState). waiting_in (port_at x port)) same)

-- a poll
first-event : (es : List PortEvent) (e : PortEvent) → slice_get es 0 ≡ Some e → in_events es ≡ in_event e ++ in_events (drop 1 es)
first-event [] e d = cc
first-event (x ∷ es) e d = let same : x ≡ e = same_Some x e d in ap (λ y. in_event y ++ in_events es) same

-- What a poll leaves: the same lanes and other ports, and at its port the event that was handed out less.
pub record IsPolled (n : NodeState) (port : ℕ) (call : Called) : Type 0 where
  pub lanes : call.node.lanes ≡ n.lanes
  pub others : (j : ℕ) → j ≢ port → port_at call.node j ≡ port_at n j
  pub here : in_answer call.said ++ waiting_in (port_at call.node port) ≡ waiting_in (port_at n port)

rests-polled : (n : NodeState) (port : ℕ) (call : Called) → call.node ≡ n → in_answer call.said ≡ [] → IsPolled n port call
rests-polled n port call e none = record {
  lanes = ap (λ (x : NodeState). x.lanes) e;
  others = λ j other. ap (λ x. port_at x j) e;
  here = ap (λ l. l ++ waiting_in (port_at call.node port)) none ∙ ap (λ x. waiting_in (port_at x port)) e;
}

pub polled-polled : (n : NodeState) (port : ℕ) (c : Option ClientState) → IsPolled n port (polled_by n port c)
unfolding polled_by
polled-polled n port c = by c (port_at n port) refl
  where
    handed : (p : PortState) (d : ClientState) (o : Option PortEvent) → port_at n port ≡ Some p → next_event p ≡ o → IsPolled n port (handed_out n port p d o)
    handed p d None e k = rests-polled n port (handed_out n port p d None) refl refl
    handed p d (Some (Sent t buffer)) e k = record {
      lanes = refl;
      others = λ j other. get_or-set_other n.ports port j (Some (polled p)) None other;
      here = ap waiting_in (open-there n.ports port p (Some (polled p)) e) ∙ sym (ap waiting_in e ∙ first-event p.events (Sent t buffer) k);
    }
    handed p d (Some (Received t buffer from sport prio len)) e k = record {
      lanes = refl;
      others = λ j other. get_or-set_other n.ports port j (Some (polled p)) None other;
      here = ap (λ o. in_event (Received t buffer from sport prio len) ++ waiting_in o) (open-there n.ports port p (Some (polled p)) e) ∙ sym (ap waiting_in e ∙ first-event p.events (Received t buffer from sport prio len) k);
    }

    by : (c : Option ClientState) (o : Option PortState) → port_at n port ≡ o → IsPolled n port (poll_open n port c o)
    by (Some d) (Some p) e = handed p d (next_event p) e refl
    by (Some d) None e = rests-polled n port (poll_open n port (Some d) None) refl refl
    by None o e = rests-polled n port (poll_open n port None o) refl refl

closed-answer : (n : NodeState) (port : ℕ) (c : Option ClientState) → port_at n port ≡ None → in_answer (polled_by n port c).said ≡ []
unfolding polled_by
closed-answer n port c e = ap (λ o. in_answer (poll_open n port c o).said) e ∙ by c
  where
    by : (c : Option ClientState) → in_answer (poll_open n port c None).said ≡ []
    by (Some d) = refl
    by None = refl

poll-moves : (n : NodeState) (i port : ℕ) (call : Called) → IsPolled n port call → Moves n call.node (λ j. if nat_eq i i && nat_eq port j then in_answer call.said else [])
poll-moves n i port call is = record { each = λ j src prio low. at j src prio (nat_eq i i) (nat_eq port j) refl refl }
  where
    at : (j src prio : ℕ) (a b : Bool) → nat_eq i i ≡ a → nat_eq port j ≡ b → MovesAt n call.node (if a && b then in_answer call.said else []) j src prio
    at j src prio false b e f = absurd (grind (arith, nat_tests))
    at j src prio true false e f =
        let other : j ≢ port = (λ d. grind (arith, nat_tests)) in
        record {
          new = [];
          got = ap (λ l. map (as_handed src) (filter (is_to j) (get_or l (lane_of src prio) new_lane).got)) is.lanes ∙ sym (append-nil (gets n j src prio));
          waiting = ap (λ o. filter (is_on src prio) (waiting_in o)) (is.others j other) ∙ sym (append-nil (waits n j src prio));
        }
    at j src prio true true e f =
        let here : port ≡ j = grind (arith, nat_tests) in
        record {
          new = [];
          got = ap (λ l. map (as_handed src) (filter (is_to j) (get_or l (lane_of src prio) new_lane).got)) is.lanes ∙ sym (append-nil (gets n j src prio));
          waiting = subst (λ k. filter (is_on src prio) (in_answer call.said) ++ waits call.node k src prio ≡ waits n k src prio ++ []) here
              (sym (filter-append (is_on src prio) (in_answer call.said) (waiting_in (port_at call.node port))) ∙ ap (filter (is_on src prio)) is.here ∙ sym (append-nil (waits n port src prio)));
        }

poll-goes : (w : WorldState) (i port : ℕ) → Goes w (Happens (Poll i port))
poll-goes w i port = record { nodes = λ h. by h (nat_eq i h) (nat_lt i (host_count w)) refl refl }
  where
    call : Called
    call = polled_by (node_at w i) port (client_at w i port)

    v : WorldState
    v = acted w (Happens (Poll i port))

    out : ℕ → ℕ → List Handed
    out h j = if nat_eq i h && nat_eq port j then in_answer call.said else []

    quiet : (h : ℕ) → node_at v h ≡ node_at w h → ((j : ℕ) → out h j ≡ []) → Moves (node_at w h) (node_at v h) (out h)
    quiet h same none =
        subst (Moves (node_at w h) (node_at v h)) (λ k j. sym (none j) k)
        (moves-same (node_at w h) (node_at v h) (λ k. ap (λ (x : NodeState). (lane_at x k).got) same) (λ j. ap (λ (x : NodeState). waiting_in (port_at x j)) same))

    choose : (b : Bool) (l : List Handed) → l ≡ [] → (if b then l else []) ≡ []
    choose true l e = e
    choose false l e = refl

    by : (h : ℕ) (a b : Bool) → nat_eq i h ≡ a → nat_lt i (host_count w) ≡ b → Moves (node_at w h) (node_at v h) (out h)
    by h false b e f =
        let other : h ≢ i = (λ d. grind (arith, nat_tests)) in
        quiet h (get_or-set_other w.nodes i h call.node (new_node 0) other) (λ j. ap (λ (t : Bool). if t && nat_eq port j then in_answer call.said else []) e)
    by h true true e f =
        let here : i ≡ h = grind (arith, nat_tests) in
        let low : i < host_count w = grind (arith, nat_tests) in
        subst (λ k. Moves (node_at w k) (node_at v k) (out k)) here
        (subst (λ m. Moves (node_at w i) m (out i)) (sym (get_or-set_same w.nodes i call.node (new_node 0) low)) (poll-moves (node_at w i) i port call (polled-polled (node_at w i) port (client_at w i port))))
    by h true false e f =
        let past : host_count w ≤ i = grind (arith, nat_tests) in
        let is : node_at w i ≡ new_node 0 = get_or_past w.nodes i (new_node 0) past in
        let closed : port_at (node_at w i) port ≡ None = ap (λ x. port_at x port) is ∙ each-replicate (λ (o : Option PortState). o ≡ None) port_count port None None refl refl in
        quiet h (ap (λ l. get_or l h (new_node 0)) (set_past w.nodes i call.node past)) (λ j. choose (nat_eq i h && nat_eq port j) (in_answer call.said) (closed-answer (node_at w i) port (client_at w i port) closed))

-- every act
acted-goes : (n : Network) (w : WorldState) (a : Act) → IsReached n w → MayAct w a → Goes w a
acted-goes n w (Happens (Poll h port)) r may = poll-goes w h port
acted-goes n w a r may = quiet-goes n w a r may tt

-- The invariant: what was handed out so far, and what waits, is what was got.
record IsSeen (seen : ℕ → ℕ → List Handed) (w : WorldState) : Type 0 where
  each : (h port src prio : ℕ) → prio < 2 → filter (is_on src prio) (seen h port ++ waiting_in (port_at (node_at w h) port)) ≡ gets (node_at w h) port src prio

-- one connection and port
step-seen : (test : Handed → Bool) (seen out before after got later new : List Handed) → filter test (seen ++ before) ≡ got → later ≡ got ++ new → filter test out ++ filter test after ≡ filter test before ++ new → filter test ((seen ++ out) ++ after) ≡ later
step-seen test seen out before after got later new is grows moves =
    ap (filter test) (append_assoc seen out after) ∙ filter-append test seen (out ++ after) ∙ ap (λ l. filter test seen ++ l) (filter-append test out after ∙ moves)
    ∙ sym (append_assoc (filter test seen) (filter test before) new) ∙ ap (λ l. l ++ new) (sym (filter-append test seen before) ∙ is) ∙ sym grows

acted-seen : (n : Network) (w : WorldState) (a : Act) (seen : ℕ → ℕ → List Handed) → IsReached n w → MayAct w a → IsSeen seen w → IsSeen (λ h port. seen h port ++ handed_by h port w a) (acted w a)
acted-seen n w a seen r may is = record {
  each = λ h port src prio low.
      let m : MovesAt (node_at w h) (node_at (acted w a) h) (handed_by h port w a) port src prio = (Goes.nodes (acted-goes n w a r may) h).each port src prio low in
      step-seen (is_on src prio) (seen h port) (handed_by h port w a) (waiting_in (port_at (node_at w h) port)) (waiting_in (port_at (node_at (acted w a) h) port)) (gets (node_at w h) port src prio) (gets (node_at (acted w a) h) port src prio) m.new
      (is.each h port src prio low) m.got m.waiting;
}

all-seen : (n : Network) (w : WorldState) (acts : List Act) (seen : ℕ → ℕ → List Handed) → IsReached n w → MayActAll w acts → IsSeen seen w → IsSeen (λ h port. seen h port ++ handed_in h port w acts) (acted_all w acts)
all-seen n w [] seen r may is = subst (λ f. IsSeen f w) (λ i h port. sym (append-nil (seen h port)) i) is
all-seen n w (a ∷ acts) seen r may is =
    subst (λ f. IsSeen f (acted_all (acted w a) acts)) (λ i h port. append_assoc (seen h port) (handed_by h port w a) (handed_in h port (acted w a) acts) i)
    (all-seen n (acted w a) acts (λ h port. seen h port ++ handed_by h port w a) (reached-next n w a r may.0) may.1 (acted-seen n w a seen r may.0 is))

-- the new world
record IsBare (n : NodeState) : Type 0 where
  ports : (port : ℕ) → port_at n port ≡ None
  lanes : (k : ℕ) → (lane_at n k).got ≡ []

new-bare : (k : ℕ) → IsBare (new_node k)
new-bare k = record {
  ports = λ port. each-replicate (λ (o : Option PortState). o ≡ None) port_count port None None refl refl;
  lanes = λ j. each-replicate (λ (l : LaneState). l.got ≡ []) (lane_count k) j new_lane new_lane refl refl;
}

new-seen : (n : Network) → IsSeen (λ h port. []) (new_world n)
new-seen n = record {
  each = λ h port src prio low.
      let bare : IsBare (node_at (new_world n) h) = each-replicate IsBare (length n.hosts) h (new_node (length n.hosts)) (new_node 0) (new-bare (length n.hosts)) (new-bare 0) in
      ap (λ o. filter (is_on src prio) (waiting_in o)) (bare.ports port) ∙ sym (ap (λ ms. map (as_handed src) (filter (is_to port) ms)) (bare.lanes (lane_of src prio)));
}

pub polled-got : PolledThenWaitingIsGot
polled-got n w is c port low =
    let all : IsSeen (λ h j. handed_in h j (new_world n) is.acts) (acted_all (new_world n) is.acts) = all-seen n (new_world n) is.acts (λ h j. []) (reached-new n is.fabric) is.may (new-seen n) in
    let here : IsSeen (λ h j. handed_in h j (new_world n) is.acts) w = subst (IsSeen (λ h j. handed_in h j (new_world n) is.acts)) (sym is.leads) all in
    here.each c.dst port c.src c.prio low
