-- Every act leaves each ticket and each sent event with the message that its token was last sent with.
use Rattle.std.proofs.Common.{◌≡◌, ◌≢◌, ◌<◌, ◌≤◌, ℕ, Bool, true, false, ◌&&◌, List, [], ◌∷◌, length, get_or, set, nat_eq, nat_lt, Option, Some, None, refl, sym, ap, ◌∙◌, subst, arith, if◌then◌else◌}
use Rattle.std.specs.Prelude.{slice_get}
use Rattle.std.proofs.lemmas.Bool.Decides.{nat_tests}
use Rattle.std.proofs.lemmas.List.{set-get_or, get_or-set_same, get_or-set_other, get_or_past}
use Rattle.net_defs.specs.Network.{Network}
use Rattle.gm_defs.specs.Fragment.{whole_below}
use Rattle.gm_defs.specs.Port.{next_event}
use Rattle.gm_defs.specs.Token.{PortEvent, Sent, Received, PortState}
use Rattle.world_defs.specs.declared.client.ClientCause.{ClientCause}
use Rattle.world_defs.specs.declared.effect.Effect.{Effect}
use Rattle.world_defs.specs.declared.effect.Effect.TheVariants.{Said as Says}
use Rattle.world_defs.specs.declared.effect.Said.{Said}
use Rattle.world_defs.specs.declared.effect.Said.TheVariants.{Sent as SaidSent}
use Rattle.world_defs.specs.declared.event.Event.{Event}
use Rattle.world_defs.specs.declared.event.Event.TheVariants.{Send}
use Rattle.world_defs.specs.Lane.{LaneState, Ticket, new_lane}
use Rattle.world_defs.specs.Node.{NodeState, StagedProbe, StagedPart, given_up, lane_count, sending_lane, sends_on, lane_at, port_at, port_count, new_node}
use Rattle.world_defs.specs.Table.{whole_table}
use Rattle.world_defs.specs.Client.{ClientState, Called, Wanted, wanted_lane, wanted_message, send_accepted, send_refusal, send_unless, send_with, send_open, sent_by, handed_out, poll_open, polled_by}
use Rattle.world_defs.specs.World.{WorldState, host_count, new_world, node_at, client_at, adoption_of}
use Rattle.world_defs.specs.Sound.{AreOwned, HasOwners}
use Rattle.world_defs.specs.Step.{wanted, gives_up_epoch}
use Rattle.world_defs.proofs.Lists.{each-replicate}
use Rattle.world_defs.proofs.Lanes.{lane_of-parts}
use Rattle.world_defs.proofs.Views.{HostChange}
use Rattle.world_defs.proofs.Calls.{call_view}
use Rattle.world_defs.specs.Acts.{Act, Happens, acted, acted_all, MayAct, MayActAll, IsReached}
use Rattle.world_defs.proofs.Hosts.{NodeChange, nodes_view, each_node}
use Rattle.world_defs.proofs.Reaching.{reached-next, reached-new}
use Rattle.message_laws.proofs.Calls.{call-does}
use Rattle.message_laws.proofs.Events.{AreAll, event-at}
use Rattle.message_laws.proofs.Heard.{hear-is}
use Rattle.message_laws.proofs.Known.{reached-count, reached-known}
use Rattle.message_laws.proofs.Matched.{reached-matched}
use Rattle.client_laws.specs.Noted.{Note, is_token, noted_by, noted_in, SentEventsAreOfTokens, PolledTokensAreOfMessages}
use Rattle.client_laws.proofs.Accepted.{IsNoSend, call-lanes}
use Rattle.client_laws.proofs.Notes.{IsNote, LaneNoted, IsOf, Noted, Still, quiet-still, heard-still, sending-still, expires-still, call-still, accepted-noted}

none-noted : (h port token : ℕ) (w : WorldState) (a : Act) → IsNoSend a → (before : Option Note) → noted_by h port token w a before ≡ before
none-noted h port token w (Happens (Send i p dest dport prio len seed)) calm before = absurd calm
none-noted h port token w _ calm before = refl

-- a host of the fabric
record StillAt (count h : ℕ) (n m : NodeState) : Type 0 where
  still : h < count → Still n m

host-still : {w : WorldState} {e : Event} {x : Effect} {h : ℕ} {m : NodeState} → HostChange w e x h m → Still (node_at w h) m
host-still {w = w} (HostChange.asks {h = h} {walk = walk} {looped = looped}) = quiet-still (node_at w h) (record (node_at w h) { staged = Some (StagedProbe walk looped) }) refl refl
host-still {w = w} (HostChange.stages a p by d e f) = quiet-still (node_at w a.mapper) (record (node_at w a.mapper) { staged = Some (StagedPart p by) }) refl refl
host-still {w = w} (HostChange.expires {h = h} {peer = peer} k) = expires-still (node_at w h) peer
host-still {w = w} (HostChange.gives_up {h = h} k) = quiet-still (node_at w h) (given_up (node_at w h)) refl refl
host-still {w = w} (HostChange.revokes {h = h} a d) = quiet-still (node_at w h) (gives_up_epoch (node_at w h) a.epoch) refl refl

node-still : (n : Network) (w : WorldState) → IsReached n w → (a : Act) → IsNoSend a → (h : ℕ) (m : NodeState) → NodeChange w a h m → StillAt (length n.hosts) h (node_at w h) m
node-still n w r a calm h m (NodeChange.itself k) = record { still = λ low. host-still k }
node-still n w r a calm h m (NodeChange.hears {c = c} packet j d e) = record {
  still = λ low. heard-still (node_at w j) (client_at w j) (host_count w) (reached-known n w j r low) j packet.wire m (reached-matched n w r j) (hear-is j (host_count w) (node_at w j) packet.wire);
}
node-still n w r a calm h m (NodeChange.sends c out d e) = record { still = λ low. sending-still (node_at w h) out }
node-still n w r a calm h m (NodeChange.calls k) = record { still = λ low. call-still (node_at w h) (call-does (call_view k)) (call-lanes k calm) }
node-still n w r a calm h m (NodeChange.adopts {mapper = mapper} {routes = routes}) = record { still = λ low. quiet-still (node_at w mapper) (record (node_at w mapper) { table = whole_table routes mapper (adoption_of w mapper routes).epoch }) refl refl }

-- the invariant
record IsNoted (notes : ℕ → ℕ → ℕ → Option Note) (w : WorldState) : Type 0 where
  hosts : (h : ℕ) → Noted (notes h) (node_at w h)

abbrev next_notes : (ℕ → ℕ → ℕ → Option Note) → WorldState → Act → ℕ → ℕ → ℕ → Option Note
next_notes notes w a h port token = noted_by h port token w a (notes h port token)

calm-noted : (n : Network) (w : WorldState) (a : Act) (notes : ℕ → ℕ → ℕ → Option Note) → IsReached n w → MayAct w a → IsNoSend a → IsNoted notes w → IsNoted (next_notes notes w a) (acted w a)
calm-noted n w a notes r may calm is = record {
  hosts = λ h. subst (λ N. Noted N (node_at (acted w a) h)) (λ i port token. sym (none-noted h port token w a calm (notes h port token)) i) (by h (nat_lt h (length n.hosts)) refl);
}
  where
    all : (h : ℕ) → StillAt (length n.hosts) h (node_at w h) (node_at (acted w a) h)
    all = each_node (λ h. StillAt (length n.hosts) h (node_at w h)) (nodes_view w a) (λ h. record { still = λ low. quiet-still (node_at w h) (node_at w h) refl refl }) (node-still n w r a calm)

    by : (h : ℕ) (b : Bool) → nat_lt h (length n.hosts) ≡ b → Noted (notes h) (node_at (acted w a) h)
    by h true e = ((all h).still (grind (arith, nat_tests))).still (notes h) (is.hosts h)
    by h false e =
        let past : length n.hosts ≤ h = grind (arith, nat_tests) in
        let v_is : IsReached n (acted w a) = reached-next n w a r may in
        let before = reached-count n w r in
        let after = reached-count n (acted w a) v_is in
        let same : node_at w h ≡ node_at (acted w a) h = get_or_past w.nodes h (new_node 0) (omega (arith, before, past)) ∙ sym (get_or_past (acted w a).nodes h (new_node 0) (omega (arith, after, past))) in
        subst (Noted (notes h)) same (is.hosts h)

-- What a send leaves: all as it was, with no token; or its message was accepted with one.
data IsSending (n : NodeState) (s : Wanted) (c : Option ClientState) (call : Called) : Type 0 where
  rests : call.node ≡ n → ((token : ℕ) → is_token token (Says call.said) ≡ false) → IsSending n s c call
  accepts : (p : PortState) (d : ClientState) (t : ℕ) (ts : List ℕ) → port_at n s.port ≡ Some p → c ≡ Some d → d.sends ≡ t ∷ ts → send_refusal n s ≡ None → call ≡ send_accepted n s p d t ts → IsSending n s c call

sent_by-is : (n : NodeState) (s : Wanted) (c : Option ClientState) → IsSending n s c (sent_by n s c)
unfolding sent_by
sent_by-is n s c = by c (port_at n s.port) refl refl
  where
    unless : (p : PortState) (d : ClientState) (t : ℕ) (ts : List ℕ) (o : Option ClientCause) → port_at n s.port ≡ Some p → c ≡ Some d → d.sends ≡ t ∷ ts → send_refusal n s ≡ o → IsSending n s c (send_unless n s p d t ts o)
    unless p d t ts (Some cause) e f g k = IsSending.rests refl (λ token. refl)
    unless p d t ts None e f g k = IsSending.accepts p d t ts e f g k refl

    with : (p : PortState) (d : ClientState) (ts : List ℕ) → port_at n s.port ≡ Some p → c ≡ Some d → d.sends ≡ ts → IsSending n s c (send_with n s p d ts)
    with p d [] e f g = IsSending.rests refl (λ token. refl)
    with p d (t ∷ ts) e f g = unless p d t ts (send_refusal n s) e f g refl

    by : (b : Option ClientState) (o : Option PortState) → c ≡ b → port_at n s.port ≡ o → IsSending n s c (send_open n s b o)
    by (Some d) (Some p) f e = with p d d.sends e f refl
    by (Some d) None f e = IsSending.rests refl (λ token. refl)
    by None o f e = IsSending.rests refl (λ token. refl)

owners : (o : Option PortState) (d : Option ClientState) (p : PortState) (c : ClientState) → o ≡ Some p → d ≡ Some c → AreOwned o d → HasOwners p c
owners o d p c e f own = subst (λ z. AreOwned (Some p) z) f (subst (λ z. AreOwned z d) e own)

eq-true : (a b : ℕ) → a ≡ b → nat_eq a b ≡ true
eq-true a b e = grind (arith, nat_tests)

if-false : (b c : Bool) (x y : Option Note) → c ≡ false → (if b && c then x else y) ≡ y
if-false true true x y e = cc
if-false true false x y e = refl
if-false false c x y e = refl

module _ (n : Network) (w : WorldState) (r : IsReached n w) (notes : ℕ → ℕ → ℕ → Option Note) (is : IsNoted notes w) (i p dest dport prio len seed : ℕ) where
  abbrev s : Wanted
  s = wanted p dest dport prio len seed

  abbrev call : Called
  call = sent_by (node_at w i) s (client_at w i p)

  abbrev act : Act
  act = Happens (Send i p dest dport prio len seed)

  abbrev v : WorldState
  v = acted w act

  inside : (q : PortState) → port_at (node_at w i) p ≡ Some q → i < length n.hosts
  inside q e = by (nat_lt i (length n.hosts)) refl
    where
      by : (b : Bool) → nat_lt i (length n.hosts) ≡ b → i < length n.hosts
      by true f = grind (arith, nat_tests)
      by false f =
          let past : length n.hosts ≤ i = grind (arith, nat_tests) in
          let count = reached-count n w r in
          let new : node_at w i ≡ new_node 0 = get_or_past w.nodes i (new_node 0) (omega (arith, count, past)) in
          let closed : port_at (node_at w i) p ≡ None = ap (λ x. port_at x p) new ∙ each-replicate (λ (o : Option PortState). o ≡ None) port_count p None None refl refl in
          cc

  at : (h : ℕ) → IsSending (node_at w i) s (client_at w i p) call → Noted (next_notes notes w act h) (node_at v h)
  at h (IsSending.rests e none) =
      let same : node_at w h ≡ node_at v h = sym (ap (λ x. get_or (set w.nodes i x) h (new_node 0)) e ∙ ap (λ l. get_or l h (new_node 0)) (set-get_or w.nodes i (new_node 0))) in
      subst (λ N. Noted N (node_at v h)) (λ j port token. sym (if-false (nat_eq i h && nat_eq p port) (is_token token (Says call.said)) (Some (record { lane = wanted_lane s; place = length (lane_at (node_at w h) (wanted_lane s)).sent; message = wanted_message s })) (notes h port token) (none token)) j) (subst (Noted (notes h)) same (is.hosts h))
  at h (IsSending.accepts q d t ts e f g none done) = by (nat_eq i h) refl
    where
      low : i < length n.hosts
      low = inside q e

      there : i < host_count w
      there = let count = reached-count n w r in omega (arith, low, count)

      token-is : (token : ℕ) → is_token token (Says call.said) ≡ nat_eq t token
      token-is token = ap (λ (x : Called). is_token token (Says x.said)) done

      new : Note
      new = record { lane = wanted_lane s; place = length (lane_at (node_at w i) (wanted_lane s)).sent; message = wanted_message s }

      mine : (port token : ℕ) → next_notes notes w act i port token ≡ (if (nat_eq i i && nat_eq p port) && nat_eq t token then Some new else notes i port token)
      mine port token = ap (λ b. if (nat_eq i i && nat_eq p port) && b then Some new else notes i port token) (token-is token)

      here : next_notes notes w act i p t ≡ Some new
      here = mine p t ∙ (λ j. if (eq-true i i refl j && eq-true p p refl j) && eq-true t t refl j then Some new else notes i p t)

      other : (port u : ℕ) → (port ≡ p → u ≡ t → ⊥) → next_notes notes w act i port u ≡ notes i port u
      other port u apart = mine port u ∙ cases (nat_eq i i) (nat_eq p port) (nat_eq t u) refl refl
        where
          cases : (a b c : Bool) → nat_eq p port ≡ b → nat_eq t u ≡ c → (if (a && b) && c then Some new else notes i port u) ≡ notes i port u
          cases true true true x y = absurd (apart (grind (arith, nat_tests)) (grind (arith, nat_tests)))
          cases true true false x y = refl
          cases true false c x y = refl
          cases false b c x y = refl

      by : (b : Bool) → nat_eq i h ≡ b → Noted (next_notes notes w act h) (node_at v h)
      by true x =
          let same : i ≡ h = grind (arith, nat_tests) in
          let known = reached-known n w i r low in
          let after : Noted (next_notes notes w act i) (send_accepted (node_at w i) s q d t ts).node =
          accepted-noted (node_at w i) (client_at w i) (host_count w) known s q d t ts e g (owners (port_at (node_at w i) p) (client_at w i p) q d e f (known.owned p)) none (reached-matched n w r i) (notes i) (next_notes notes w act i) here other (is.hosts i) in
          subst (λ k. Noted (next_notes notes w act k) (node_at v k)) same
          (subst (Noted (next_notes notes w act i)) (sym (get_or-set_same w.nodes i call.node (new_node 0) there)) (subst (λ (c : Called). Noted (next_notes notes w act i) c.node) (sym done) after))
      by false x =
          let apart : h ≢ i = (λ d. grind (arith, nat_tests)) in
          let same : node_at w h ≡ node_at v h = sym (get_or-set_other w.nodes i h call.node (new_node 0) apart) in
          subst (λ N. Noted N (node_at v h)) (λ j port token. sym (ap (λ b. if (b && nat_eq p port) && is_token token (Says call.said) then Some (record { lane = wanted_lane s; place = length (lane_at (node_at w h) (wanted_lane s)).sent; message = wanted_message s }) else notes h port token) x) j) (subst (Noted (notes h)) same (is.hosts h))

  send-noted : IsNoted (next_notes notes w act) v
  send-noted = record { hosts = λ h. at h (sent_by-is (node_at w i) s (client_at w i p)) }

acted-noted : (n : Network) (w : WorldState) (a : Act) (notes : ℕ → ℕ → ℕ → Option Note) → IsReached n w → MayAct w a → IsNoted notes w → IsNoted (next_notes notes w a) (acted w a)
acted-noted n w (Happens (Send i p dest dport prio len seed)) notes r may is = send-noted n w r notes is i p dest dport prio len seed
acted-noted n w a notes r may is = calm-noted n w a notes r may tt is

all-noted : (n : Network) (w : WorldState) (acts : List Act) (notes : ℕ → ℕ → ℕ → Option Note) → IsReached n w → MayActAll w acts → IsNoted notes w → IsNoted (λ h port token. noted_in h port token w acts (notes h port token)) (acted_all w acts)
all-noted n w [] notes r may is = is
all-noted n w (a ∷ acts) notes r may is = all-noted n (acted w a) acts (next_notes notes w a) (reached-next n w a r may.0) may.1 (acted-noted n w a notes r may.0 is)

-- the new world
bare-lane : (N : ℕ → ℕ → Option Note) (j : ℕ) → LaneNoted N j new_lane
bare-lane N j = record { each = λ i x e. none i x (N x.port x.token) e }
  where
    none : (i : ℕ) (x : Ticket) (o : Option Note) → slice_get [] i ≡ Some x → IsNote new_lane j i o
    none i x o e = cc

new-node-noted : (N : ℕ → ℕ → Option Note) (k : ℕ) → Noted N (new_node k)
new-node-noted N k = record {
  lanes = λ j. each-replicate (LaneNoted N j) (lane_count k) j new_lane new_lane (bare-lane N j) (bare-lane N j);
  events = λ port. each-replicate (AreAll (IsOf N (new_node k) port)) port_count port None None tt tt;
}

new-noted : (n : Network) → IsNoted (λ h port token. None) (new_world n)
new-noted n = record { hosts = λ h. each-replicate (Noted (λ port token. None)) (length n.hosts) h (new_node (length n.hosts)) (new_node 0) (new-node-noted (λ port token. None) (length n.hosts)) (new-node-noted (λ port token. None) 0) }

reached-noted : (n : Network) (w : WorldState) (is : IsReached n w) → IsNoted (λ h port token. noted_in h port token (new_world n) is.acts None) w
reached-noted n w is =
    subst (IsNoted (λ h port token. noted_in h port token (new_world n) is.acts None)) (sym is.leads) (all-noted n (new_world n) is.acts (λ h port token. None) (reached-new n is.fabric) is.may (new-noted n))

pub events-of_tokens : SentEventsAreOfTokens
events-of_tokens n w is h port place p t buffer e d =
    let m : NodeState = node_at w h in
    let N : ℕ → ℕ → Option Note = λ port token. noted_in h port token (new_world n) is.acts None in
    let here : IsOf N m port (Sent t buffer) = event-at (IsOf N m port) p.events place (Sent t buffer) (subst (AreAll (IsOf N m port)) e (((IsNoted.hosts (reached-noted n w is)) h).events port)) d in
    let k : ℕ = here.of.lane in
    let same : lane_at m k ≡ lane_at m (sending_lane (sends_on h k)) = ap (lane_at m) (sym (lane_of-parts k)) in
    record {
      of = here.of;
      known = here.known;
      there = subst (λ (l : LaneState). slice_get l.sent here.of.place ≡ Some here.of.message) same here.there;
      acknowledged = subst (λ (l : LaneState). here.of.place < whole_below l.sent l.sender.base) same here.acknowledged;
      from_port = here.from_port;
      bytes = here.bytes;
    }

-- what a poll hands out as sent stands first in the queue
record IsFirst (o : Option PortState) (t : ℕ) : Type 0 where
  state : PortState
  buffer : List ℕ
  open_port : o ≡ Some state
  first : slice_get state.events 0 ≡ Some (Sent t buffer)

polled-first : (n : NodeState) (port t : ℕ) (c : Option ClientState) → (polled_by n port c).said ≡ SaidSent t → IsFirst (port_at n port) t
unfolding polled_by
polled-first n port t c d = by c (port_at n port) refl d
  where
    token-of : (u : ℕ) → SaidSent u ≡ SaidSent t → u ≡ t
    token-of u e = cc

    handed : (p : PortState) (b : ClientState) (o : Option PortEvent) → port_at n port ≡ Some p → next_event p ≡ o → (handed_out n port p b o).said ≡ SaidSent t → IsFirst (port_at n port) t
    handed p b None e f g = cc
    handed p b (Some (Received u buffer from sport prio len)) e f g = cc
    handed p b (Some (Sent u buffer)) e f g = record { state = p; buffer = buffer; open_port = e; first = f ∙ ap (λ k. Some (Sent k buffer)) (token-of u g) }

    by : (c : Option ClientState) (o : Option PortState) → port_at n port ≡ o → (poll_open n port c o).said ≡ SaidSent t → IsFirst (port_at n port) t
    by (Some b) (Some p) e g = handed p b (next_event p) e refl g
    by (Some b) None e g = cc
    by None o e g = cc

pub polls-of_tokens : PolledTokensAreOfMessages
polls-of_tokens n w is h port t e =
    let first : IsFirst (port_at (node_at w h) port) t = polled-first (node_at w h) port t (client_at w h port) (said-of (polled_by (node_at w h) port (client_at w h port)).said e) in
    (first.buffer, events-of_tokens n w is h port 0 first.state t first.buffer first.open_port first.first)
  where
    said-of : (x : Said) → Says x ≡ Says (SaidSent t) → x ≡ SaidSent t
    said-of x d = cc
