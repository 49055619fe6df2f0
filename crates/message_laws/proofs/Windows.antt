-- Every act leaves each connection its window, and each packet that says no number beyond it.
use Rattle.std.proofs.Common.{◌≡◌, ◌+◌, ◌≤◌, ◌<◌, ◌^◌, ◌&&◌, ℕ, Bool, true, false, pos, List, ◌∷◌, ◌++◌, length, max, get_or, set, nat_eq, nat_lt, Ok, Err, inl, inr, refl, sym, ap, ◌∙◌, subst, arith, true≢false, if◌then◌else◌}
use Rattle.std.proofs.lemmas.Bool.Decides.{nat_tests}
use Rattle.std.proofs.lemmas.Nat.{from_be_bytes-to_be_bytes_2, from_be_bytes-to_be_bytes_4}
use Rattle.std.proofs.lemmas.List.{get_or-set_same, get_or_past}
use Rattle.net_defs.specs.Network.{Network, IsFabric}
use Rattle.packet_defs.specs.declared.kind.Kind.{Kind}
use Rattle.packet_defs.specs.declared.kind.Kind.TheVariants.{Mapping, Gm}
use Rattle.world_defs.specs.Links.{Held}
use Rattle.gm_defs.specs.declared.frame.FrameHead.{FrameHead}
use Rattle.gm_defs.specs.declared.frame.Ack.{Ack}
use Rattle.gm_defs.specs.declared.frame.ConnectionKey.{ConnectionKey}
use Rattle.gm_defs.specs.declared.frame.GmBody.TheVariants.{Frame, Ack as Acknowledges}
use Rattle.gm_defs.specs.Body.{is_prio, head_in, ack_in, ack_length, frame_bytes, ack_bytes, begins_with, is_frame, is_ack}
use Rattle.world_defs.specs.Mapping.{mapping_bytes}
use Rattle.world_defs.specs.Mapping.MappingBody.{HostProbe, HostReply, Loopback, Part, PartAck}
use Rattle.gm_defs.specs.Fragment.{whole_below, head_of}
use Rattle.gm_defs.specs.Connection.{SenderState, connection, key_of, ack_on, window}
use Rattle.gm_defs.proofs.Choices.{both, chosen}
use Rattle.world_defs.specs.Lane.{LaneState, new_lane, lane_sent_one}
use Rattle.world_defs.specs.Node.{NodeState, Outgoing, Probe, TablePart, Reply, PartAnswer, FrameAnswer, Fragment, lane_count, prio_place, lane_of, peer_of, prio_of, sending_lane, taking_lane, sends_on, takes_from, lane_at, with_lane, way_back, packet_for, after_sending, new_node}
use Rattle.world_defs.specs.World.{WorldState, new_world, node_at}
use Rattle.world_defs.specs.Traffic.{sender_on, taken_on}
use Rattle.world_laws.specs.Shape.{HasSenders}
use Rattle.world_laws.proofs.Shapes.{step-kept, new-senders, adopted-senders, planned-senders}
use Rattle.world_defs.specs.Acts.{Act, Happens, Plans, Adopts, acted, MayAct, IsReached}
use Rattle.table_laws.specs.Packets.{Built, IsHonest}
use Rattle.table_laws.proofs.Medium.{Holds, weaker-holds, empty-holds, carries-honest}
use Rattle.world_defs.proofs.Lanes.{lane_of-parts, lane_of-place, facing, facing-taking, facing-sending}
use Rattle.gm_defs.proofs.Numbers.{next-fragment}
use Rattle.message_laws.proofs.Lanes.{frame-fragment}
use Rattle.message_laws.proofs.Frames.{at-place}
use Rattle.message_laws.proofs.Worlds.{IsOrdered, acted-ordered, new-ordered}
use Rattle.message_laws.specs.Windows.{WindowsHold}
use Rattle.message_laws.proofs.Sends.{IsOut, to_send-out}
use Rattle.message_laws.proofs.Hosts.{Rules, Goes, acted-goes}
use Rattle.table_laws.proofs.Keeping.{new-honest, honest-more, HoldsOfNew, acted-holds}
use Rattle.world_defs.proofs.Lists.{each-replicate}
use Rattle.world_defs.proofs.Reaching.{reached-has}
use Rattle.world_defs.proofs.ActsKept.{may-byte}
use Rattle.message_laws.proofs.Numbers.{IsWithin, SaysWithin, says-more, due-number, sending, taking, NodeGoes, node-same, hear-goes, sends-goes, expires-goes, call-goes}

-- one past the greatest number that a host ever sent by a lane
abbrev pub tops : WorldState → ℕ → ℕ → ℕ
tops w h lane = (lane_at (node_at w h) lane).sender.top

-- how many fragments a host has taken by a lane
abbrev pub takens : WorldState → ℕ → ℕ → ℕ
takens w h lane = (lane_at (node_at w h) lane).taken

-- bodies that say no number beyond what was sent and what was taken
abbrev pub numbers_of : WorldState → Kind → List ℕ → Type 0
numbers_of w = SaysWithin (sending (tops w)) (taking (takens w))

-- what was taken lies between what is acknowledged and what was sent, which is a window at most
pub record IsBetween (s : SenderState) (taken : ℕ) : Type 0 where
  pub base_below : s.base ≤ taken
  pub taken_below : taken ≤ s.top
  pub few : s.top ≤ s.base + window

-- the invariant
pub record IsWindowed (w : WorldState) : Type 0 where
  pub ordered : IsOrdered w
  pub senders : HasSenders w
  pub links : Holds (λ c. IsHonest (numbers_of w)) w.links
  pub connections : (c : ConnectionKey) → IsBetween (sender_on w c) (taken_on w c)

-- the hosts
abbrev HostGoes : WorldState → ℕ → NodeState → NodeState → Type 0
HostGoes w h n m = NodeGoes (facing (tops w) h) (facing (takens w) h) n m

number-rules : (w : WorldState) → Rules w (numbers_of w) (HostGoes w)
number-rules w = record {
  quiet = λ h m e f. node-same (facing (tops w) h) (facing (takens w) h) (node_at w h) m e;
  hears = λ h wire good. hear-goes (tops w) (takens w) h _ (node_at w h) wire good;
  sends = λ h out e. sends-goes (facing (tops w) h) (facing (takens w) h) (node_at w h) h out e;
  expires = λ h peer. expires-goes (facing (tops w) h) (facing (takens w) h) (node_at w h) peer;
  calls = λ h port call k. call-goes (facing (tops w) h) (facing (takens w) h) k;
}

-- what is read of what was written
frame-read : (top taken : ConnectionKey → ℕ) (h : FrameHead) (part : List ℕ) → h.src < 2 ^ 16 → h.dst < 2 ^ 16 → h.seq < 2 ^ 32 → h.seq < top (key_of (Frame h)) → SaysWithin top taken Gm (frame_bytes h part)
frame-read top taken h part s d q low b e =
    let body : List ℕ = frame_bytes h part in
    let src : (head_in body).src ≡ h.src = from_be_bytes-to_be_bytes_2 h.src s in
    let dst : (head_in body).dst ≡ h.dst = from_be_bytes-to_be_bytes_2 h.dst d in
    let seq : (head_in body).seq ≡ h.seq = from_be_bytes-to_be_bytes_4 h.seq q in
    let key : key_of (Frame (head_in body)) ≡ key_of (Frame h) = λ i. connection (src i) (dst i) h.prio in
    let read : (head_in body).seq < top (key_of (Frame (head_in body))) = subst (λ x. x < top (key_of (Frame (head_in body)))) (sym seq) (subst (λ k. h.seq < top k) (sym key) low) in
    elim (chosen (is_frame body) (Ok (Frame (head_in body))) (if is_ack body then Ok (Acknowledges (ack_in body)) else Err (record {})) (Ok b) e) [
      | inl p ↦ let same : Frame (head_in body) ≡ b = cc in subst (IsWithin top taken) same read
      | inr p ↦ elim (chosen (is_ack body) (Ok (Acknowledges (ack_in body))) (Err (record {})) (Ok b) p.1) [
        | inl q ↦
            let first = both (nat_eq (length body) ack_length && begins_with 2 body) (is_prio (ack_in body).prio) q.0 in
            absurd (true≢false (sym (both (nat_eq (length body) ack_length) (begins_with 2 body) first.0).1))
        | inr q ↦ absurd cc
      ]
    ]

ack-read : (top taken : ConnectionKey → ℕ) (a : Ack) → a.src < 2 ^ 16 → a.dst < 2 ^ 16 → a.next < 2 ^ 32 → a.next ≤ taken (key_of (Acknowledges a)) → SaysWithin top taken Gm (ack_bytes a)
ack-read top taken a s d q low b e =
    let body : List ℕ = ack_bytes a in
    let src : (ack_in body).src ≡ a.src = from_be_bytes-to_be_bytes_2 a.src s in
    let dst : (ack_in body).dst ≡ a.dst = from_be_bytes-to_be_bytes_2 a.dst d in
    let next : (ack_in body).next ≡ a.next = from_be_bytes-to_be_bytes_4 a.next q in
    let key : key_of (Acknowledges (ack_in body)) ≡ key_of (Acknowledges a) = λ i. connection (dst i) (src i) a.prio in
    let read : (ack_in body).next ≤ taken (key_of (Acknowledges (ack_in body))) = subst (λ x. x ≤ taken (key_of (Acknowledges (ack_in body)))) (sym next) (subst (λ k. a.next ≤ taken k) (sym key) low) in
    elim (chosen (is_ack body) (Ok (Acknowledges (ack_in body))) (Err (record {})) (Ok b) e) [
      | inl p ↦ let same : Acknowledges (ack_in body) ≡ b = cc in subst (IsWithin top taken) same read
      | inr p ↦ absurd cc
    ]

-- a host that has a lane is there
host-there : (w : WorldState) (h lane : ℕ) → lane < length (node_at w h).lanes → h < length w.nodes
host-there w h lane low = by (nat_lt h (length w.nodes)) refl
  where
    by : (b : Bool) → nat_lt h (length w.nodes) ≡ b → h < length w.nodes
    by true e = grind (arith, nat_tests)
    by false e =
        let past : length w.nodes ≤ h = grind (arith, nat_tests) in
        let none : length (node_at w h).lanes ≡ 0 = ap (λ n. length n.lanes) (get_or_past w.nodes h (new_node 0) past) in
        absurd (omega (arith, low, none))

lane-after : (w v : WorldState) (h lane : ℕ) (q : LaneState) → lane < length (node_at w h).lanes → v.nodes ≡ set w.nodes h (with_lane (node_at w h) lane q) → lane_at (node_at v h) lane ≡ q
lane-after w v h lane q low e =
    let n : NodeState = node_at w h in
    let node : node_at v h ≡ with_lane n lane q = ap (λ l. get_or l h (new_node 0)) e ∙ get_or-set_same w.nodes h (with_lane n lane q) (new_node 0) (host-there w h lane low) in
    ap (λ x. lane_at x lane) node ∙ get_or-set_same n.lanes lane q new_lane low

-- what is sent says no number beyond
packet-within : (w v : WorldState) (h number : ℕ) (out : Outgoing) → IsWindowed w → ((c : ConnectionKey) → taken_on w c ≤ taken_on v c) → IsOut h (node_at w h) out → v.nodes ≡ set w.nodes h (after_sending (node_at w h) out) → Built (numbers_of v) (packet_for h number out)
unfolding packet_for after_sending
packet-within w v h number (Probe walk true) is more out e = record { route = walk ++ pos 0 ∷ way_back walk; kind = Mapping; payload = mapping_bytes (Loopback number h); written = refl; good = tt }
packet-within w v h number (Probe walk false) is more out e = record { route = walk; kind = Mapping; payload = mapping_bytes (HostProbe number h (way_back walk)); written = refl; good = tt }
packet-within w v h number (TablePart part by) is more out e = record { route = by; kind = Mapping; payload = mapping_bytes (Part part); written = refl; good = tt }
packet-within w v h number (Reply r) is more out e = record { route = r.back; kind = Mapping; payload = mapping_bytes (HostReply r.number h); written = refl; good = tt }
packet-within w v h number (PartAnswer a) is more out e = record { route = a.back; kind = Mapping; payload = mapping_bytes (PartAck a.epoch h a.part); written = refl; good = tt }
packet-within w v h number (FrameAnswer lane next by) is more out e =
    let c : ConnectionKey = takes_from h lane in
    let fits = (is.ordered.hosts h).fits lane out.0 in
    let here : taken_on w c ≡ takens w h lane = ap (takens w h) (lane_of-parts lane) in
    let now : next ≡ takens w h lane = out.1 in
    let below = (is.connections c).taken_below in
    let sender = is.senders.in_order c.src (sending_lane c) in
    let top = sender.top_below in
    let range = sender.in_range in
    let rises = more c in
    record {
      route = by;
      kind = Gm;
      payload = ack_bytes (ack_on c next);
      written = refl;
      good = ack-read (sending (tops v)) (taking (takens v)) (ack_on c next) fits.0 fits.1 (omega (arith, now, here, below, top, range)) (omega (arith, now, here, rises));
    }
packet-within w v h number (Fragment lane head part by) is more out e =
    let c : ConnectionKey = sends_on h lane in
    let fits = (is.ordered.hosts h).fits lane out.low in
    let numbered = (is.ordered.hosts h).lanes lane in
    let l : LaneState = lane_at (node_at w h) lane in
    let s : SenderState = l.sender in
    let d = due-number s out.number out.due in
    let now = d.is in
    let offered = d.offered in
    let range = (is.senders.in_order h lane).in_range in
    let k = frame-fragment c l.sent out.number (head, part) out.frame in
    let x = next-fragment l.sent out.number k.fragment k.there in
    let hd : FrameHead = head_of c out.number k.fragment in
    let same : head ≡ hd = ap (λ x. x.0) k.is in
    let mine : lane_of (peer_of lane) k.fragment.message.prio ≡ lane = lane_of-place lane k.fragment.message.prio (at-place (λ m. prio_place m.prio ≡ prio_of lane) l.sent (whole_below l.sent out.number) k.fragment.message numbered.of_prio x.there) in
    let there : lane_at (node_at v h) lane ≡ lane_sent_one l = lane-after w v h lane (lane_sent_one l) out.low e in
    let top : sending (tops v) (key_of (Frame hd)) ≡ max s.top (s.cursor + 1) = ap (tops v h) mine ∙ ap (λ x. x.sender.top) there in
    record {
      route = by;
      kind = Gm;
      payload = frame_bytes head part;
      written = refl;
      good = subst (λ x. SaysWithin (sending (tops v)) (taking (takens v)) Gm (frame_bytes x part)) (sym same)
          (frame-read (sending (tops v)) (taking (takens v)) hd part fits.0 fits.1 (omega (arith, now, offered, range)) (omega (arith, now, top)));
    }

acted-senders : (w : WorldState) (a : Act) → HasSenders w → HasSenders (acted w a)
acted-senders w (Happens e) is = (step-kept w e).senders is
acted-senders w (Plans ahead fault) is = planned-senders w ahead fault is
acted-senders w (Adopts mapper routes) is = adopted-senders w mapper routes is

acted-windowed : (w : WorldState) (a : Act) → MayAct w a → IsWindowed w → IsWindowed (acted w a)
acted-windowed w a may is =
    let v : WorldState = acted w a in
    let g : Goes (HostGoes w) w v = acted-goes w (numbers_of w) (HostGoes w) (number-rules w) a is.links in
    let F : ℕ → Held → Type 0 = λ c. IsHonest (numbers_of v) in
    let top_rises : (c : ConnectionKey) → sending (tops w) c ≤ sending (tops v) c = λ c. ((g.nodes c.src).lanes (sending_lane c)).top_rises in
    let taken_rises : (c : ConnectionKey) → taking (takens w) c ≤ taking (takens v) c = λ c. ((g.nodes c.dst).lanes (taking_lane c)).taken_rises in
    let new : HoldsOfNew F w v = λ h c out i. new-honest (numbers_of v) (packet_for h (w.injected + 1) out) (packet-within w v h (w.injected + 1) out is taken_rises (to_send-out h (node_at w h) out i.sends) i.nodes) in
    let still : Holds F w.links = weaker-holds (λ c. IsHonest (numbers_of w)) F w.links (λ c held. honest-more (numbers_of w) (numbers_of v) held (says-more (sending (tops w)) (taking (takens w)) (sending (tops v)) (taking (takens v)) top_rises taken_rises)) is.links in
    record {
      ordered = acted-ordered w a (may-byte w a may) is.ordered;
      senders = acted-senders w a is.senders;
      links = acted-holds F w (carries-honest w.links.cables (numbers_of v)) still is.ordered.plan a (may-byte w a may) new;
      connections = λ c.
          let s = (g.nodes c.src).lanes (sending_lane c) in
          let r = (g.nodes c.dst).lanes (taking_lane c) in
          let base = s.base in
          let below = r.below in
          let top = s.top_rises in
          let taken = r.taken_rises in
          let was = is.connections c in
          let was_base = was.base_below in
          let was_taken = was.taken_below in
          let facing_taken : facing (takens w) c.src (sending_lane c) ≡ taken_on w c = facing-sending (takens w) c in
          let facing_top : facing (tops w) c.dst (taking_lane c) ≡ (sender_on w c).top = facing-taking (tops w) c in
          record {
            base_below = omega (arith, base, was_base, taken, facing_taken);
            taken_below = omega (arith, below, was_taken, top, facing_top);
            few = s.few was.few;
          };
    }

-- the new world
new-lanes : (n : Network) (h lane : ℕ) → lane_at (node_at (new_world n) h) lane ≡ new_lane
new-lanes n h lane =
    let k : ℕ = length n.hosts in
    each-replicate (λ x. lane_at x lane ≡ new_lane) k h (new_node k) (new_node 0) (each-replicate (λ x. x ≡ new_lane) (lane_count k) lane new_lane new_lane refl refl) refl

pub new-windowed : (n : Network) → IsFabric n → IsWindowed (new_world n)
new-windowed n f = record {
  ordered = new-ordered n f;
  senders = new-senders n;
  links = empty-holds (λ c. IsHonest (numbers_of (new_world n))) n;
  connections = λ c.
      subst (λ l. IsBetween l.sender (taken_on (new_world n) c)) (sym (new-lanes n c.src (sending_lane c)))
      (subst (λ l. IsBetween new_lane.sender l.taken) (sym (new-lanes n c.dst (taking_lane c))) (record { base_below = omega arith; taken_below = omega arith; few = omega arith }));
}

pub reached-windowed : (n : Network) (w : WorldState) → IsReached n w → IsWindowed w
reached-windowed n w is = reached-has IsWindowed n (new-windowed n is.fabric) (λ w a r. acted-windowed w a) w is

pub windows-hold : WindowsHold
windows-hold n w is c =
    let r = reached-windowed n w is in
    let p = r.connections c in
    record { numbers = r.senders.in_order c.src (sending_lane c); base_below = p.base_below; taken_below = p.taken_below; few = p.few }
