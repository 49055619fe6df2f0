-- Through a pass the fragment stays, or its frame or an acknowledgement of it is on its way, and comes to its host.
use Rattle.std.proofs.Common.{◌≡◌, ◌≢◌, ◌<◌, ◌≤◌, ◌^◌, ℕ, Bool, true, false, ◌&&◌, List, [], length, get_or, set, max, nat_eq, nat_lt, nat_le, refl, sym, ap, ◌∙◌, subst, arith, true≢false, if◌then◌else◌}
use Rattle.std.proofs.lemmas.Bool.Decides.{nat_tests}
use Rattle.std.proofs.lemmas.List.{get_or-set_same}
use Rattle.net_defs.specs.Network.{Network}
use Rattle.packet_defs.specs.declared.kind.Kind.TheVariants.{Gm}
use Rattle.packet_defs.specs.Packet.{packet_of}
use Rattle.gm_defs.specs.declared.token.Took.{Took}
use Rattle.gm_defs.specs.declared.token.Took.TheVariants.{NotNext, NoToken, Part, Whole}
use Rattle.gm_defs.specs.declared.frame.Ack.{Ack}
use Rattle.gm_defs.specs.declared.frame.ConnectionKey.{ConnectionKey}
use Rattle.gm_defs.specs.Body.{is_prio, is_last, frame_bytes, ack_bytes}
use Rattle.gm_defs.specs.Fragment.{Fragment as FragmentOf, head_of}
use Rattle.gm_defs.specs.Connection.{SenderState, connection, ack_on, is_taken, acknowledged, taken_as, taken_after}
use Rattle.world_defs.specs.Lane.{LaneState, new_lane, lane_acknowledged, tickets_finished, lane_after}
use Rattle.world_defs.specs.Node.{NodeState, prio_place, lane_of, sending_lane, taking_lane, lane_at, with_lane, port_at, new_node}
use Rattle.world_defs.specs.Hearing.{port_takes, port_fits, message_of, frame_heard, frame_took, ack_heard, hear}
use Rattle.world_defs.specs.World.{WorldState, host_count, node_at}
use Rattle.world_defs.specs.Traffic.{sender_on, taken_on}
use Rattle.world_defs.proofs.Hearings.{all_finished-lanes, delivered_after-lanes}
use Rattle.settle_laws.proofs.Views.{AdvanceOf}
use Rattle.settle_laws.proofs.Ways.{OnWay, WentOn, advance-way}
use Rattle.settle_laws.proofs.Frames.{frame-heard, ack-heard}
use Rattle.settle_laws.proofs.Refused.{IsRefused, refused}
use Rattle.settle_laws.proofs.CalmWorlds.{WorldCalm}
use Rattle.settle_laws.proofs.Still.{Still, calm-taken, calm-still}
use Rattle.settle_laws.proofs.Facts.{Facts, IsReadable, world-of, window-of, peer-low, host-low, fits-of, lane-of, rules-of}

-- the frame of the fragment
abbrev pub frame_payload : ConnectionKey → ℕ → FragmentOf → List ℕ
frame_payload key k fragment = frame_bytes (head_of key k fragment) fragment.part

-- an acknowledgement of so many fragments, as the lane of the connection writes it
abbrev pub ack_of : ConnectionKey → ℕ → Ack
ack_of key next = ack_on (connection key.src key.dst (prio_place key.prio)) next

abbrev pub ack_payload : ConnectionKey → ℕ → List ℕ
ack_payload key next = ack_bytes (ack_of key next)

place-prio : (prio : ℕ) → is_prio (prio_place prio) ≡ true
place-prio prio = let low : prio_place prio < 2 = omega arith in grind (arith, nat_tests)

place-again : (peer prio : ℕ) → lane_of peer (prio_place prio) ≡ lane_of peer prio
place-again peer prio = omega arith

-- it stays, or its frame or an acknowledgement is on its way
pub data Lively (key : ConnectionKey) (k : ℕ) (fragment : FragmentOf) (v : WorldState) : Type 0 where
  still : Still key k fragment v → Lively key k fragment v
  frame : OnWay (frame_payload key k fragment) key.dst v → Lively key k fragment v
  ack : (next : ℕ) → k < next → next ≤ taken_on v key → OnWay (ack_payload key next) key.src v → Lively key k fragment v

module _ (n : Network) (key : ConnectionKey) (k : ℕ) (fragment : FragmentOf) (w v : WorldState) (f : Facts n key k fragment w) where
  -- the host after a frame of the fragment, and the frame's lane there
  abbrev taker : NodeState
  taker = node_at w key.dst

  abbrev here : ℕ
  here = lane_of key.src fragment.message.prio

  same-lane : here ≡ taking_lane key
  same-lane = lane-of n key k fragment w f

  abbrev fits : Bool
  fits = port_takes (port_at taker fragment.message.dport) (head_of key k fragment)

  abbrev lane_then : Took → LaneState
  lane_then t = lane_after (lane_at taker here) t (message_of (head_of key k fragment) fragment.part)

  abbrev node_then : Took → NodeState
  node_then t = (frame_heard taker (head_of key k fragment) fragment.part t).1

  lane-there : (t : Took) → lane_at (node_then t) here ≡ lane_then t
  lane-there t =
      ap (λ l. get_or l here new_lane) (delivered_after-lanes (with_lane taker here (lane_then t)) (head_of key k fragment) fragment.part t)
      ∙ get_or-set_same taker.lanes here (lane_then t) new_lane (subst (λ x. x < length taker.lanes) (sym same-lane) (host-low n key k fragment w f))

  now-there : (t : Took) → node_at v key.dst ≡ node_then t → lane_at (node_at v key.dst) (taking_lane key) ≡ lane_then t
  now-there t e = ap (lane_at (node_at v key.dst)) (sym same-lane) ∙ (ap (λ x. lane_at x here) e ∙ lane-there t)

  taken-before : taken_on w key ≡ (lane_at taker here).taken
  taken-before = ap (λ x. (lane_at taker x).taken) (sym same-lane)

  taken-then : (t : Took) → node_at v key.dst ≡ node_then t → taken_on v key ≡ taken_after (lane_at taker here).taken t
  taken-then t e = ap (λ x. x.taken) (now-there t e)

  owes-then : (t : Took) → node_at v key.dst ≡ node_then t → (lane_at (node_at v key.dst) (taking_lane key)).owes ≡ true
  owes-then t e = ap (λ x. x.owes) (now-there t e)

  abbrev took : (x y last : Bool) → Took
  took x y last = if x then if y then taken_as last else NoToken else NotNext

  taker-still : fragment.message.prio < 2 → (x y last : Bool) → nat_eq k (lane_at taker here).taken ≡ x → fits ≡ y → node_at v key.dst ≡ node_then (took x y last) → Still key k fragment v
  taker-still small true true true e g at =
      let same : k ≡ (lane_at taker here).taken = grind (arith, nat_tests) in
      let now = taken-then Whole at in
      Still.owed (omega (arith, same, now)) (owes-then Whole at)
  taker-still small true true false e g at =
      let same : k ≡ (lane_at taker here).taken = grind (arith, nat_tests) in
      let now = taken-then Part at in
      Still.owed (omega (arith, same, now)) (owes-then Part at)
  taker-still small true false last e g at =
      let same : k ≡ (lane_at taker here).taken = grind (arith, nat_tests) in
      let now = taken-then NoToken at in
      let is : IsRefused (port_at taker fragment.message.dport) fragment = refused n key k fragment w f small (taken-before ∙ sym same) g in
      Still.waits (omega (arith, same, now)) is.first (ap (λ x. port_fits (port_at x fragment.message.dport) (length fragment.message.body) fragment.message.prio) at ∙ is.none_fits)
  taker-still small false y last e g at =
      let other : k ≢ (lane_at taker here).taken = grind (arith, nat_tests) in
      let now = taken-then NotNext at in
      let was = taken-before in
      let below = (window-of n key k fragment w f).base_below in
      let low = f.low in
      Still.owed (omega (arith, other, now, was, below, low)) (owes-then NotNext at)

  pub frame-lands : IsReadable fragment.message → v.nodes ≡ set w.nodes key.dst (hear key.dst (host_count w) (node_at w key.dst) (packet_of [] Gm (frame_payload key k fragment))).1 → Still key k fragment v
  frame-lands r e =
      let heard = frame-heard (host_count w) key k taker fragment (rules-of n key k fragment w f r) f.host in
      let at : node_at v key.dst ≡ node_then (frame_took taker (head_of key k fragment)) = ap (λ l. get_or l key.dst (new_node 0)) e ∙ get_or-set_same w.nodes key.dst _ (new_node 0) f.peer ∙ heard in
      taker-still r.priority (nat_eq k (lane_at taker here).taken) fits (is_last (length fragment.message.body) fragment.offset) refl refl at

  -- the host after an acknowledgement
  pub ack-lands : (next : ℕ) → k < next → next ≤ taken_on w key → v.nodes ≡ set w.nodes key.src (hear key.src (host_count w) (node_at w key.src) (packet_of [] Gm (ack_payload key next))).1 → Still key k fragment v
  ack-lands next more most e = Still.risen (subst (λ s. k < s.base) (sym sender) (by (is_taken s next) refl))
    where
      sent : NodeState
      sent = node_at w key.src

      -- the acknowledgement's lane
      lane : ℕ
      lane = lane_of key.dst (prio_place key.prio)

      same : lane ≡ sending_lane key
      same = place-again key.dst key.prio

      low : lane < length sent.lanes
      low = subst (λ x. x < length sent.lanes) (sym same) (peer-low n key k fragment w f)

      s : SenderState
      s = (lane_at sent lane).sender

      sender-before : sender_on w key ≡ s
      sender-before = ap (λ x. (lane_at sent x).sender) (sym same)

      fit : next < 2 ^ 32
      fit =
          let win = window-of n key k fragment w f in
          let c = win.taken_below in
          let d = win.numbers.top_below in
          let g = win.numbers.in_range in
          omega (arith, most, c, d, g)

      known : nat_le next s.top ≡ true
      known =
          let c = (window-of n key k fragment w f).taken_below in
          let top : (sender_on w key).top ≡ s.top = ap (λ x. x.top) sender-before in
          let h : next ≤ s.top = omega (arith, most, c, top) in
          grind (arith, nat_tests)

      heard : (hear key.src (host_count w) sent (packet_of [] Gm (ack_payload key next))).1 ≡ ack_heard sent (ack_of key next)
      heard = let two = fits-of n key k fragment w f in ack-heard key.src (host_count w) sent (ack_of key next) two.1 two.0 (place-prio key.prio) fit refl f.peer

      q : LaneState
      q = lane_acknowledged (lane_at sent lane) next

      at : node_at v key.src ≡ ack_heard sent (ack_of key next)
      at = ap (λ l. get_or l key.src (new_node 0)) e ∙ get_or-set_same w.nodes key.src _ (new_node 0) f.host ∙ heard

      there : lane_at (ack_heard sent (ack_of key next)) lane ≡ q
      there = ap (λ l. get_or l lane new_lane) (all_finished-lanes (with_lane sent lane q) (tickets_finished (lane_at sent lane) next)) ∙ get_or-set_same sent.lanes lane q new_lane low

      sender : sender_on v key ≡ acknowledged s next
      sender = ap (λ x. (lane_at (node_at v key.src) x).sender) (sym same) ∙ (ap (λ x. (lane_at x lane).sender) at ∙ ap (λ p. p.sender) there)

      refused : (t u : Bool) → (t && u) ≡ false → u ≡ true → t ≡ false
      refused true u d g = absurd (true≢false (sym g ∙ d))
      refused false u d g = refl

      by : (t : Bool) → is_taken s next ≡ t → k < (if t then record s { base = next; cursor = max s.cursor next } else s).base
      by true g = more
      by false g = let no = refused (nat_lt s.base next) (nat_le next s.top) g known in let high : next ≤ s.base = grind (arith, nat_tests) in omega (arith, more, high)

  -- an advance
  pub advance-lively : IsReadable fragment.message → (c : ℕ) → AdvanceOf w c v → WorldCalm w v → v.links.cables ≡ w.links.cables → Lively key k fragment w → Lively key k fragment v
  advance-lively r c d calm same (Lively.still s) = Lively.still (calm-still key k fragment w v calm f.low s)
  advance-lively r c d calm same (Lively.frame o) = by (advance-way (frame_payload key k fragment) key.dst w v c (world-of n key k fragment w f).links same o d)
    where
      by : WentOn (frame_payload key k fragment) key.dst w v → Lively key k fragment v
      by (WentOn.on x) = Lively.frame x
      by (WentOn.heard e) = Lively.still (frame-lands r e)
  advance-lively r c d calm same (Lively.ack next more most o) = by (advance-way (ack_payload key next) key.src w v c (world-of n key k fragment w f).links same o d)
    where
      by : WentOn (ack_payload key next) key.src w v → Lively key k fragment v
      by (WentOn.on x) = let up = calm-taken w v key calm in Lively.ack next more (omega (arith, most, up)) x
      by (WentOn.heard e) = Lively.still (ack-lands next more most e)
