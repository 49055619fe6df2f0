-- An injection after a give-up: the fragment stays, or its frame or an acknowledgement of it begins its way.
use Rattle.std.proofs.Common.{◌≡◌, ◌≢◌, ◌<◌, ◌≤◌, ◌+◌, ℕ, Bool, true, false, ℤ, List, length, get_or, set, nat_eq, Some, None, option_map, refl, sym, ap, ◌∙◌, subst, arith}
use Rattle.std.proofs.lemmas.Bool.Decides.{nat_tests}
use Rattle.std.proofs.lemmas.List.{get_or-set_other}
use Rattle.std.proofs.lemmas.Option.{same_Some}
use Rattle.net_defs.specs.Network.{Network}
use Rattle.net_defs.specs.Route.{host_port}
use Rattle.world_defs.specs.Crossed.{leaving}
use Rattle.world_defs.proofs.ForLife.{leaving_has_its_end}
use Rattle.packet_defs.specs.declared.kind.Kind.TheVariants.{Gm}
use Rattle.packet_defs.specs.Packet.{packet_of}
use Rattle.world_defs.specs.Links.{Held, packet_in, with_packet}
use Rattle.gm_defs.specs.declared.frame.FrameHead.{FrameHead}
use Rattle.gm_defs.specs.declared.frame.ConnectionKey.{ConnectionKey}
use Rattle.gm_defs.specs.Body.{frame_bytes, ack_bytes}
use Rattle.gm_defs.specs.Fragment.{Fragment as FragmentOf, head_of, frame_of}
use Rattle.gm_defs.specs.Connection.{connection, ack_on}
use Rattle.world_defs.specs.declared.effect.Effect.{Effect}
use Rattle.world_defs.specs.Table.{table_route}
use Rattle.world_defs.specs.Lane.{LaneState, new_lane, lane_sent_one, lane_answered}
use Rattle.world_defs.specs.Node.{NodeState, peer_of, prio_of, prio_place, lane_of, sending_lane, taking_lane, sends_on, takes_from, lane_route, Outgoing, Probe, TablePart, Reply, PartAnswer, FrameAnswer, Fragment, lane_at, with_lane, port_at, new_node, packet_for, after_sending}
use Rattle.world_defs.specs.Hearing.{port_fits}
use Rattle.world_defs.specs.World.{WorldState, node_at}
use Rattle.world_defs.specs.Traffic.{is_broken, sender_on, sent_on, taken_on}
use Rattle.world_defs.proofs.Lanes.{peer_of-lane, prio_of-lane}
use Rattle.world_defs.specs.Step.{planned_strikes, sent_out}
use Rattle.world_laws.proofs.Lists.{at-set}
use Rattle.message_laws.proofs.Numbers.{due-number}
use Rattle.settle_laws.proofs.Views.{InjectOf, unstruck-links}
use Rattle.settle_laws.proofs.Leading.{LeadsTo}
use Rattle.settle_laws.proofs.Ways.{OnWay, keep-there, new-there, still-way}
use Rattle.settle_laws.proofs.Staged.{IsOwed, IsDueOn, IsToPeer, to_send-peer, IsBare}
use Rattle.world_defs.proofs.Strikes.{injection-nodes}
use Rattle.settle_laws.proofs.Whole.{IsWhole, table-whole}
use Rattle.settle_laws.proofs.Still.{Still}
use Rattle.settle_laws.proofs.Facts.{Facts, slots-of}
use Rattle.settle_laws.proofs.Lively.{Lively, frame_payload, ack_payload}

-- what sending leaves of a host
record SentCalm (n m : NodeState) : Type 0 where
  base : (p : ℕ) → (lane_at m p).sender.base ≡ (lane_at n p).sender.base
  taken : (p : ℕ) → (lane_at m p).taken ≡ (lane_at n p).taken
  ports : m.ports ≡ n.ports

sent-lane : (n : NodeState) (k : ℕ) (q : LaneState) → q.sender.base ≡ (lane_at n k).sender.base → q.taken ≡ (lane_at n k).taken → SentCalm n (with_lane n k q)
sent-lane n k q e f = record {
  base = λ p. at-set (λ x y. y.sender.base ≡ x.sender.base) (λ x. refl) n.lanes k p q new_lane e;
  taken = λ p. at-set (λ x y. y.taken ≡ x.taken) (λ x. refl) n.lanes k p q new_lane f;
  ports = refl;
}

sent-calm : (n : NodeState) (out : Outgoing) → SentCalm n (after_sending n out)
unfolding after_sending
sent-calm n (Probe walk looped) = record { base = λ p. refl; taken = λ p. refl; ports = refl }
sent-calm n (TablePart part by) = record { base = λ p. refl; taken = λ p. refl; ports = refl }
sent-calm n (Reply r) = record { base = λ p. refl; taken = λ p. refl; ports = refl }
sent-calm n (PartAnswer a) = record { base = λ p. refl; taken = λ p. refl; ports = refl }
sent-calm n (FrameAnswer lane next by) = sent-lane n lane (lane_answered (lane_at n lane)) refl refl
sent-calm n (Fragment lane head part by) = sent-lane n lane (lane_sent_one (lane_at n lane)) refl refl

-- what an acknowledgement that is sent leaves of the sender, and a fragment of the taker
answered-sender : (n : NodeState) (lane next : ℕ) (by : List ℤ) (p : ℕ) → (lane_at (after_sending n (FrameAnswer lane next by)) p).sender ≡ (lane_at n p).sender
unfolding after_sending
answered-sender n lane next by p = at-set (λ x y. y.sender ≡ x.sender) (λ x. refl) n.lanes lane p (lane_answered (lane_at n lane)) new_lane refl

answered-other : (n : NodeState) (lane next : ℕ) (by : List ℤ) (p : ℕ) → p ≢ lane → (lane_at (after_sending n (FrameAnswer lane next by)) p).owes ≡ (lane_at n p).owes
unfolding after_sending
answered-other n lane next by p other = ap (λ x. x.owes) (get_or-set_other n.lanes lane p (lane_answered (lane_at n lane)) new_lane other)

sent-owes : (n : NodeState) (lane : ℕ) (head : FrameHead) (part : List ℕ) (by : List ℤ) (p : ℕ) → (lane_at (after_sending n (Fragment lane head part by)) p).owes ≡ (lane_at n p).owes
unfolding after_sending
sent-owes n lane head part by p = at-set (λ x y. y.owes ≡ x.owes) (λ x. refl) n.lanes lane p (lane_sent_one (lane_at n lane)) new_lane refl

sent-other : (n : NodeState) (lane : ℕ) (head : FrameHead) (part : List ℕ) (by : List ℤ) (p : ℕ) → p ≢ lane → (lane_at (after_sending n (Fragment lane head part by)) p).sender ≡ (lane_at n p).sender
unfolding after_sending
sent-other n lane head part by p other = ap (λ x. x.sender) (get_or-set_other n.lanes lane p (lane_sent_one (lane_at n lane)) new_lane other)

-- their packets
answer-wire : (h number lane next : ℕ) (by : List ℤ) → packet_for h number (FrameAnswer lane next by) ≡ packet_of by Gm (ack_bytes (ack_on (takes_from h lane) next))
unfolding packet_for
answer-wire h number lane next by = refl

fragment-wire : (h number lane : ℕ) (head : FrameHead) (part : List ℕ) (by : List ℤ) → packet_for h number (Fragment lane head part by) ≡ packet_of by Gm (frame_bytes head part)
unfolding packet_for
fragment-wire h number lane head part by = refl

same-number : (x y : ℕ) → nat_eq x y ≡ true → x ≡ y
same-number x y e = grind (arith, nat_tests)

other-number : (x y : ℕ) → nat_eq x y ≡ false → y ≢ x
other-number x y e = grind (arith, nat_tests)

module _ (n : Network) (key : ConnectionKey) (k : ℕ) (fragment : FragmentOf) (w v : WorldState) (f : Facts n key k fragment w) (h c : ℕ) (out : Outgoing) (chan : leaving w.links.cables (host_port h) ≡ Some c) (none : packet_in w.links c ≡ None) (nodes : v.nodes ≡ set w.nodes h (after_sending (node_at w h) out)) (links : v.links ≡ with_packet w.links c (Some (record { wire = packet_for h (w.injected + 1) out; marked = false; born = w.links.epoch }))) (whole : IsWhole key w) where
  kept : v.links.cables ≡ w.links.cables
  kept = ap (λ l. l.cables) links

  -- each host
  over : (P : NodeState → NodeState → Type 0) → ((x : NodeState) → P x x) → P (node_at w h) (after_sending (node_at w h) out) → (j : ℕ) → P (node_at w j) (node_at v j)
  over P same here j = subst (λ l. P (node_at w j) (get_or l j (new_node 0))) (sym nodes) (at-set P same w.nodes h j (after_sending (node_at w h) out) (new_node 0) here)

  calm : (j : ℕ) → SentCalm (node_at w j) (node_at v j)
  calm j = over SentCalm (λ x. record { base = λ p. refl; taken = λ p. refl; ports = refl }) (sent-calm (node_at w h) out) j

  unmoved : (j : ℕ) → j ≢ h → node_at v j ≡ node_at w j
  unmoved j other = ap (λ l. get_or l j (new_node 0)) nodes ∙ get_or-set_other w.nodes h j (after_sending (node_at w h) out) (new_node 0) other

  -- another packet
  other-way : (payload : List ℕ) (to : ℕ) → OnWay payload to w → OnWay payload to v
  other-way payload to o =
      still-way payload to w v o kept (ap (λ l. packet_in l o.channel) links ∙ keep-there w.links c o.channel o.held (Some (record { wire = packet_for h (w.injected + 1) out; marked = false; born = w.links.epoch })) none o.there)

  -- the new packet
  new-way : (payload : List ℕ) (to : ℕ) (walk : List ℤ) → packet_for h (w.injected + 1) out ≡ packet_of walk Gm payload → table_route (node_at w h).table to ≡ Some walk → is_broken w h to ≡ false → OnWay payload to v
  new-way payload to walk wire route unbroken =
      let led = table-whole n w h to walk f.reached route unbroken in
      let same : led.cabled.channel ≡ c = same_Some led.cabled.channel c (sym led.cabled.out ∙ chan) in
      let leads : LeadsTo w.links.cables payload to walk c = subst (LeadsTo w.links.cables payload to walk) same (led.leads payload) in
      let low = (leaving_has_its_end w.links.cables (host_port h) c chan).there in
      let slots = slots-of n key k fragment w f in
      let new : Held = record { wire = packet_for h (w.injected + 1) out; marked = false; born = w.links.epoch } in
      record {
        channel = c;
        turns = walk;
        held = new;
        there = ap (λ l. packet_in l c) links ∙ new-there w.links c new (omega (arith, low, slots));
        wire = wire;
        leads = subst (λ x. LeadsTo x payload to walk c) (sym kept) leads;
      }

  taken-same : taken_on v key ≡ taken_on w key
  taken-same = (calm key.dst).taken (taking_lane key)

  -- what doesn't hang on what is sent
  risen-sent : k < (sender_on w key).base → Still key k fragment v
  risen-sent r = let e = (calm key.src).base (sending_lane key) in Still.risen (omega (arith, r, e))

  waits-sent : taken_on w key ≡ k → fragment.offset ≡ 0 → port_fits (port_at (node_at w key.dst) fragment.message.dport) (length fragment.message.body) fragment.message.prio ≡ false → Still key k fragment v
  waits-sent t o p = Still.waits (taken-same ∙ t) o (ap (λ l. port_fits (get_or l fragment.message.dport None) (length fragment.message.body) fragment.message.prio) (calm key.dst).ports ∙ p)

  -- the route of a lane of the connection
  route-to : (lane peer prio : ℕ) (by : List ℤ) → lane ≡ lane_of peer prio → lane_route (node_at w h) lane ≡ Some by → table_route (node_at w h).table peer ≡ Some by
  route-to lane peer prio by to e = subst (λ x. table_route (node_at w h).table x ≡ Some by) (ap peer_of to ∙ peer_of-lane peer prio) e

  -- an acknowledgement is sent
  answer-here : (lane next : ℕ) (by : List ℤ) → out ≡ FrameAnswer lane next by → IsOwed (node_at w h) lane next by → h ≡ key.dst → lane ≡ taking_lane key → k < taken_on w key → Lively key k fragment v
  answer-here lane next by e is at to t =
      let count : next ≡ taken_on w key = is.count ∙ (ap (λ x. (lane_at (node_at w x) lane).taken) at ∙ ap (λ x. (lane_at (node_at w key.dst) x).taken) to) in
      let peer : peer_of lane ≡ key.src = ap peer_of to ∙ peer_of-lane key.src key.prio in
      let prio : prio_of lane ≡ prio_place key.prio = ap prio_of to ∙ prio_of-lane key.src key.prio in
      let answers : takes_from h lane ≡ connection key.src key.dst (prio_place key.prio) = λ i. connection (peer i) (at i) (prio i) in
      let wire : packet_for h (w.injected + 1) out ≡ packet_of by Gm (ack_payload key next) =
      ap (packet_for h (w.injected + 1)) e ∙ (answer-wire h (w.injected + 1) lane next by ∙ ap (λ x. packet_of by Gm (ack_bytes (ack_on x next))) answers) in
      Lively.ack next (omega (arith, count, t)) (omega (arith, count, taken-same)) (new-way (ack_payload key next) key.src by wire (route-to lane key.src key.prio by to is.route) (subst (λ x. is_broken w x key.src ≡ false) (sym at) whole.back))

  answer-owed : (lane next : ℕ) (by : List ℤ) → out ≡ FrameAnswer lane next by → IsOwed (node_at w h) lane next by → k < taken_on w key → (lane_at (node_at w key.dst) (taking_lane key)).owes ≡ true → Lively key k fragment v
  answer-owed lane next by e is t o = cases (nat_eq h key.dst) (nat_eq lane (taking_lane key)) refl refl
    where
      p : ℕ
      p = taking_lane key

      still : (lane_at (node_at v key.dst) p).owes ≡ (lane_at (node_at w key.dst) p).owes → Lively key k fragment v
      still same = Lively.still (Still.owed (omega (arith, t, taken-same)) (same ∙ o))

      cases : (x y : Bool) → nat_eq h key.dst ≡ x → nat_eq lane p ≡ y → Lively key k fragment v
      cases true true d g = answer-here lane next by e is (same-number h key.dst d) (same-number lane p g) t
      cases false y d g = still (ap (λ x. (lane_at x p).owes) (unmoved key.dst (other-number h key.dst d)))
      cases true false d g =
          still (over (λ x y. (lane_at y p).owes ≡ (lane_at x p).owes) (λ x. refl) (subst (λ z. (lane_at (after_sending (node_at w h) z) p).owes ≡ (lane_at (node_at w h) p).owes) (sym e) (answered-other (node_at w h) lane next by p (other-number lane p g))) key.dst)

  answer-again : (lane next : ℕ) (by : List ℤ) → out ≡ FrameAnswer lane next by → (sender_on w key).cursor ≡ k → Still key k fragment v
  answer-again lane next by e g =
      let p : ℕ = sending_lane key in
      let same : sender_on v key ≡ sender_on w key = over (λ x y. (lane_at y p).sender ≡ (lane_at x p).sender) (λ x. refl) (subst (λ z. (lane_at (after_sending (node_at w h) z) p).sender ≡ (lane_at (node_at w h) p).sender) (sym e) (answered-sender (node_at w h) lane next by p)) key.src in
      Still.again (ap (λ s. s.cursor) same ∙ g)

  answer-lively : (lane next : ℕ) (by : List ℤ) → out ≡ FrameAnswer lane next by → IsOwed (node_at w h) lane next by → Still key k fragment w → Lively key k fragment v
  answer-lively lane next by e is (Still.risen r) = Lively.still (risen-sent r)
  answer-lively lane next by e is (Still.waits t o p) = Lively.still (waits-sent t o p)
  answer-lively lane next by e is (Still.owed t o) = answer-owed lane next by e is t o
  answer-lively lane next by e is (Still.again g) = Lively.still (answer-again lane next by e g)

  -- a fragment is sent
  fragment-here : (lane : ℕ) (head : FrameHead) (part : List ℕ) (by : List ℤ) → out ≡ Fragment lane head part by → IsDueOn h (node_at w h) lane head part by → h ≡ key.src → lane ≡ sending_lane key → (sender_on w key).cursor ≡ k → Lively key k fragment v
  fragment-here lane head part by e is at to g =
      let d : IsDueOn key.src (node_at w key.src) (sending_lane key) head part by = subst (λ y. IsDueOn key.src (node_at w key.src) y head part by) to (subst (λ x. IsDueOn x (node_at w x) lane head part by) at is) in
      let number : d.number ≡ k = (due-number (sender_on w key) d.number d.due).is ∙ g in
      let mine : sends_on key.src (sending_lane key) ≡ connection key.src key.dst (prio_place key.prio) = λ i. connection key.src (peer_of-lane key.dst key.prio i) (prio_of-lane key.dst key.prio i) in
      let frame : frame_of key (sent_on w key) k ≡ Some (head, part) = subst (λ x. frame_of key (sent_on w key) x ≡ Some (head, part)) number (sym (ap (λ x. frame_of x (sent_on w key) d.number) mine) ∙ d.frame) in
      let same : (head, part) ≡ (head_of key k fragment, fragment.part) = same_Some (head, part) (head_of key k fragment, fragment.part) (sym frame ∙ ap (option_map (λ g. (head_of key k g, g.part))) f.there) in
      let wire : packet_for h (w.injected + 1) out ≡ packet_of by Gm (frame_payload key k fragment) = ap (packet_for h (w.injected + 1)) e ∙ (fragment-wire h (w.injected + 1) lane head part by ∙ ap (λ x. packet_of by Gm (frame_bytes x.0 x.1)) same) in
      Lively.frame (new-way (frame_payload key k fragment) key.dst by wire (route-to lane key.dst key.prio by to is.route) (subst (λ x. is_broken w x key.dst ≡ false) (sym at) whole.there))

  fragment-again : (lane : ℕ) (head : FrameHead) (part : List ℕ) (by : List ℤ) → out ≡ Fragment lane head part by → IsDueOn h (node_at w h) lane head part by → (sender_on w key).cursor ≡ k → Lively key k fragment v
  fragment-again lane head part by e is g = cases (nat_eq h key.src) (nat_eq lane (sending_lane key)) refl refl
    where
      p : ℕ
      p = sending_lane key

      still : sender_on v key ≡ sender_on w key → Lively key k fragment v
      still same = Lively.still (Still.again (ap (λ s. s.cursor) same ∙ g))

      cases : (x y : Bool) → nat_eq h key.src ≡ x → nat_eq lane p ≡ y → Lively key k fragment v
      cases true true d i = fragment-here lane head part by e is (same-number h key.src d) (same-number lane p i) g
      cases false y d i = still (ap (λ x. (lane_at x p).sender) (unmoved key.src (other-number h key.src d)))
      cases true false d i =
          still (over (λ x y. (lane_at y p).sender ≡ (lane_at x p).sender) (λ x. refl) (subst (λ z. (lane_at (after_sending (node_at w h) z) p).sender ≡ (lane_at (node_at w h) p).sender) (sym e) (sent-other (node_at w h) lane head part by p (other-number lane p i))) key.src)

  fragment-owed : (lane : ℕ) (head : FrameHead) (part : List ℕ) (by : List ℤ) → out ≡ Fragment lane head part by → k < taken_on w key → (lane_at (node_at w key.dst) (taking_lane key)).owes ≡ true → Still key k fragment v
  fragment-owed lane head part by e t o =
      let p : ℕ = taking_lane key in
      let same = over (λ x y. (lane_at y p).owes ≡ (lane_at x p).owes) (λ x. refl) (subst (λ z. (lane_at (after_sending (node_at w h) z) p).owes ≡ (lane_at (node_at w h) p).owes) (sym e) (sent-owes (node_at w h) lane head part by p)) key.dst in
      Still.owed (omega (arith, t, taken-same)) (same ∙ o)

  fragment-lively : (lane : ℕ) (head : FrameHead) (part : List ℕ) (by : List ℤ) → out ≡ Fragment lane head part by → IsDueOn h (node_at w h) lane head part by → Still key k fragment w → Lively key k fragment v
  fragment-lively lane head part by e is (Still.risen r) = Lively.still (risen-sent r)
  fragment-lively lane head part by e is (Still.waits t o p) = Lively.still (waits-sent t o p)
  fragment-lively lane head part by e is (Still.owed t o) = Lively.still (fragment-owed lane head part by e t o)
  fragment-lively lane head part by e is (Still.again g) = fragment-again lane head part by e is g

  still-sent : (x : Outgoing) → out ≡ x → IsToPeer h (node_at w h) x → Still key k fragment w → Lively key k fragment v
  still-sent (FrameAnswer lane next by) e is s = answer-lively lane next by e is s
  still-sent (Fragment lane head part by) e is s = fragment-lively lane head part by e is s
  still-sent (Probe walk looped) e is s = absurd is
  still-sent (TablePart part by) e is s = absurd is
  still-sent (Reply r) e is s = absurd is
  still-sent (PartAnswer r) e is s = absurd is

  sent-lively : IsToPeer h (node_at w h) out → Lively key k fragment w → Lively key k fragment v
  sent-lively is (Lively.still s) = still-sent out refl is s
  sent-lively is (Lively.frame o) = Lively.frame (other-way (frame_payload key k fragment) key.dst o)
  sent-lively is (Lively.ack next more most o) = Lively.ack next more (omega (arith, most, taken-same)) (other-way (ack_payload key next) key.src o)

-- an injection that no planned fault strikes
pub inject-lively : (n : Network) (key : ConnectionKey) (k : ℕ) (fragment : FragmentOf) (w : WorldState) (h : ℕ) (r : Effect × WorldState) → Facts n key k fragment w → IsBare w → InjectOf w h r → r.1.struck ≤ w.struck → IsWhole key w → Lively key k fragment w → Lively key k fragment r.1
inject-lively n key k fragment w h r f bare (InjectOf.idle e s) t whole l = subst (Lively key k fragment) (sym s) l
inject-lively n key k fragment w h r f bare (InjectOf.sends c out chan e none allowed x s) t whole l =
    let v : WorldState = planned_strikes (sent_out w h c out) c in
    let few : v.struck ≤ w.struck = subst (λ z. z.struck ≤ w.struck) s t in
    subst (Lively key k fragment) (sym s)
    (sent-lively n key k fragment w v f h c out chan none (injection-nodes w h c out) (unstruck-links w h c out none few) whole (to_send-peer h (node_at w h) (bare.each h) out e) l)
