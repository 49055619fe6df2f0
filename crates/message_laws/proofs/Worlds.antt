-- Every act keeps what was got on each connection a prefix of what was sent on it, and the frames on their way the fragments of their numbers.
use Rattle.std.proofs.Common.{◌≡◌, ◌+◌, ◌≤◌, ◌<◌, ℕ, zero, suc, List, length, replicate, get_or, IfSome, refl, sym, subst, arith}
use Rattle.std.specs.List.{AllByRecursion}
use Rattle.std.proofs.lemmas.List.{length-replicate}
use Rattle.net_defs.specs.Network.{Network, IsFabric}
use Rattle.packet_defs.specs.declared.kind.Kind.TheVariants.{Gm}
use Rattle.world_defs.specs.Links.{Held}
use Rattle.gm_defs.specs.declared.frame.ConnectionKey.{ConnectionKey}
use Rattle.gm_defs.specs.declared.message.Message.{Message}
use Rattle.world_defs.specs.declared.event.Event.{Event}
use Rattle.world_defs.specs.declared.effect.Effect.{Effect}
use Rattle.world_defs.specs.EightBits.{IsByteFault}
use Rattle.world_defs.specs.Lane.{new_lane}
use Rattle.world_defs.specs.Node.{NodeState, lane_count, prio_place, peer_of, prio_of, lane_of, sending_lane, taking_lane, lane_at, packet_for, new_node}
use Rattle.world_defs.proofs.Lanes.{facing, facing-taking, prio_of-lane, peer_of-below}
use Rattle.world_defs.specs.World.{WorldState, host_count, new_world, node_at}
use Rattle.world_defs.specs.Sound.{IsPrefix}
use Rattle.world_defs.specs.Traffic.{sent_on, got_on, coming_on, taken_on}
use Rattle.world_defs.specs.Acts.{Act, acted, IsByteAct, IsReached}
use Rattle.message_laws.specs.Says.{SaysTrue}
use Rattle.message_laws.specs.Order.{GotIsFrontOfSent, HasCome, TakenHasCome, SentIsOfPriority, FramesAreHonest}
use Rattle.gm_defs.proofs.Numbers.{none-below}
use Rattle.message_laws.proofs.Lanes.{IsNumbered, InOrder, order-more}
use Rattle.message_laws.proofs.Frames.{says-more}
use Rattle.world_defs.proofs.Views.{HostChange}
use Rattle.world_defs.proofs.Calls.{call_view}
use Rattle.world_defs.proofs.Hosts.{NodeChange, nodes_view, each_node}
use Rattle.world_defs.proofs.Reaching.{reached-has}
use Rattle.world_defs.proofs.ActsKept.{acted-plan, may-byte}
use Rattle.table_laws.specs.Packets.{IsHonest}
use Rattle.table_laws.proofs.Medium.{Holds, weaker-holds, empty-holds, carries-honest, honest-read}
use Rattle.table_laws.proofs.Keeping.{holds-read, new-honest, honest-more, acted-holds}
use Rattle.message_laws.proofs.Nodes.{IsHost, NodeNext, node-kept, hear-next, after_sending-next, node_expired-next, call-next, sent-built}

-- what each host has sent by its lanes, as the world stands
abbrev pub sent_by_lane : WorldState → ℕ → ℕ → List Message
sent_by_lane w h lane = (lane_at (node_at w h) lane).sent

-- what was sent to a host by its lanes
abbrev pub to_host : WorldState → ℕ → ℕ → List Message
to_host w = facing (sent_by_lane w)

-- each host goes on so
record Goes (w v : WorldState) : Type 0 where
  nodes : (h : ℕ) → NodeNext (to_host w h) (node_at w h) (node_at v h)

host-goes : (w : WorldState) {e : Event} {x : Effect} {h : ℕ} {m : NodeState} → HostChange w e x h m → NodeNext (to_host w h) (node_at w h) m
host-goes w (HostChange.asks {h = h}) = node-kept (to_host w h) (node_at w h) _ refl
host-goes w (HostChange.stages a p by d e f) = node-kept (to_host w a.mapper) (node_at w a.mapper) _ refl
host-goes w (HostChange.expires {h = h} {peer = peer} k) = node_expired-next (to_host w h) (node_at w h) peer
host-goes w (HostChange.gives_up {h = h} k) = node-kept (to_host w h) (node_at w h) _ refl
host-goes w (HostChange.revokes {h = h} a d) = node-kept (to_host w h) (node_at w h) _ refl

node-goes : (w : WorldState) (a : Act) → Holds (λ c. IsHonest (SaysTrue (sent_on w))) w.links → (h : ℕ) (m : NodeState) → NodeChange w a h m → NodeNext (to_host w h) (node_at w h) m
node-goes w a is h m (NodeChange.itself k) = host-goes w k
node-goes w a is h m (NodeChange.hears {c = c} packet j d e) = hear-next (sent_by_lane w) j (host_count w) (node_at w j) packet.wire (holds-read (SaysTrue (sent_on w)) w.links c packet is d)
node-goes w a is h m (NodeChange.sends c out d e) = after_sending-next (to_host w h) (node_at w h) out
node-goes w a is h m (NodeChange.calls k) = call-next (to_host w h) (call_view k)
node-goes w a is h m NodeChange.adopts = node-kept (to_host w h) (node_at w h) _ refl

-- every act
acted-goes : (w : WorldState) (a : Act) → Holds (λ c. IsHonest (SaysTrue (sent_on w))) w.links → Goes w (acted w a)
acted-goes w a is = record { nodes = each_node (λ h m. NodeNext (to_host w h) (node_at w h) m) (nodes_view w a) (λ h. node-kept (to_host w h) (node_at w h) (node_at w h) refl) (node-goes w a is) }

-- the invariant
pub record IsOrdered (w : WorldState) : Type 0 where
  pub links : Holds (λ c. IsHonest (SaysTrue (sent_on w))) w.links
  pub plan : AllByRecursion (λ f. IsByteFault f.1) w.plan
  pub hosts : (h : ℕ) → IsHost h (node_at w h)
  pub order : (h lane : ℕ) → InOrder (to_host w h lane) (lane_at (node_at w h) lane)

-- what each host has sent by each lane only grows
pub lanes-grow : (w : WorldState) (a : Act) → IsOrdered w → (h lane : ℕ) → IsPrefix (sent_by_lane w h lane) (sent_by_lane (acted w a) h lane)
lanes-grow w a is h lane = (((acted-goes w a is.links).nodes h).lanes lane).grows

host-next : (h : ℕ) (S : ℕ → List Message) (n m : NodeState) → IsHost h n → NodeNext S n m → IsHost h m
host-next h S n m is k = record {
  fits = λ lane low. is.fits lane (subst (λ l. lane < l) k.count low);
  lanes = λ lane. (k.lanes lane).numbers (is.lanes lane);
}

pub acted-ordered : (w : WorldState) (a : Act) → IsByteAct a → IsOrdered w → IsOrdered (acted w a)
acted-ordered w a low is =
    let v : WorldState = acted w a in
    let F : ℕ → Held → Type 0 = λ c. IsHonest (SaysTrue (sent_on w)) in
    let g : Goes w v = acted-goes w a is.links in
    let grows : (h lane : ℕ) → IsPrefix (sent_by_lane w h lane) (sent_by_lane v h lane) = λ h lane. ((g.nodes h).lanes lane).grows in
    let links : Holds F v.links = acted-holds F w (carries-honest w.links.cables (SaysTrue (sent_on w))) is.links is.plan a low
    (λ h c out i. new-honest (SaysTrue (sent_on w)) (packet_for h (w.injected + 1) out) (sent-built (sent_by_lane w) h (w.injected + 1) (node_at w h) out (is.hosts h) (λ lane. refl) i.sends)) in
    record {
      links = weaker-holds F (λ c. IsHonest (SaysTrue (sent_on v))) v.links (λ c held. honest-more (SaysTrue (sent_on w)) (SaysTrue (sent_on v)) held (says-more (sent_on w) (sent_on v) (λ k. grows k.src (sending_lane k)))) links;
      plan = acted-plan w a low is.plan;
      hosts = λ h. host-next h (to_host w h) (node_at w h) (node_at v h) (is.hosts h) (g.nodes h);
      order = λ h lane.
          let peer : ℕ = peer_of lane in
          let back : ℕ = lane_of h (prio_of lane) in
          order-more (to_host w h lane) (to_host v h lane) (lane_at (node_at v h) lane) (grows peer back) (((g.nodes h).lanes lane).order (is.order h lane));
    }

-- the new world
at-replicate : {X : Type 0} (P : ℕ → X → Type 0) (k j : ℕ) (x d : X) → ((i : ℕ) → i < k → P i x) → ((i : ℕ) → P i d) → P j (get_or (replicate k x) j d)
at-replicate P zero j x d p q = q j
at-replicate P (suc k) zero x d p q = p zero (omega arith)
at-replicate P (suc k) (suc j) x d p q = at-replicate (λ i. P (suc i)) k j x d (λ i l. p (suc i) (omega (arith, l))) (λ i. q (suc i))

new-numbered : (prio : ℕ) → IsNumbered prio new_lane
new-numbered prio = record { numbered = refl; few = omega arith; short = tt; of_prio = tt }

new-host : (h k : ℕ) → k ≤ 128 → (0 < k → h < k) → IsHost h (new_node k)
new-host h k few low = record {
  fits = λ lane l.
      let m : lane < lane_count k = subst (λ x. lane < x) (length-replicate (lane_count k) new_lane) l in
      let peer = peer_of-below k lane m in
      let n = low (omega (arith, peer)) in
      (omega (arith, n, few), omega (arith, peer, few));
  lanes = λ lane. at-replicate (λ i l. IsNumbered (prio_of lane) l) (lane_count k) lane new_lane new_lane (λ i l. new-numbered (prio_of lane)) (λ i. new-numbered (prio_of lane));
}

new-order : (from : List Message) → InOrder from new_lane
new-order from = let none = none-below from in record { front = record { rest = from; both = refl }; count = sym none.0; coming = sym none.1; within = omega arith }

pub new-ordered : (n : Network) → IsFabric n → IsOrdered (new_world n)
new-ordered n f =
    let k : ℕ = length n.hosts in
    record {
      links = empty-holds (λ c. IsHonest (SaysTrue (sent_on (new_world n)))) n;
      plan = tt;
      hosts = λ h. at-replicate IsHost k h (new_node k) (new_node 0) (λ i l. new-host i k f.few_hosts (λ p. l)) (λ i. new-host i 0 (omega arith) (λ p. absurd (omega (arith, p))));
      order = λ h lane.
          let sent : List Message = to_host (new_world n) h lane in
          at-replicate (λ i x. InOrder sent (lane_at x lane)) k h (new_node k) (new_node 0)
          (λ i l. at-replicate (λ j. InOrder sent) (lane_count k) lane new_lane new_lane (λ j l. new-order sent) (λ j. new-order sent))
          (λ i. new-order sent);
    }

pub reached-ordered : (n : Network) (w : WorldState) → IsReached n w → IsOrdered w
reached-ordered n w is = reached-has IsOrdered n (new-ordered n is.fabric) (λ w a r may. acted-ordered w a (may-byte w a may)) w is

pub got-front : GotIsFrontOfSent
got-front n w is c = subst (IsPrefix (got_on w c)) (facing-taking (sent_by_lane w) c) ((reached-ordered n w is).order c.dst (taking_lane c)).front

-- what came of the fragments that were taken on a connection
pub ordered-come : (w : WorldState) (c : ConnectionKey) → IsOrdered w → HasCome (sent_on w c) (got_on w c) (coming_on w c) (taken_on w c)
ordered-come w c is =
    let i = is.order c.dst (taking_lane c) in
    subst (λ ms. HasCome ms (got_on w c) (coming_on w c) (taken_on w c)) (facing-taking (sent_by_lane w) c) (record { whole = i.count; begun = i.coming; within = i.within })

pub taken-come : TakenHasCome
taken-come n w is c = ordered-come w c (reached-ordered n w is)

pub sent-of_priority : SentIsOfPriority
sent-of_priority n w is c =
    subst (λ p. AllByRecursion (λ m. prio_place m.prio ≡ p) (sent_on w c)) (prio_of-lane c.dst c.prio)
    (((reached-ordered n w is).hosts c.src).lanes (sending_lane c)).of_prio

pub frames-honest : FramesAreHonest
frames-honest n w c held body h is e d f =
    let good : IsHonest (SaysTrue (sent_on w)) held = subst (λ o. IfSome o (IsHonest (SaysTrue (sent_on w)))) e ((reached-ordered n w is).links.in_channels c) in
    honest-read (SaysTrue (sent_on w)) held Gm body good d h f
