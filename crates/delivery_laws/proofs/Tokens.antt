-- The events of a settle leave as many tokens as are wanted, where there were.
use Rattle.std.proofs.Common.{◌≡◌, ◌<◌, ◌≤◌, ℕ, suc, List, [], ◌∷◌, ◌++◌, length, drop, Some, refl, sym, ap, ◌∙◌, subst, arith, length-append, true, is_some}
use Rattle.std.proofs.lemmas.List.{append-nil}
use Rattle.net_defs.specs.Network.{Network}
use Rattle.packet_defs.specs.declared.kind.Kind.TheVariants.{Gm}
use Rattle.gm_defs.specs.declared.frame.FrameHead.{FrameHead}
use Rattle.gm_defs.specs.declared.frame.ConnectionKey.{ConnectionKey}
use Rattle.gm_defs.specs.declared.message.Message.{Message}
use Rattle.gm_defs.specs.Body.{part_in}
use Rattle.gm_defs.specs.Connection.{connection}
use Rattle.gm_defs.specs.Fragment.{frame_of, IsHonestFrame}
use Rattle.world_defs.specs.declared.event.Event.{Event}
use Rattle.world_defs.specs.declared.event.Event.TheVariants.{Inject, Advance, Replay, Reset, Expire, GiveUp}
use Rattle.world_defs.specs.declared.effect.Effect.{Effect}
use Rattle.world_defs.specs.EightBits.{IsByteEvent}
use Rattle.world_defs.specs.Node.{NodeState, taking_lane, lane_at, StagedProbe, StagedPart, given_up, node_expired}
use Rattle.world_defs.specs.Hearing.{frame_lane}
use Rattle.world_defs.specs.World.{WorldState, host_count, node_at}
use Rattle.world_defs.specs.Step.{step, gives_up_epoch}
use Rattle.world_defs.specs.Traffic.{sent_on, got_on}
use Rattle.world_defs.proofs.Views.{HostChange, CallChange}
use Rattle.world_defs.proofs.Lanes.{facing-taking}
use Rattle.world_defs.specs.Acts.{Act, Happens, IsReached}
use Rattle.world_defs.proofs.Hosts.{NodeChange, nodes_view, each_node}
use Rattle.world_defs.proofs.Reaching.{reached-next}
use Rattle.table_laws.proofs.Keeping.{holds-read}
use Rattle.world_laws.specs.Reached.{IsOfSettle}
use Rattle.world_laws.proofs.Along.{Along}
use Rattle.message_laws.specs.Says.{SaysTrue}
use Rattle.message_laws.specs.Growing.{GrowsByOne, stays, one_more}
use Rattle.message_laws.proofs.Growing.{messages-grow}
use Rattle.message_laws.proofs.Lanes.{InOrder}
use Rattle.message_laws.proofs.Heard.{hear-is}
use Rattle.message_laws.proofs.Worlds.{sent_by_lane, reached-ordered}
use Rattle.message_laws.proofs.Buffers.{provided-untouched}
use Rattle.message_laws.proofs.Windows.{reached-windowed}
use Rattle.message_laws.proofs.Known.{reached-count, reached-known}
use Rattle.settle_laws.proofs.ActiveTables.{IsNoRevoke}
use Rattle.settle_laws.proofs.Routes.{route-stays}
use Rattle.delivery_laws.specs.Delivery.{is_wanted, wanted_from, wanted_at, provided_at}
use Rattle.client_laws.proofs.Accepted.{IsNoSend, none-accepted, calm-grows}
use Rattle.delivery_laws.proofs.Counts.{total, total-less, total-strict, count_of, drop-fewer, drop-strict}
use Rattle.delivery_laws.proofs.Frees.{FreesAt, Frees, frees-same, IsNextOf, next-of, heard-frees, sending-frees}
use Rattle.world_defs.specs.Table.{table_route}

-- an act that is an event of a settle
abbrev IsCalm : Act → Type 0
IsCalm (Happens e) = IsOfSettle e
IsCalm _ = ⊥

settle-byte : (e : Event) → IsOfSettle e → IsByteEvent e × IsNoSend (Happens e)
settle-byte (Advance c) q = (tt, tt)
settle-byte (Reset c) q = (tt, tt)
settle-byte (Inject h) q = (tt, tt)
settle-byte (Replay serial) q = (tt, tt)
settle-byte (Expire h peer) q = (tt, tt)
settle-byte (GiveUp h) q = (tt, tt)
settle-byte _ q = absurd q

no-call : {w : WorldState} {e : Event} {h port : ℕ} {call : _} → CallChange w e h port call → IsOfSettle e → ⊥
no-call CallChange.begins q = q
no-call CallChange.closes q = q
no-call CallChange.provides q = q
no-call CallChange.accepts q = q
no-call CallChange.polls q = q

-- what was sent to a host, by sender and priority
abbrev sent_to : WorldState → ℕ → ℕ → ℕ → List Message
sent_to w h src prio = sent_on w (connection src h prio)

record Still (w : WorldState) (count h : ℕ) (m : NodeState) : Type 0 where
  still : h < count → Frees (sent_to w h) (host_count w) (node_at w h) m

host-frees : {w : WorldState} {e : Event} {x : Effect} {h : ℕ} {m : NodeState} → HostChange w e x h m → Frees (sent_to w h) (host_count w) (node_at w h) m
host-frees {w = w} (HostChange.asks {h = h} {walk = walk} {looped = looped}) = frees-same (sent_to w h) (host_count w) (node_at w h) (record (node_at w h) { staged = Some (StagedProbe walk looped) }) (λ port. refl)
host-frees {w = w} (HostChange.stages a p by d e f) = frees-same (sent_to w a.mapper) (host_count w) (node_at w a.mapper) (record (node_at w a.mapper) { staged = Some (StagedPart p by) }) (λ port. refl)
host-frees {w = w} (HostChange.expires {h = h} {peer = peer} k) = frees-same (sent_to w h) (host_count w) (node_at w h) (node_expired (node_at w h) peer) (λ port. refl)
host-frees {w = w} (HostChange.gives_up {h = h} k) = frees-same (sent_to w h) (host_count w) (node_at w h) (given_up (node_at w h)) (λ port. refl)
host-frees {w = w} (HostChange.revokes {h = h} a d) = frees-same (sent_to w h) (host_count w) (node_at w h) (gives_up_epoch (node_at w h) a.epoch) (λ port. refl)

order-of : (n : Network) (w : WorldState) → IsReached n w → (c : ConnectionKey) → InOrder (sent_on w c) (lane_at (node_at w c.dst) (taking_lane c))
order-of n w is c = subst (λ ms. InOrder ms (lane_at (node_at w c.dst) (taking_lane c))) (facing-taking (sent_by_lane w) c) ((reached-ordered n w is).order c.dst (taking_lane c))

reads-next : (n : Network) (w : WorldState) → IsReached n w → (host : ℕ) (h : FrameHead) (part : List ℕ) → IsHonestFrame (sent_on w) h part → h.dst ≡ host → h.seq ≡ (lane_at (node_at w host) (frame_lane h)).taken → IsNextOf (sent_to w host h.src h.prio) (lane_at (node_at w host) (frame_lane h)) h
reads-next n w is host h part honest mine seq =
    let key : ConnectionKey = connection h.src host h.prio in
    let there : frame_of key (sent_on w key) h.seq ≡ Some (h, part) = subst (λ d. frame_of (connection h.src d h.prio) (sent_on w (connection h.src d h.prio)) h.seq ≡ Some (h, part)) mine honest in
    next-of key (sent_on w key) (lane_at (node_at w host) (frame_lane h)) h part (order-of n w is key) seq there

node-frees : (n : Network) (w : WorldState) → IsReached n w → (a : Act) → IsCalm a → (h : ℕ) (m : NodeState) → NodeChange w a h m → Still w (length n.hosts) h m
node-frees n w r a calm h m (NodeChange.itself k) = record { still = λ low. host-frees k }
node-frees n w r a calm h m (NodeChange.hears {c = c} packet j d e) = record {
  still = λ low.
      heard-frees (sent_to w j) j (host_count w) (node_at w j) (reached-known n w j r low).lanes (provided-untouched n w r j) packet.wire _
      (λ body x f g mine seq. reads-next n w r j x (part_in body) (holds-read (SaysTrue (sent_on w)) w.links c packet (reached-windowed n w r).ordered.links d Gm body f x g) mine seq)
      (hear-is j (host_count w) (node_at w j) packet.wire);
}
node-frees n w r a calm h m (NodeChange.sends c out d e) = record { still = λ low. sending-frees (sent_to w h) (host_count w) (node_at w h) out }
node-frees n w r a calm h m (NodeChange.calls k) = absurd (no-call k calm)
node-frees n w r a calm h m NodeChange.adopts = absurd calm

-- There are as many tokens as are wanted.
pub record HasTokens (w : WorldState) : Type 0 where
  pub each : (h port size prio : ℕ) → h < host_count w → wanted_at w h port size prio ≤ provided_at w h port size prio

longer : {A : Type 0} (xs ys : List A) → GrowsByOne xs ys → length xs ≤ length ys
longer xs ys (stays e) = let same = ap length e in omega (arith, same)
longer xs ys (one_more x e) = let more = ap length e ∙ length-append xs (x ∷ []) in omega (arith, more)

module _ (n : Network) (w : WorldState) (r : IsReached n w) (e : Event) (q : IsOfSettle e) where
  abbrev v : WorldState
  v = (step w e).1

  reached : IsReached n v
  reached = reached-next n w (Happens e) r (settle-byte e q).0

  sent-same : (c : ConnectionKey) → sent_on v c ≡ sent_on w c
  sent-same c = (calm-grows w (Happens e) (settle-byte e q).1).each c ∙ ap (λ l. sent_on w c ++ l) (none-accepted c w (Happens e) (settle-byte e q).1) ∙ append-nil (sent_on w c)

  hosts-same : host_count v ≡ host_count w
  hosts-same = reached-count n v reached ∙ sym (reached-count n w r)

  frees : (h : ℕ) → Still w (length n.hosts) h (node_at v h)
  frees = each_node (Still w (length n.hosts)) (nodes_view w (Happens e)) (λ h. record { still = λ low. frees-same (sent_to w h) (host_count w) (node_at w h) (node_at w h) (λ port. refl) }) (node-frees n w r (Happens e) q)

  fewer : (h port size prio src : ℕ) → wanted_from v h port size prio src ≤ wanted_from w h port size prio src
  fewer h port size prio src =
      let c : ConnectionKey = connection src h prio in
      let test = is_wanted port size prio in
      let a = drop-fewer (is_wanted port size prio) (sent_on w c) (length (got_on w c)) (length (got_on v c)) (longer (got_on w c) (got_on v c) (messages-grow w (Happens e) c).got) in
      let b : wanted_from v h port size prio src ≡ count_of (is_wanted port size prio) (drop (length (got_on v c)) (sent_on w c)) = ap (λ ms. count_of (is_wanted port size prio) (drop (length (got_on v c)) ms)) (sent-same c) in
      omega (arith, a, b)

  event-tokens : HasTokens w → HasTokens v
  event-tokens has = record { each = λ h port size prio below. at h port size prio (omega (arith, below, hosts-same)) ((frees h).still (let count = reached-count n w r in omega (arith, below, hosts-same, count))) }
    where
      at : (h port size prio : ℕ) → h < host_count w → Frees (sent_to w h) (host_count w) (node_at w h) (node_at v h) → wanted_at v h port size prio ≤ provided_at v h port size prio
      at h port size prio low goes = by (goes.each port size prio)
        where
          before : wanted_at w h port size prio ≤ provided_at w h port size prio
          before = has.each h port size prio low

          count : wanted_at v h port size prio ≡ total (wanted_from v h port size prio) 0 (host_count w)
          count = ap (total (wanted_from v h port size prio) 0) hosts-same

          by : FreesAt (sent_to w h) (host_count w) (node_at w h) (node_at v h) port size prio → wanted_at v h port size prio ≤ provided_at v h port size prio
          by (FreesAt.none_less few) =
              let less = total-less (wanted_from v h port size prio) (wanted_from w h port size prio) 0 (host_count w) (fewer h port size prio) in
              omega (arith, before, count, few, less)
          by (FreesAt.one_less src message there few next wanted got) =
              let c : ConnectionKey = connection src h prio in
              let one = drop-strict (is_wanted port size prio) (sent_on w c) (length (got_on w c)) message next wanted in
              let more : length (got_on v c) ≡ suc (length (got_on w c)) = omega (arith, got) in
              let now : wanted_from v h port size prio src ≡ count_of (is_wanted port size prio) (drop (suc (length (got_on w c))) (sent_on w c)) =
              ap (λ ms. count_of (is_wanted port size prio) (drop (length (got_on v c)) ms)) (sent-same c) ∙ ap (λ k. count_of (is_wanted port size prio) (drop k (sent_on w c))) more in
              let less = total-strict (wanted_from v h port size prio) (wanted_from w h port size prio) 0 (host_count w) src src (omega arith) there (λ i low. fewer h port size prio i) (omega (arith, one, now)) in
              omega (arith, before, count, few, less)

-- by no event of a settle a host gives up an epoch
settle-no_revoke : (e : Event) → IsOfSettle e → IsNoRevoke (Happens e)
settle-no_revoke (Advance c) q = tt
settle-no_revoke (Reset c) q = tt
settle-no_revoke (Inject h) q = tt
settle-no_revoke (Replay serial) q = tt
settle-no_revoke (Expire h peer) q = tt
settle-no_revoke (GiveUp h) q = tt
settle-no_revoke _ q = absurd q

-- What the events of a settle keep.
pub record Keeps (n : Network) (w v : WorldState) : Type 0 where
  pub reached : IsReached n v
  pub sent : (c : ConnectionKey) → sent_on v c ≡ sent_on w c
  pub routes : (h dest : ℕ) → is_some (table_route (node_at w h).table dest) ≡ true → is_some (table_route (node_at v h).table dest) ≡ true
  pub tokens : HasTokens w → HasTokens v

pub along-keeps : (n : Network) → Along (λ w v. IsReached n w → Keeps n w v) IsOfSettle
along-keeps n = record {
  same = λ w r. record { reached = r; sent = λ c. refl; routes = λ h dest a. a; tokens = λ t. t };
  both = λ u v w f g r.
      let a : Keeps n u v = f r in
      let b : Keeps n v w = g a.reached in
      record { reached = b.reached; sent = λ c. b.sent c ∙ a.sent c; routes = λ h dest x. b.routes h dest (a.routes h dest x); tokens = λ t. b.tokens (a.tokens t) };
  event = λ w e q r. record { reached = reached n w r e q; sent = sent-same n w r e q; routes = λ h dest. route-stays n w e h dest r (settle-no_revoke e q) (reached n w r e q); tokens = event-tokens n w r e q };
}
