-- A host once what it sends first counts as sent.
use Rattle.std.proofs.Common.{◌≡◌, ℕ, true, Option, Some, None, refl, sym, ap, ◌∙◌, arith}
use Rattle.std.specs.Prelude.{is_some}
use Rattle.world_defs.specs.Lane.{LaneState}
use Rattle.world_defs.specs.Node.{Staged, StagedProbe, StagedPart, StagedReply, StagedAck, NodeState, with_lane, after_sending}
use Rattle.host_items.specs.Held.{HostItems, first_of, without_first, with_items}
use Rattle.route_install.specs.Collecting.{HostTable}
use Rattle.gm_conn.specs.Lanes.{HostLanes, with_state}
use Rattle.host_ports.specs.Held.{HostPorts}
use Rattle.nic_node.specs.declared.next.NextSend.{NextSend}
use Rattle.nic_node.specs.declared.next.NextSend.TheVariants.{Item}
use Rattle.nic_node.specs.Held.{HostNode, in_state, state_of}
use Rattle.nic_node.specs.Sending.{items_in, chosen, once_sent}

abbrev three : Option Staged → Option StagedReply → Option StagedAck → HostItems
three s r a = record { staged = s; reply = r; part_ack = a }

item-as : (n : NodeState) → is_some (first_of (items_in n)) ≡ true → once_sent n (first_of (items_in n)) ≡ with_items n (without_first (items_in n))
unfolding after_sending
item-as n = by n.staged n.reply n.part_ack
  where
    by : (s : Option Staged) (r : Option StagedReply) (a : Option StagedAck) → is_some (first_of (three s r a)) ≡ true
        → once_sent (with_items n (three s r a)) (first_of (three s r a)) ≡ with_items n (without_first (three s r a))
    by (Some (StagedProbe walk looped)) r a e = refl
    by (Some (StagedPart part way)) r a e = refl
    by None (Some r) a e = refl
    by None None (Some a) e = refl
    by None None None e = absurd (grind arith)

-- the host once something that it has to send counts as sent
abbrev pub sent_of : HostNode → NextSend → HostNode
sent_of v next = in_state v (once_sent v.state (chosen v.host v.state next))

sent-as : (w v : HostNode) (next : NextSend) (s : NodeState) → w ≡ v → once_sent w.state (chosen w.host w.state next) ≡ s → in_state w s ≡ sent_of v next
sent-as w v next s is out = ap (in_state w) (sym out) ∙ ap (λ (x : HostNode). sent_of x next) is

pub item-sent : (v : HostNode) (host : ℕ) (i j : HostItems) (t : HostTable) (p : HostLanes) (r : HostPorts) → record { host = host; hosts = p.hosts; state = state_of i t p r } ≡ v
    → is_some (chosen v.host v.state Item) ≡ true → j ≡ without_first i
    → record { host = host; hosts = p.hosts; state = state_of j t p r } ≡ sent_of v Item
item-sent v host i j t p r is there new =
    let w : HostNode = record { host = host; hosts = p.hosts; state = state_of i t p r } in
    sent-as w v Item (state_of j t p r) is
    (item-as (state_of i t p r) (ap (λ (x : HostNode). is_some (chosen x.host x.state Item)) is ∙ there) ∙ ap (λ k. state_of k t p r) (sym new))

pub lane-sent : (v : HostNode) (host : ℕ) (i : HostItems) (t : HostTable) (p q : HostLanes) (r : HostPorts) (next : NextSend) (lane : ℕ) (x : LaneState)
    → record { host = host; hosts = p.hosts; state = state_of i t p r } ≡ v
    → once_sent (state_of i t p r) (chosen host (state_of i t p r) next) ≡ with_lane (state_of i t p r) lane x
    → q ≡ with_state p lane x → record { host = host; hosts = q.hosts; state = state_of i t q r } ≡ sent_of v next
lane-sent v host i t p q r next lane x is out new =
    let w : HostNode = record { host = host; hosts = p.hosts; state = state_of i t p r } in
    let count : q.hosts ≡ p.hosts = ap (λ h. h.hosts) new in
    let counted : ◌≡◌ {A = HostNode} (record { host = host; hosts = q.hosts; state = state_of i t q r }) (in_state w (state_of i t q r)) =
    λ k. record { host = host; hosts = count k; state = state_of i t q r } in
    counted ∙ sent-as w v next (state_of i t q r) is (out ∙ ap (λ h. state_of i t h r) (sym new))
