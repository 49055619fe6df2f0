-- The fragment that is due, and where its bytes stand.
use Rattle.std.proofs.Common.{◌≡◌, ◌<◌, ◌≤◌, ◌+◌, ◌-◌, ◌&&◌, ℕ, Bool, true, false, nat_lt, nat_le, nat_eq, min, List, length, take, drop, Option, Some, None, option_map, IsSome, refl, sym, ap, ◌∙◌, subst, arith}
use Rattle.std.specs.Prelude.{option_and_then}
use Rattle.std.proofs.lemmas.Bool.Decides.{nat_tests}
use Rattle.std.proofs.lemmas.Option.{same_Some, none-some}
use Rattle.gm_defs.specs.declared.frame.FrameHead.{FrameHead}
use Rattle.gm_defs.specs.Body.{piece, message_limit, number_limit, is_prio, is_offset, is_head}
use Rattle.gm_defs.specs.Token.{Sending}
use Rattle.world_defs.specs.Lane.{Ticket}
use Rattle.world_defs.specs.Node.{NodeState, Fragment, lane_at, lane_route, due_frame, due_on, packet_for}
use Rattle.host_items.specs.Held.{HostItems}
use Rattle.route_install.specs.Collecting.{HostTable}
use Rattle.host_ports.specs.Held.{HostPorts, unfinished_at}
use Rattle.gm_conn.specs.Lane.{AreNumbered, head_of_frame, ticket_of}
use Rattle.gm_conn.specs.Lanes.{HostLanes, lane_in}
use Rattle.ticket_laws.specs.Host.{send_under, IsInBuffer}
use Rattle.ticket_laws.proofs.Backing.{backed-buffer}
use Rattle.nic_node.specs.Held.{HostNode, state_of, AreOfHost}

-- where the bytes of the fragment that is due stand
pub record DuePart (v : HostNode) (p : HostPorts) (lane : ℕ) (h : FrameHead) (t : Ticket) : Type 0 where
  pub send : Sending
  pub there : send_under p.ports t ≡ Some send
  pub port : t.port ≡ h.sport
  pub inside : h.offset + h.len ≤ length send.buffer
  pub frame : due_frame v.host v.state lane ≡ Some (h, take h.len (drop h.offset send.buffer))
  pub long : length (take h.len (drop h.offset send.buffer)) ≡ h.len

pub due-part : (v : HostNode) (host : ℕ) (i : HostItems) (t : HostTable) (l : HostLanes) (p : HostPorts) (lane : ℕ) (h : FrameHead) (k : Ticket) → record { host = host; hosts = l.hosts; state = state_of i t l p } ≡ v → AreOfHost host t l p
    → ((lane : ℕ) → AreNumbered (lane_in l lane)) → option_map head_of_frame (due_frame v.host v.state lane) ≡ Some h → ticket_of (lane_at v.state lane) h.seq ≡ Some k → DuePart v p lane h k
due-part v host i t l p lane h k is of numbers head ticket =
    let n : NodeState = state_of i t l p in
    let b : IsInBuffer host n lane h k = backed-buffer host n lane (numbers lane).sender of.backed h k
    (ap (λ (w : HostNode). option_map head_of_frame (due_frame w.host w.state lane)) is ∙ head)
    (ap (λ (w : HostNode). ticket_of (lane_at w.state lane) h.seq) is ∙ ticket) in
    record {
      send = b.send;
      there = b.there;
      port = b.port;
      inside = b.inside;
      frame = sym (ap (λ (w : HostNode). due_frame w.host w.state lane) is) ∙ b.frame;
      long = b.long;
    }

-- the send of a ticket is unfinished
pub there-some : (p : HostPorts) (t : Ticket) (port token : ℕ) (s : Sending) → port ≡ t.port → token ≡ t.token → send_under p.ports t ≡ Some s → IsSome (unfinished_at p port token)
there-some p t port token s a b e = subst IsSome (sym e ∙ (λ i. unfinished_at p (sym a i) (sym b i))) refl

-- a fragment that has no head isn't due
no-head : (o : Option (FrameHead × List ℕ)) → None ≡ option_map head_of_frame o → o ≡ None
no-head None e = refl
no-head (Some f) e = absurd (none-some (head_of_frame f) e)

-- and its buffer is the one that is read
pub buffer-is : (p : HostPorts) (t : Ticket) (port token : ℕ) (s : Sending) (b : List ℕ) → port ≡ t.port → token ≡ t.token → send_under p.ports t ≡ Some s → option_map (λ x. x.buffer) (unfinished_at p port token) ≡ Some b → s.buffer ≡ b
buffer-is p t port token s b e f there read =
    same_Some s.buffer b (sym (ap (option_map (λ (x : Sending). x.buffer)) there) ∙ (λ i. option_map (λ (x : Sending). x.buffer) (unfinished_at p (sym e i) (sym f i))) ∙ read)

pub none-due : (host number : ℕ) (n : NodeState) (lane : ℕ) → None ≡ option_map head_of_frame (due_frame host n lane) → None ≡ option_map (packet_for host number) (due_on host n lane)
none-due host number n lane e =
    let none : due_frame host n lane ≡ None = no-head (due_frame host n lane) e in
    ap (option_map (packet_for host number)) (sym (ap (option_and_then (λ f. option_map (λ by. Fragment lane f.0 f.1 by) (lane_route n lane))) none))

first-of-seven : (a b c d e f g : Bool) → (a && b && c && d && e && f && g) ≡ true → a ≡ true
first-of-seven true b c d e f g t = refl
first-of-seven false b c d e f g t = t

-- a head by the rules is of one of the ports
pub head-port : (h : FrameHead) → is_head h ≡ true → h.sport < 8
head-port h e =
    let low = first-of-seven (nat_lt h.sport 8) (nat_lt h.dport 8) (is_prio h.prio) (nat_lt h.seq number_limit) (nat_le h.total message_limit) (is_offset h.total h.offset) (nat_eq h.len (min piece (h.total - h.offset))) e in
    grind (arith, nat_tests)
