-- What goes by a lane: what it owes or what is due on it, where the table has a route to its peer.
use Rattle.std.proofs.Common.{◌≡◌, ◌<◌, ℕ, ℤ, Bool, true, false, List, Option, Some, None, refl, sym, ap, ◌∙◌, arith, if◌then◌else◌}
use Rattle.std.specs.Prelude.{IsSome, is_some, option_map, option_and_then}
use Rattle.gm_defs.specs.declared.frame.FrameHead.{FrameHead}
use Rattle.gm_defs.specs.Fragment.{frame_of}
use Rattle.std.proofs.lemmas.Bool.Decides.{nat_tests}
use Rattle.gm_defs.specs.Body.{is_prio, ack_bytes, frame_bytes}
use Rattle.gm_defs.specs.declared.frame.Ack.{Ack}
use Rattle.gm_defs.specs.Connection.{ack_on, due}
use Rattle.packet_defs.specs.declared.kind.Kind.TheVariants.{Gm}
use Rattle.packet_defs.specs.Packet.{packet_of}
use Rattle.world_defs.specs.Lane.{lane_answered, lane_sent_one}
use Rattle.world_defs.specs.Node.{NodeState, Outgoing, FrameAnswer, Fragment, prio_of, sends_on, takes_from, lane_at, lane_route, with_lane, owed_on, due_on, due_frame, packet_for, after_sending}
use Rattle.nic_node.specs.Sending.{once_sent}

-- the priority of a lane is one
pub lane-prio : (lane : ℕ) → is_prio (prio_of lane) ≡ true
lane-prio lane = let low : prio_of lane < 2 = omega arith in grind (arith, nat_tests)

-- an acknowledgement that is owed or not, by a route or none
abbrev owed_by : NodeState → ℕ → Bool → Option (List ℤ) → Option Outgoing
owed_by n lane owes route = if owes then option_map (λ by. FrameAnswer lane (lane_at n lane).taken by) route else None

-- a fragment that is due or not, by a route or none
abbrev due_by : ℕ → Option (FrameHead × List ℕ) → Option (List ℤ) → Option Outgoing
due_by lane frame route = option_and_then (λ f. option_map (λ by. Fragment lane f.0 f.1 by) route) frame

pub not-owed : (n : NodeState) (lane : ℕ) → (lane_at n lane).owes ≡ false → owed_on n lane ≡ None
not-owed n lane e = ap (λ b. owed_by n lane b (lane_route n lane)) e

pub owed-nowhere : (n : NodeState) (lane : ℕ) → is_some (lane_route n lane) ≡ false → owed_on n lane ≡ None
owed-nowhere n lane e = by (lane_at n lane).owes (lane_route n lane) e
  where
    by : (owes : Bool) (route : Option (List ℤ)) → is_some route ≡ false → owed_by n lane owes route ≡ None
    by true None e = refl
    by false None e = refl
    by owes (Some by_it) e = absurd (grind arith)

pub owed-there : (n : NodeState) (lane : ℕ) → (lane_at n lane).owes ≡ true → is_some (lane_route n lane) ≡ true → is_some (owed_on n lane) ≡ true
owed-there n lane owes e = by (lane_at n lane).owes (lane_route n lane) owes e
  where
    by : (owes : Bool) (route : Option (List ℤ)) → owes ≡ true → is_some route ≡ true → is_some (owed_by n lane owes route) ≡ true
    by true (Some by_it) o e = refl
    by true None o e = absurd (grind arith)
    by false route o e = absurd (grind arith)

pub owes-it : (n : NodeState) (lane : ℕ) → is_some (owed_on n lane) ≡ true → (lane_at n lane).owes ≡ true
owes-it n lane e = by (lane_at n lane).owes (lane_route n lane) e
  where
    by : (owes : Bool) (route : Option (List ℤ)) → is_some (owed_by n lane owes route) ≡ true → owes ≡ true
    by true route e = refl
    by false route e = absurd (grind arith)

pub not-due : (host : ℕ) (n : NodeState) (lane : ℕ) → is_some (due_frame host n lane) ≡ false → due_on host n lane ≡ None
not-due host n lane e = by (due_frame host n lane) (lane_route n lane) e
  where
    by : (frame : Option (FrameHead × List ℕ)) (route : Option (List ℤ)) → is_some frame ≡ false → due_by lane frame route ≡ None
    by None route e = refl
    by (Some f) route e = absurd (grind arith)

pub due-nowhere : (host : ℕ) (n : NodeState) (lane : ℕ) → is_some (lane_route n lane) ≡ false → due_on host n lane ≡ None
due-nowhere host n lane e = by (due_frame host n lane) (lane_route n lane) e
  where
    by : (frame : Option (FrameHead × List ℕ)) (route : Option (List ℤ)) → is_some route ≡ false → due_by lane frame route ≡ None
    by None None e = refl
    by (Some f) None e = refl
    by frame (Some by_it) e = absurd (grind arith)

pub due-there : (host : ℕ) (n : NodeState) (lane : ℕ) → is_some (due_frame host n lane) ≡ true → is_some (lane_route n lane) ≡ true → is_some (due_on host n lane) ≡ true
due-there host n lane d e = by (due_frame host n lane) (lane_route n lane) d e
  where
    by : (frame : Option (FrameHead × List ℕ)) (route : Option (List ℤ)) → is_some frame ≡ true → is_some route ≡ true → is_some (due_by lane frame route) ≡ true
    by (Some f) (Some by_it) d e = refl
    by (Some f) None d e = absurd (grind arith)
    by None route d e = absurd (grind arith)

pub due-it : (host : ℕ) (n : NodeState) (lane : ℕ) → is_some (due_on host n lane) ≡ true → IsSome (due (lane_at n lane).sender)
due-it host n lane e = by (due (lane_at n lane).sender) (lane_route n lane) e
  where
    by : (d : Option ℕ) (route : Option (List ℤ)) → is_some (due_by lane (option_and_then (λ seq. frame_of (sends_on host lane) (lane_at n lane).sent seq) d) route) ≡ true → IsSome d
    by (Some seq) route e = refl
    by None route e = absurd (grind arith)

owed-is : (n : NodeState) (lane : ℕ) (way : List ℤ) → (lane_at n lane).owes ≡ true → lane_route n lane ≡ Some way → owed_on n lane ≡ Some (FrameAnswer lane (lane_at n lane).taken way)
owed-is n lane way owes route = ap (λ b. owed_by n lane b (lane_route n lane)) owes ∙ ap (λ r. owed_by n lane true r) route

due-is : (host : ℕ) (n : NodeState) (lane : ℕ) (f : FrameHead × List ℕ) (way : List ℤ) → due_frame host n lane ≡ Some f → lane_route n lane ≡ Some way
    → due_on host n lane ≡ Some (Fragment lane f.0 f.1 way)
due-is host n lane f way frame route = ap (λ d. due_by lane d (lane_route n lane)) frame ∙ ap (λ r. due_by lane (Some f) r) route

-- the packets of both
pub owed-packet : (host number : ℕ) (n : NodeState) (lane : ℕ) (way : List ℤ) (a : Ack) (wire : List ℕ) → (lane_at n lane).owes ≡ true → lane_route n lane ≡ Some way
    → a ≡ ack_on (takes_from host lane) (lane_at n lane).taken → wire ≡ packet_of way Gm (ack_bytes a) → Some wire ≡ option_map (packet_for host number) (owed_on n lane)
unfolding packet_for
owed-packet host number n lane way a wire owes route ack is =
    ap (λ w. Some w) (is ∙ ap (λ x. packet_of way Gm (ack_bytes x)) ack) ∙ sym (ap (option_map (packet_for host number)) (owed-is n lane way owes route))

pub due-packet : (host number : ℕ) (n : NodeState) (lane : ℕ) (way : List ℤ) (f : FrameHead × List ℕ) (wire : List ℕ) → due_frame host n lane ≡ Some f → lane_route n lane ≡ Some way
    → wire ≡ packet_of way Gm (frame_bytes f.0 f.1) → Some wire ≡ option_map (packet_for host number) (due_on host n lane)
unfolding packet_for
due-packet host number n lane way f wire frame route is =
    ap (λ w. Some w) is ∙ sym (ap (option_map (packet_for host number)) (due-is host n lane f way frame route))

-- what both leave
pub answered-as : (n : NodeState) (lane : ℕ) → is_some (owed_on n lane) ≡ true → once_sent n (owed_on n lane) ≡ with_lane n lane (lane_answered (lane_at n lane))
unfolding after_sending
answered-as n lane e = by (lane_at n lane).owes (lane_route n lane) e
  where
    by : (owes : Bool) (route : Option (List ℤ)) → is_some (owed_by n lane owes route) ≡ true → once_sent n (owed_by n lane owes route) ≡ with_lane n lane (lane_answered (lane_at n lane))
    by true (Some way) e = refl
    by true None e = absurd (grind arith)
    by false route e = absurd (grind arith)

pub fragment-as : (host : ℕ) (n : NodeState) (lane : ℕ) → is_some (due_on host n lane) ≡ true → once_sent n (due_on host n lane) ≡ with_lane n lane (lane_sent_one (lane_at n lane))
unfolding after_sending
fragment-as host n lane e = by (due_frame host n lane) (lane_route n lane) e
  where
    by : (frame : Option (FrameHead × List ℕ)) (route : Option (List ℤ)) → is_some (due_by lane frame route) ≡ true → once_sent n (due_by lane frame route) ≡ with_lane n lane (lane_sent_one (lane_at n lane))
    by (Some f) (Some way) e = refl
    by (Some f) None e = absurd (grind arith)
    by None route e = absurd (grind arith)
