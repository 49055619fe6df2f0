-- What the changes of a lane bring to its host.
use Rattle.std.proofs.Common.{◌≡◌, ◌≤◌, ◌<◌, ◌+◌, ◌-◌, ◌*◌, ◌&&◌, ℕ, Bool, true, false, length, max, nat_lt, Some, refl, ap, arith, if◌then◌else◌}
use Rattle.std.proofs.lemmas.Bool.Decides.{nat_tests}
use Rattle.gm_defs.specs.declared.message.Message.{Message}
use Rattle.gm_defs.specs.declared.token.Took.{Took}
use Rattle.gm_defs.specs.Fragment.{piece_count}
use Rattle.gm_defs.specs.Connection.{SenderState, window, due, is_taken}
use Rattle.gm_defs.proofs.Choices.{both, if-some}
use Rattle.world_defs.specs.Lane.{Ticket, LaneState, new_lane, with_message, lane_acknowledged, lane_expired, lane_sent_one, lane_answered, lane_after}
use Rattle.world_defs.specs.Node.{NodeState, lane_of, lane_at, with_lane, with_expired, node_expired}
use Rattle.injection_bounds.specs.Credit.{lane_credit, node_credit}
use Rattle.injection_bounds.specs.Paid.{sent_ahead}
use Rattle.injection_bounds.proofs.Sums.{set-sum, set-fewer}

-- one lane of a host changes
pub lane-set : (n : NodeState) (lane : ℕ) (l : LaneState) → node_credit (with_lane n lane l) + lane_credit (lane_at n lane) ≤ node_credit n + lane_credit l
lane-set n lane l = let h = set-sum lane_credit n.lanes lane l new_lane refl in omega (arith, h)

-- an owed acknowledgement is sent
pub answered-lane : (l : LaneState) → l.owes ≡ true → lane_credit (lane_answered l) + 1 ≤ lane_credit l
answered-lane l e = let h : ◌≡◌ {A = ℕ} (if l.owes then 1 else 0) 1 = ap (λ b. if b then 1 else 0) e in omega (arith, h)

-- the due fragment is sent
due-low : (s : SenderState) (k : ℕ) → due s ≡ Some k → s.cursor < s.next
due-low s k e =
    let tests = (if-some (nat_lt s.cursor s.next && nat_lt s.cursor (s.base + window)) (Some s.cursor) k e).0 in
    let low = (both (nat_lt s.cursor s.next) (nat_lt s.cursor (s.base + window)) tests).0 in
    grind (arith, nat_tests)

pub sent-lane : (l : LaneState) (k : ℕ) → due l.sender ≡ Some k → lane_credit (lane_sent_one l) + 2 ≤ lane_credit l
sent-lane l k e = let low = due-low l.sender k e in omega (arith, low)

-- an acknowledgement comes
abbrev credit_of : SenderState → Bool → ℕ
credit_of s owes = 2 * (s.next - s.cursor) + (if owes then 1 else 0)

pub acknowledged-lane : (l : LaneState) (next : ℕ) → lane_credit (lane_acknowledged l next) ≤ lane_credit l
acknowledged-lane l next = by (is_taken l.sender next)
  where
    by : (t : Bool) → credit_of (if t then record l.sender { base = next; cursor = max l.sender.cursor next } else l.sender) l.owes ≤ credit_of l.sender l.owes
    by true = omega arith
    by false = omega arith

-- a frame comes
pub heard-lane : (l : LaneState) (t : Took) (m : Message) → lane_credit (lane_after l t m) ≤ lane_credit l + 1
heard-lane l t m = omega arith

-- a message is accepted
pub message-lane : (l : LaneState) (m : Message) (t : Ticket) → lane_credit (with_message l m t) ≤ lane_credit l + 2 * piece_count (length m.body)
message-lane l m t = omega arith

-- what isn't acknowledged is sent again
abbrev ahead : LaneState → ℕ
ahead l = l.sender.cursor - l.sender.base

expired-lane : (l : LaneState) → lane_credit (lane_expired l) ≤ lane_credit l + 2 * ahead l
expired-lane l = omega arith

none-ahead : (l : LaneState) → ahead (lane_expired l) ≡ 0
none-ahead l = omega arith

with_expired-credit : (n : NodeState) (lane : ℕ) → node_credit (with_expired n lane) ≤ node_credit n + 2 * sent_ahead n lane
with_expired-credit n lane =
    let s = lane-set n lane (lane_expired (lane_at n lane)) in
    let e = expired-lane (lane_at n lane) in
    omega (arith, s, e)

pub expired-credit : (n : NodeState) (peer : ℕ) → node_credit (node_expired n peer) ≤ node_credit n + 2 * (sent_ahead n (lane_of peer 0) + sent_ahead n (lane_of peer 1))
expired-credit n peer =
    let first = with_expired-credit n (lane_of peer 0) in
    let second = with_expired-credit (with_expired n (lane_of peer 0)) (lane_of peer 1) in
    let fewer : sent_ahead (with_expired n (lane_of peer 0)) (lane_of peer 1) ≤ sent_ahead n (lane_of peer 1) =
    set-fewer ahead n.lanes (lane_of peer 0) (lane_of peer 1) (lane_expired (lane_at n (lane_of peer 0))) new_lane (none-ahead (lane_at n (lane_of peer 0))) in
    omega (arith, first, second, fewer)
