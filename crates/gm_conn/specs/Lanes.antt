-- What a contract sees of all lanes of a host.
use Rattle.std.specs.Prelude.{◌≡◌, ℕ, ◌+◌, ◌<◌, ◌≤◌, Bool, true, false, List, map, length, replicate, slice_index_or}
use Rattle.std.specs.Prelude.{slice_set, is_some, nat_lt, Option, Some, None}
use Rattle.gm_defs.specs.declared.frame.FrameHead.{FrameHead}
use Rattle.gm_defs.specs.Connection.{connection, unacknowledged}
use Rattle.world_defs.specs.Lane.{LaneState, new_lane, lane_expired}
use Rattle.world_defs.specs.Node.{lane_count, lane_of, sends_on}
use Rattle.gm_conn.specs.Lane.{HostLane, due_frame, unused}

-- A host, among how many hosts it is, and the states of its lanes by their numbers.
pub record HostLanes : Type 0 where
  pub host : ℕ
  pub hosts : ℕ
  pub lanes : List LaneState

-- a host among so many, before anything was sent
abbrev pub all_unused : ℕ → ℕ → HostLanes
all_unused host hosts = record { host = host; hosts = hosts; lanes = replicate (lane_count hosts) new_lane }

-- a lane's state
abbrev pub lane_in : HostLanes → ℕ → LaneState
lane_in h lane = slice_index_or h.lanes lane new_lane

-- a lane in another state
abbrev pub with_state : HostLanes → ℕ → LaneState → HostLanes
with_state h lane l = record h { lanes = slice_set h.lanes lane l }

-- a lane with its connection
abbrev pub held_lane : HostLanes → ℕ → HostLane
held_lane h lane = record { key = sends_on h.host lane; state = lane_in h lane }

-- the frame that is due on a lane
abbrev pub due_on : HostLanes → ℕ → Option (FrameHead × List ℕ)
due_on h lane = due_frame (held_lane h lane)

-- the states of lanes
abbrev pub states : List HostLane → List LaneState
states ps = map (λ p. p.state) ps

-- what is read at a place beyond the lanes
abbrev pub nobody : HostLane
nobody = unused (connection 0 0 0)

-- The lanes are those of the host, for each host and each priority, and each has the connection of its number.
pub record AreOf (host hosts : ℕ) (ps : List HostLane) : Type 0 where
  pub counted : length ps ≡ lane_count hosts
  pub own : (lane : ℕ) → lane < length ps → (slice_index_or ps lane nobody).key ≡ sends_on host lane

-- The lanes from one on, below another, fail a test.
abbrev pub NoneBetween : (ℕ → Bool) → ℕ → ℕ → Type 0
NoneBetween test from below = (lane : ℕ) → from ≤ lane → lane < below → test lane ≡ false

-- The least lane from one on that passes a test, if there is one among so many.
pub data IsNext (test : ℕ → Bool) (from count : ℕ) : Option ℕ → Type 0 where
  next : {lane : ℕ} → from ≤ lane → lane < count → test lane ≡ true → NoneBetween test from lane
      → IsNext test from count (Some lane)
  nobody_left : NoneBetween test from count → IsNext test from count None

-- a lane, once what isn't acknowledged is sent again
abbrev pub one_expired : HostLanes → ℕ → HostLanes
one_expired h lane = with_state h lane (lane_expired (lane_in h lane))

-- both lanes of a peer, of either priority
abbrev pub both_expired : HostLanes → ℕ → HostLanes
both_expired h peer = one_expired (one_expired h (lane_of peer 0)) (lane_of peer 1)

-- how many fragments to a peer aren't acknowledged, of both priorities
abbrev pub unacknowledged_to : HostLanes → ℕ → ℕ
unacknowledged_to h peer = unacknowledged (lane_in h (lane_of peer 0)).sender
    + unacknowledged (lane_in h (lane_of peer 1)).sender

-- a lane owes an acknowledgement
abbrev pub owes_on : HostLanes → ℕ → Bool
owes_on h lane = (lane_in h lane).owes

-- a frame is due on a lane
abbrev pub has_due : HostLanes → ℕ → Bool
has_due h lane = is_some (due_on h lane)

-- something isn't acknowledged on a lane
abbrev pub has_unacked : HostLanes → ℕ → Bool
has_unacked h lane = nat_lt 0 (unacknowledged (lane_in h lane).sender)
