-- The lanes of a host by their numbers: each is of one peer and one priority.
use Rattle.std.proofs.Common.{◌≡◌, ◌<◌, ◌≤◌, ℕ, zero, suc, ap, arith}
use Rattle.gm_defs.specs.declared.frame.ConnectionKey.{ConnectionKey}
use Rattle.world_defs.specs.Node.{lane_count, prio_place, lane_of, peer_of, prio_of, sending_lane, taking_lane, NodeState, unacknowledged_on, unacknowledged_to}

-- a lane is that of its peer and its priority
pub lane_of-parts : (lane : ℕ) → lane_of (peer_of lane) (prio_of lane) ≡ lane
lane_of-parts lane = grind (arith)

pub peer_of-lane : (peer prio : ℕ) → peer_of (lane_of peer prio) ≡ peer
peer_of-lane peer prio = grind (arith)

pub prio_of-lane : (peer prio : ℕ) → prio_of (lane_of peer prio) ≡ prio_place prio
prio_of-lane peer prio = grind (arith)

pub lane_of-again : (peer other prio : ℕ) → lane_of peer (prio_of (lane_of other prio)) ≡ lane_of peer prio
lane_of-again peer other prio = grind (arith)

-- a message of a lane's priority stands in that lane
pub lane_of-place : (lane prio : ℕ) → prio_place prio ≡ prio_of lane → lane_of (peer_of lane) prio ≡ lane
lane_of-place lane prio e = grind (arith)

-- what stands at the other end of a lane of a host: at its peer, in the lane that faces it
abbrev pub facing : {X : Type 0} → (ℕ → ℕ → X) → ℕ → ℕ → X
facing f host lane = f (peer_of lane) (lane_of host (prio_of lane))

-- the two lanes of a connection face each other
pub facing-taking : {X : Type 0} (f : ℕ → ℕ → X) (c : ConnectionKey) → facing f c.dst (taking_lane c) ≡ f c.src (sending_lane c)
facing-taking f c = λ i. f (peer_of-lane c.src c.prio i) (lane_of-again c.dst c.src c.prio i)

pub facing-sending : {X : Type 0} (f : ℕ → ℕ → X) (c : ConnectionKey) → facing f c.src (sending_lane c) ≡ f c.dst (taking_lane c)
facing-sending f c = λ i. f (peer_of-lane c.dst c.prio i) (lane_of-again c.src c.dst c.prio i)

-- there are as many peers as lanes for each priority
pub peer_of-below : (hosts lane : ℕ) → lane < lane_count hosts → peer_of lane < hosts
peer_of-below hosts lane low = grind (arith)

pub lane_of-below : (hosts peer prio : ℕ) → peer < hosts → lane_of peer prio < lane_count hosts
lane_of-below hosts peer prio low = grind (arith)

-- what isn't acknowledged of a lane isn't acknowledged to its peer
pub lane-within : (n : NodeState) (peer prio : ℕ) → unacknowledged_on n (lane_of peer prio) ≤ unacknowledged_to n peer
lane-within n peer zero = omega arith
lane-within n peer (suc prio) =
    let one : lane_of peer (suc prio) ≡ lane_of peer 1 = omega arith in
    let same : unacknowledged_on n (lane_of peer (suc prio)) ≡ unacknowledged_on n (lane_of peer 1) = ap (unacknowledged_on n) one in
    omega (arith, same)
