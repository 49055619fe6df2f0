-- The next peer to which something isn't acknowledged: as the search through the lanes ends.
use Rattle.std.proofs.Common.{◌≡◌, ◌<◌, ◌≤◌, ◌*◌, ℕ, Bool, nat_lt, Some, None, length, ap, arith}
use Rattle.std.proofs.lemmas.Bool.Decides.{nat_tests}
use Rattle.std.proofs.lemmas.List.{get_or_past}
use native.Mathlib.Decide.{dec_lt}
use Rattle.gm_defs.specs.Connection.{unacknowledged}
use Rattle.world_defs.specs.Lane.{new_lane}
use Rattle.world_defs.specs.Node.{NodeState, lane_count, lane_of, peer_of, prio_of, unacknowledged_on, unacknowledged_to}
use Rattle.world_defs.proofs.Lanes.{lane_of-parts, lane-within, peer_of-below}
use Rattle.gm_conn.specs.Lanes.{IsNext, NoneBetween}
use Rattle.nic_node.specs.Waiting.{IsNextUnacked}
use Rattle.nic_node.proofs.Choosing.{Found, found}

-- something isn't acknowledged on a lane
abbrev pub waits_on : NodeState → ℕ → Bool
waits_on n lane = nat_lt 0 (unacknowledged_on n lane)

lane-quiet : (n : NodeState) (from below lane : ℕ) → NoneBetween (waits_on n) from below → from ≤ lane → lane < below → unacknowledged_on n lane ≡ 0
lane-quiet n from below lane none low high = let quiet = none lane low high in grind (arith, nat_tests)

pub no-peer : (n : NodeState) (from : ℕ) → IsNext (waits_on n) (2 * from) (length n.lanes) None → (peer : ℕ) → from ≤ peer → unacknowledged_to n peer ≡ 0
no-peer n from least peer above =
    let a = on (lane_of peer 0) (omega (arith, above)) in
    let b = on (lane_of peer 1) (omega (arith, above)) in
    omega (arith, a, b)
  where
    on : (lane : ℕ) → 2 * from ≤ lane → unacknowledged_on n lane ≡ 0
    on lane low = elim (dec_lt lane (length n.lanes)) [
      | yes high ↦ lane-quiet n (2 * from) (length n.lanes) lane (found (waits_on n) (2 * from) (length n.lanes) None least) low high
      | no high ↦ ap (λ l. unacknowledged l.sender) (get_or_past n.lanes lane new_lane (omega (arith, high)))
    ]

pub next-peer : (n : NodeState) (hosts from lane : ℕ) → length n.lanes ≡ lane_count hosts → IsNext (waits_on n) (2 * from) (length n.lanes) (Some lane) → IsNextUnacked n hosts from (peer_of lane)
next-peer n hosts from lane count least =
    let l : Found (waits_on n) (2 * from) (length n.lanes) (Some lane) = found (waits_on n) (2 * from) (length n.lanes) (Some lane) least in
    let low = l.0 in
    let same : unacknowledged_on n (lane_of (peer_of lane) (prio_of lane)) ≡ unacknowledged_on n lane = ap (unacknowledged_on n) (lane_of-parts lane) in
    let share = lane-within n (peer_of lane) (prio_of lane) in
    let some : 0 < unacknowledged_on n lane = let waits = l.2 in grind (arith, nat_tests) in
    record {
      above = omega (arith, low);
      there = peer_of-below hosts lane (omega (arith, l.1, count));
      waits = omega (arith, same, share, some);
      passed = λ k over under.
          let a = lane-quiet n (2 * from) lane (lane_of k 0) l.3 (omega (arith, over)) (omega (arith, under)) in
          let b = lane-quiet n (2 * from) lane (lane_of k 1) l.3 (omega (arith, over)) (omega (arith, under)) in
          omega (arith, a, b);
    }
