-- A new world owes nothing.
use Rattle.std.proofs.Common.{◌≡◌, ◌+◌, ℕ, zero, suc, map, length, refl, arith}
use Rattle.std.specs.List.{range_with_len}
use Rattle.net_defs.specs.Network.{Network}
use Rattle.world_defs.specs.Lane.{new_lane}
use Rattle.world_defs.specs.Node.{lane_count, new_node, unacknowledged_on, unacknowledged_to, lane_of}
use Rattle.world_defs.specs.World.{WorldState, new_world, node_at, sum_of}
use Rattle.world_defs.specs.Settle.{unacknowledged_from, unacknowledged_in}
use Rattle.world_defs.proofs.Lists.{each-replicate}
use Rattle.injection_bounds.specs.Settled.{pledged}
use Rattle.injection_bounds.proofs.Acting.{new-credit}

-- a sum of nothing
none-range : (f : ℕ → ℕ) (a k : ℕ) → ((j : ℕ) → f j ≡ 0) → sum_of (map f (range_with_len a k)) ≡ 0
none-range f a zero all = refl
none-range f a (suc k) all = let one = all a in let rest = none-range f (a + 1) k all in omega (arith, one, rest)

new-lane : (k lane : ℕ) → unacknowledged_on (new_node k) lane ≡ 0
new-lane k lane =
    let same = each-replicate (λ l. l.sender.next ≡ l.sender.base) (lane_count k) lane new_lane new_lane refl refl in
    omega (arith, same)

new-peer : (k p : ℕ) → unacknowledged_to (new_node k) p ≡ 0
new-peer k p = let a = new-lane k (lane_of p 0) in let b = new-lane k (lane_of p 1) in omega (arith, a, b)

new-host : (n : Network) (h p : ℕ) → unacknowledged_to (node_at (new_world n) h) p ≡ 0
new-host n h p = each-replicate (λ x. unacknowledged_to x p ≡ 0) (length n.hosts) h (new_node (length n.hosts)) (new_node 0) (new-peer (length n.hosts) p) (new-peer 0 p)

pub new-pledged : (n : Network) → pledged (new_world n) ≡ 0
new-pledged n =
    let w : WorldState = new_world n in
    let none : unacknowledged_in w ≡ 0 = none-range (unacknowledged_from w) 0 _ (λ h. none-range (unacknowledged_to (node_at w h)) 0 _ (new-host n h)) in
    let start = new-credit n in
    omega (arith, none, start)
