-- A sum over hosts under way: what was summed so far and the sum over those from an address on are the whole sum.
use Rattle.std.proofs.Common.{◌≡◌, ◌<◌, ◌≤◌, ℕ, suc, ◌+◌, ◌-◌, map, ap, arith}
use Rattle.std.specs.List.{range_with_len}
use Rattle.world_defs.specs.Node.{unacknowledged_to}
use Rattle.world_defs.specs.World.{WorldState, host_count, addresses, node_at, sum_of}
use Rattle.world_defs.specs.Settle.{unacknowledged_from}
use Rattle.fab_world.specs.Resting.{RestsIn}
use Rattle.fab_world.proofs.Waiting.{none-in-sum}

pub record Summing (f : ℕ → ℕ) (count from sum : ℕ) : Type 0 where
  pub rest : sum + sum_of (map f (range_with_len from (count - from))) ≡ sum_of (map f (range_with_len 0 count))

pub summing-on : (f : ℕ → ℕ) (count from sum next : ℕ) → Summing f count from sum → from < count → next ≡ sum + f from → Summing f count (from + 1) next
summing-on f count from sum next s low is =
    let left : count - from ≡ suc (count - (from + 1)) = omega (arith, low) in
    let first : sum_of (map f (range_with_len from (count - from))) ≡ f from + sum_of (map f (range_with_len (from + 1) (count - (from + 1)))) = ap (λ n. sum_of (map f (range_with_len from n))) left in
    let before = s.rest in
    record { rest = omega (arith, first, before, is) }

pub summing-all : (f : ℕ → ℕ) (count from sum : ℕ) → Summing f count from sum → count ≤ from → sum ≡ sum_of (map f (range_with_len 0 count))
summing-all f count from sum s past =
    let left : count - from ≡ 0 = omega (arith, past) in
    let none : sum_of (map f (range_with_len from (count - from))) ≡ 0 = ap (λ n. sum_of (map f (range_with_len from n))) left in
    let before = s.rest in
    omega (arith, none, before)

-- where nothing is summed
pub summing-none : (f : ℕ → ℕ) (count sum from : ℕ) → f from ≡ 0 → from < count → Summing f count from sum → Summing f count (from + 1) sum
summing-none f count sum from none low s = summing-on f count from sum sum s low (omega (arith, none))

-- of a host at rest nothing is summed
pub rests-none : (w : WorldState) (h : ℕ) → RestsIn w h → unacknowledged_from w h ≡ 0
rests-none w h r = none-in-sum (unacknowledged_to (node_at w h)) (addresses w) r.acknowledged

pub summing-by : (w : WorldState) (sum h : ℕ) → RestsIn w h → h < host_count w → Summing (unacknowledged_from w) (host_count w) h sum → Summing (unacknowledged_from w) (host_count w) (h + 1) sum
summing-by w sum h r low s = summing-none (unacknowledged_from w) (host_count w) sum h (rests-none w h r) low s
