use Rattle.std.proofs.Common.{ℕ, arith, ap, ◌+◌, ◌-◌}
use Rattle.world_defs.specs.World.{host_count}
use Rattle.world_defs.specs.Settle.{unacknowledged_from}
use Rattle.fab_world.specs.Resting.{RestsIn}
use Rattle.fab_world.proofs.PassedBy.{up-to, to-end}
use Rattle.fab_world.proofs.Summing.{Summing, summing-on, summing-all, summing-by}
use Rattle.fab_world.proofs.world.World.unacked.Goals as goal

pub loop-host-preserved : goal.loop-host-preserved
loop-host-preserved c =
    let w = c.args.self.now in
    let f = c.in-Some.ensures.found in
    let sum : ℕ = c.loop-host.sum in
    let at = up-to (RestsIn w) (λ h. Summing (unacknowledged_from w) (host_count w) h sum) w c.loop-host.from (summing-by w sum) c.in-Some.host f.above f.there f.passed c.loop-host.invariant.sums in
    record {
      sums = summing-on (unacknowledged_from w) (host_count w) c.in-Some.host sum (sum + c.unacked_from-sum.result) at f.there (ap (λ (n : ℕ). sum + n) c.unacked_from-sum.ensures.sum);
      within = omega (arith, f.there);
      few = omega (arith, f.above, c.loop-host.invariant.few, c.unacked_from-sum.ensures.few);
    }

pub returns-clause-sum : goal.returns-clause-sum
returns-clause-sum c =
    let w = c.args.self.now in
    let sum : ℕ = c.loop-host.sum in
    let from : ℕ = c.loop-host.from in
    let all = to-end (RestsIn w) (λ h. Summing (unacknowledged_from w) (host_count w) h sum) w from (summing-by w sum) c.in_default.ensures.none c.loop-host.invariant.sums in
    summing-all (unacknowledged_from w) (host_count w) (from + (host_count w - from)) sum all (omega arith)
