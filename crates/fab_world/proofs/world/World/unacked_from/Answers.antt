use Rattle.std.proofs.Common.{◌≡◌, ℕ, arith, ap, ◌+◌, ◌-◌}
use Rattle.world_defs.specs.Node.{unacknowledged_to}
use Rattle.world_defs.specs.World.{host_count, node_at}
use Rattle.fab_world.proofs.PassedBy.{up-to, to-end}
use Rattle.fab_world.proofs.Summing.{Summing, summing-on, summing-all, summing-none}
use Rattle.fab_world.proofs.world.World.unacked_from.Goals as goal

pub loop-peer-preserved : goal.loop-peer-preserved
loop-peer-preserved c =
    let w = c.args.self.now in
    let left = unacknowledged_to (node_at w c.args.host) in
    let f = c.in-Some.ensures.found in
    let sum : ℕ = c.loop-peer.sum in
    let at = up-to (λ p. left p ≡ 0) (λ p. Summing left (host_count w) p sum) w c.loop-peer.from (summing-none left (host_count w) sum) c.in-Some.peer f.above f.there f.passed c.loop-peer.invariant.sums in
    record {
      sums = summing-on left (host_count w) c.in-Some.peer sum (sum + c.unacked_to-sum.result) at f.there (ap (λ (n : ℕ). sum + n) c.unacked_to-sum.ensures.sum);
      within = omega (arith, f.there);
      few = omega (arith, f.above, c.loop-peer.invariant.few, c.unacked_to-sum.ensures.few);
    }

pub returns-clause-sum : goal.returns-clause-sum
returns-clause-sum c =
    let w = c.args.self.now in
    let left = unacknowledged_to (node_at w c.args.host) in
    let sum : ℕ = c.loop-peer.sum in
    let from : ℕ = c.loop-peer.from in
    let all = to-end (λ p. left p ≡ 0) (λ p. Summing left (host_count w) p sum) w from (summing-none left (host_count w) sum) (λ p low high. c.in_default.ensures.none p low) c.loop-peer.invariant.sums in
    summing-all left (host_count w) (from + (host_count w - from)) sum all (omega arith)
