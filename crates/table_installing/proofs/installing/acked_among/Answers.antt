use Rattle.std.proofs.Common.{◌≡◌, ◌+◌, ℕ, List, get_or, ap, sym, ◌∙◌, arith, if◌then◌else◌}
use Rattle.route_install.specs.Installing.{Installation, acked_of}
use Rattle.table_installing.proofs.Counts.{counted-on, one-few}
use Rattle.table_installing.proofs.installing.acked_among.Goals as goal
use Rattle.table_installing.proofs.installing.acked_among.Goals.{then-acked, else-acked}

pub loop-host-preserved : goal.loop-host-preserved
loop-host-preserved c =
    let i : Installation = c.args.installer.now in
    let hosts : List ℕ = c.args.hosts.now in
    let host : ℕ = get_or hosts c.loop-host.host-index 0 in
    let so_far : ℕ = c.loop-host.count in
    let more : c.if-acked.count ≡ so_far + (if acked_of i host then 1 else 0) =
    elim c.if-acked.branch [
      | then-acked w ↦ w.count-is ∙ sym (ap (λ b. so_far + (if b then 1 else 0)) (sym c.acked.ensures ∙ w.if-acked.true))
      | else-acked w ↦ w.count-is ∙ (let none : so_far ≡ so_far + 0 = omega arith in none) ∙ sym (ap (λ b. so_far + (if b then 1 else 0)) (sym c.acked.ensures ∙ w.if-acked.false))
    ] in
    let one = one-few (acked_of i host) in
    let few = c.loop-host.invariant.few in
    record {
      counted = counted-on i hosts c.loop-host.host-index so_far c.if-acked.count c.loop-host-test.true c.loop-host.invariant.counted more;
      few = omega (arith, more, one, few);
    }
