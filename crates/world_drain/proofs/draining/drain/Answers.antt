use Rattle.std.proofs.Common.{sym, ap, subst, ◌≤◌}
use Rattle.world_defs.specs.Hops.{total_hops}
use Rattle.world_laws.proofs.Draining.{drain-cost}
use Rattle.world_drain.proofs.draining.drain.Goals as goal

pub returns-clause-few : goal.returns-clause-few
returns-clause-few c =
    let w = c.args.w.now in
    subst (λ n. n ≤ total_hops w.links) (sym (ap (λ s. s.changes) c.in_ok-seen.ensures.seen)) (drain-cost w)
