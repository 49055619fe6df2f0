use Rattle.std.proofs.Common.{◌≡◌, ◌≤◌, ◌<◌, true, length, get_or, nat_lt, List, ℕ, arith, rules}
use Rattle.std.proofs.lemmas.Bool.Decides.{nat_tests}
use Rattle.std.proofs.lemmas.List.Sorted.{IsPartitionPoint-from_clause}
use Rattle.net_defs.specs.declared.route.Route.{Route}
use Rattle.net_defs.specs.RouteSet.{AreRising}
use Rattle.route_install.proofs.Cutting.{counted-at, from-rises}
use Rattle.route_install.proofs.cut.count_below.Goals as goal

below : (n : ℕ) (rs : List Route) → AreRising rs → (i j : ℕ) (d : Route) → i ≤ j → j < length rs → nat_lt (get_or rs j d).from n ≡ true → nat_lt (get_or rs i d).from n ≡ true
below n rs up i j d le lt e = let rises = from-rises rs up i j d le lt in grind (arith, nat_tests)

pub returns-else-is_count_below : goal.returns-else-is_count_below
returns-else-is_count_below c =
    let rs = c.args.routes.now in
    let n = c.args.limit in
    let k = c.partition_point.result in
    let parts = IsPartitionPoint-from_clause (λ (r : Route). nat_lt r.from n) rs k c.partition_point.ensures.partitioned (below n rs c.requires) (λ a r q k. search rules) in
    counted-at n rs k c.partition_point.ensures.bound (λ i d l. parts.0 i d (omega arith) l) (λ i d l m. parts.1 i d l m)
