use Rattle.std.proofs.Common.{Some, None, subst, arith}
use Rattle.fab_judge.specs.Judging.{FindsFaultOn}
use Rattle.fab_judge.proofs.Judged.{routes-judged, routes-fail}
use Rattle.fab_judge.proofs.faults.fault_with_routes.Goals as goal

pub returns-in-Some-clause-judges : goal.returns-in-Some-clause-judges
returns-in-Some-clause-judges c = λ before k is.
    routes-fail c.args.f.now before k c.args.routes.now c.args.ranks c.args.past.now c.in-Some.fault.0 c.in-Some.fault.1 is
    (subst (λ m. FindsFaultOn m c.args.routes.now c.args.ranks (Some c.in-Some.fault)) c.complete_map.ensures c.in-Some.ensures.fault)

pub returns-in-Some-clause-within : goal.returns-in-Some-clause-within
returns-in-Some-clause-within c = let within = c.in-Some.ensures.within in omega (arith, within)

pub returns-in_ok-routed-in-None-clause-judges : goal.returns-in_ok-routed-in-None-clause-judges
returns-in_ok-routed-in-None-clause-judges c = λ before k is.
    routes-judged c.args.f.now before k c.args.routes.now c.args.ranks c.args.past.now c.in_ok-routed-in-None.routed is
    (subst (λ m. FindsFaultOn m c.args.routes.now c.args.ranks None) c.complete_map.ensures c.in-None.ensures.fault) c.in_ok-routed-in-None.ensures
