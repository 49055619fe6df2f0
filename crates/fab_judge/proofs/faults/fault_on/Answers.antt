use Rattle.std.proofs.Common.{◌≤◌, ◌+◌, List, length, Some, IfSome, sym, subst}
use Rattle.std.specs.Prelude.{option_copied}
use Rattle.map_defs.specs.declared.rank.RankEntry.{RankEntry}
use Rattle.answer_defs.specs.declared.why.Why.TheVariants.{Route}
use Rattle.fab_judge.specs.Checks.{FindsFault}
use Rattle.fab_judge.specs.Judging.{FindsFaultOn}
use Rattle.fab_judge.proofs.Judged.{found-on, found-none}
use Rattle.fab_judge.proofs.faults.fault_on.Goals as goal

pub returns-in-Some-clause-fault : goal.returns-in-Some-clause-fault
returns-in-Some-clause-fault c =
    let found = subst (λ k. FindsFault c.in-Some.map.now c.args.routes.now k c.routes_fault.result) c.over-known.ensures c.routes_fault.ensures.fault in
    subst (λ o. FindsFaultOn (option_copied o) c.args.routes.now c.args.ranks c.routes_fault.result) (sym c.in-Some.is)
    (found-on c.in-Some.map.now c.args.routes.now c.args.ranks c.routes_fault.result found)

pub returns-in-Some-clause-within : goal.returns-in-Some-clause-within
returns-in-Some-clause-within c =
    subst (λ (k : List RankEntry). IfSome c.routes_fault.result (λ p. p.0 ≤ length c.args.routes.now + length k + 1)) c.over-known.ensures c.routes_fault.ensures.within

pub returns-in-None-clause-fault : goal.returns-in-None-clause-fault
returns-in-None-clause-fault c =
    subst (λ o. FindsFaultOn (option_copied o) c.args.routes.now c.args.ranks (Some (0, Route))) (sym c.in-None.is) (found-none c.args.routes.now c.args.ranks)
