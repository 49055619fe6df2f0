use Rattle.fab_judge.proofs.Judged.{map-wrong, map-judged}
use Rattle.fab_judge.proofs.faults.fault_with_map.Goals as goal

pub returns-then-not-is_right-clause-judges : goal.returns-then-not-is_right-clause-judges
returns-then-not-is_right-clause-judges c = λ n before k is.
    map-wrong n before k c.args.line.now c.args.map _ c.in_ok-is_right.is_right is c.in_ok-is_right.ensures c.if-not-is_right.true

pub returns-clause-judges : goal.returns-clause-judges
returns-clause-judges c = λ n before k is.
    map-judged n before k c.args.line.now c.args.map c.args.past.now _ c.in_ok-is_right.is_right is c.in_ok-is_right.ensures c.if-not-is_right.false c.in_ok-show.ensures
