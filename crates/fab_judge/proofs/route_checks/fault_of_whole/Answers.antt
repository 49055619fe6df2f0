use Rattle.std.proofs.Common.{sym, ◌∙◌, true≢false}
use Rattle.fab_judge.proofs.Astray.{rises}
use Rattle.fab_judge.proofs.route_checks.fault_of_whole.Goals as goal

pub returns-then-are_right-clause-fault : goal.returns-then-are_right-clause-fault
returns-then-are_right-clause-fault c =
    let right = c.are_right.ensures.0 c.if-are_right.true in
    rises c.args.map.now c.args.routes.now c.args.ranks.now c.requires right.0 right.1

pub fault_of_wrong-requires-clause-wrong : goal.fault_of_wrong-requires-clause-wrong
fault_of_wrong-requires-clause-wrong c = λ right. true≢false (sym (c.are_right.ensures.1 right) ∙ c.if-are_right.false)
