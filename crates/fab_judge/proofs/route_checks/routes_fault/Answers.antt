use Rattle.fab_judge.proofs.Astray.{lacks}
use Rattle.fab_judge.proofs.route_checks.routes_fault.Goals as goal

pub fault_of_whole-requires : goal.fault_of_whole-requires
fault_of_whole-requires c = c.are_whole.ensures.0 c.if-are_whole.true

pub returns-else-are_whole-clause-fault : goal.returns-else-are_whole-clause-fault
returns-else-are_whole-clause-fault c = lacks c.args.map.now c.args.routes.now c.args.ranks.now c.are_whole.result c.are_whole.ensures c.if-are_whole.false
