-- what rises has no cycle
use Rattle.map_defs.proofs.Cycles.{certificate_leaves_no_cycle, rising_leaves_no_cycle}
use Rattle.map_defs.proofs.laws.rising_ranks_leave_no_cycle.Goals as goal

pub returns-clause-certified : goal.returns-clause-certified
returns-clause-certified c = certificate_leaves_no_cycle

pub returns-clause-rising : goal.returns-clause-rising
returns-clause-rising c = rising_leaves_no_cycle
