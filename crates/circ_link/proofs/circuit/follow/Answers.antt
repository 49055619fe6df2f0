use Rattle.std.proofs.Common.{arith}
use Rattle.std.proofs.lemmas.Grind.{common_steps}
use Rattle.circ_link.proofs.Following.{entered_after-stuck}
use Rattle.circ_link.proofs.circuit.follow.Goals as goal

pub returns-in-None-clause-entered : goal.returns-in-None-clause-entered
returns-in-None-clause-entered c = grind (arith, common_steps, entered_after-stuck)
