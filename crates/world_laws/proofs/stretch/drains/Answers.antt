use Rattle.world_laws.proofs.Draining.{drain-drains, drain-cost, drain-still}
use Rattle.std.specs.Prelude.{◌++◌}
use Rattle.world_defs.specs.Logs.{is_still, drain_pass}
use Rattle.world_laws.proofs.Repeating.{repeats-one}
use Rattle.world_laws.proofs.Resting.{idle-drain}
use Rattle.world_laws.proofs.stretch.drains.Goals as goal

pub returns-clause-drain : goal.returns-clause-drain
returns-clause-drain c = drain-drains

pub returns-clause-one : goal.returns-clause-one
returns-clause-one c = repeats-one (λ xs ys. xs ++ ys) (λ before p. is_still p.value) drain_pass

pub returns-clause-bound : goal.returns-clause-bound
returns-clause-bound c = drain-cost

pub returns-clause-still : goal.returns-clause-still
returns-clause-still c = drain-still

pub returns-clause-nothing : goal.returns-clause-nothing
returns-clause-nothing c = idle-drain
