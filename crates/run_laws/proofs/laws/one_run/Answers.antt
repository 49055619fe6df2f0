use Rattle.run_laws.proofs.OneRoutes.{routes_are_one}
use Rattle.run_laws.proofs.RunsOnce.{doing_is_one, runs_are_one}
use Rattle.run_laws.proofs.laws.one_run.Goals as goal

pub returns-clause-routes : goal.returns-clause-routes
returns-clause-routes c = routes_are_one

pub returns-clause-command : goal.returns-clause-command
returns-clause-command c = doing_is_one

pub returns-clause-commands : goal.returns-clause-commands
returns-clause-commands c = runs_are_one
