use Rattle.run_laws.proofs.InstallLines.{run-set, run-can_install, line-true}
use Rattle.run_laws.proofs.install_lines.installed_lines.Goals as goal

pub returns-clause-routes : goal.returns-clause-routes
returns-clause-routes c = run-set

pub returns-clause-can : goal.returns-clause-can
returns-clause-can c = run-can_install

pub returns-clause-line : goal.returns-clause-line
returns-clause-line c = line-true
