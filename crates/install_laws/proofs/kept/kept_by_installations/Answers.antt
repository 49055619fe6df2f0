use Rattle.install_laws.proofs.Installing.{installing-keeps, installing-idle, install-again}
use Rattle.install_laws.proofs.kept.kept_by_installations.Goals as goal

pub returns-clause-kept : goal.returns-clause-kept
returns-clause-kept c = installing-keeps

pub returns-clause-idle : goal.returns-clause-idle
returns-clause-idle c = installing-idle

pub returns-clause-again : goal.returns-clause-again
returns-clause-again c = install-again
