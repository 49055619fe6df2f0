use Rattle.run_laws.proofs.InstallLines.{right-short}
use Rattle.run_laws.proofs.install_lines.short_routes.Goals as goal

pub returns : goal.returns
returns c = right-short
