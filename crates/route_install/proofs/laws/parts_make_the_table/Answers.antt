use Rattle.route_install.proofs.Gathering.{parts-whole, parts-missing}
use Rattle.route_install.proofs.laws.parts_make_the_table.Goals as goal

pub returns-clause-whole : goal.returns-clause-whole
returns-clause-whole c = parts-whole

pub returns-clause-missing : goal.returns-clause-missing
returns-clause-missing c = parts-missing
