use Rattle.std.proofs.Common.{is_none, ap, ◌∙◌}
use Rattle.route_install.specs.Installing.{is_done}
use Rattle.route_install.proofs.Works.{none-open}
use Rattle.route_install.proofs.installer.Installer.next.Goals as goal

pub returns-in-Some-clause-ended : goal.returns-in-Some-clause-ended
returns-in-Some-clause-ended c = ap is_none c.in-Some.ensures.value ∙ none-open (is_done c.args.self.now.tries) c.args.self.now.works

pub returns-in-None-clause-ended : goal.returns-in-None-clause-ended
returns-in-None-clause-ended c = ap is_none c.in-None.ensures.value ∙ none-open (is_done c.args.self.now.tries) c.args.self.now.works
