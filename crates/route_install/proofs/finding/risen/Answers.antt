use Rattle.std.proofs.Common.{sym, ◌∙◌}
use Rattle.route_install.proofs.Rising.{all-risen}
use Rattle.route_install.proofs.finding.risen.Goals as goal

pub returns-then-rising : goal.returns-then-rising
returns-then-rising c = all-risen (λ e. e.now) c.args.to c.args.parts.now c.entry_for.result (sym c.requires ∙ c.if-rising.true) c.entry_for.ensures.there c.entry_for.ensures.to
