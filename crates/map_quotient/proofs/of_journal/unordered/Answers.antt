use Rattle.std.proofs.Common.{◌∙◌}
use Rattle.map_quotient.proofs.of_journal.unordered.Goals as goal

pub filled-requires-clause-walked : goal.filled-requires-clause-walked
filled-requires-clause-walked c = c.walks.ensures ∙ c.requires.classes.numbered
