use Rattle.net_defs.proofs.Cabling.{far-back}
use Rattle.journal_defs.proofs.laws.far_ends_go_both_ways.Goals as goal

pub returns : goal.returns
returns c = far-back
