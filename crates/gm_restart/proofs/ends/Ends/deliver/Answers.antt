use Rattle.std.proofs.Common.{sym, subst}
use Rattle.gm_restart.specs.Whole.{BothAreWaiting}
use Rattle.gm_restart.proofs.ends.Ends.deliver.Goals as goal

pub arrive-requires-clause-first : goal.arrive-requires-clause-first
arrive-requires-clause-first c = subst BothAreWaiting (sym c.self.view_is) c.requires 0

pub arrive-requires-clause-second : goal.arrive-requires-clause-second
arrive-requires-clause-second c = subst BothAreWaiting (sym c.self.view_is) c.requires 1
