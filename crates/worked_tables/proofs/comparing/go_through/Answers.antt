use Rattle.std.proofs.Common.{[], subst}
use Rattle.replicate_merge.specs.Table.{StandsFor}
use Rattle.worked_tables.proofs.comparing.go_through.Goals as goal

pub go_along-requires-clause-none_yet : goal.go_along-requires-clause-none_yet
go_along-requires-clause-none_yet c = subst (λ h. StandsFor h [] c.in_ok-classes.classes) c.host.ensures c.in_ok-classes.ensures
