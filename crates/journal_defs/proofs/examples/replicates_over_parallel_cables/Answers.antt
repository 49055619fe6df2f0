-- one host, and what lies behind it
use Rattle.std.proofs.Common.{refl}
use Rattle.net_defs.specs.Examples.{switch_end}
use Rattle.journal_defs.proofs.Grown.{parallel_host, parallel_switch}
use Rattle.journal_defs.proofs.examples.replicates_over_parallel_cables.Goals as goal

pub returns-clause-one_host : goal.returns-clause-one_host
returns-clause-one_host c = parallel_host

pub returns-clause-behind_it : goal.returns-clause-behind_it
returns-clause-behind_it c = parallel_switch

pub returns-clause-three_ports_apart : goal.returns-clause-three_ports_apart
returns-clause-three_ports_apart c = record { at_u = switch_end 1 3; at_v = switch_end 1 6; is_at_u = refl; is_at_v = refl; one_vertex = refl; apart = refl }
