-- No host before this one ends the search.
use Rattle.std.proofs.Common.{not}
use Rattle.world_defs.specs.Table.{has_revoked}
use Rattle.world_defs.specs.World.{host_count, node_at}
use Rattle.fab_world.proofs.Revoking.{Finding}
use Rattle.fab_world.proofs.machine.Machine.first_unrevoked.Given as goal

abbrev pub invariant-loop-host : goal.invariant-loop-host
invariant-loop-host l = Finding (λ h. not (has_revoked l.epoch (node_at l.self h).table)) (host_count l.self) l.host
