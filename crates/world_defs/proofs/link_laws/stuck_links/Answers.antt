use Rattle.world_defs.proofs.Idling.{stuck-still, still-stuck}
use Rattle.world_defs.proofs.link_laws.stuck_links.Goals as goal

pub returns-clause-still : goal.returns-clause-still
returns-clause-still c = stuck-still

pub returns-clause-stuck : goal.returns-clause-stuck
returns-clause-stuck c = still-stuck
