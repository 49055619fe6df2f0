-- Every world that is reached is sound.
use Rattle.std.proofs.Common.{sym, subst}
use Rattle.net_defs.specs.Network.{Network}
use Rattle.world_defs.specs.World.{WorldState, node_at, client_at}
use Rattle.world_defs.specs.Node.{port_at}
use Rattle.world_defs.specs.Sound.{IsSound, AreOwned}
use Rattle.world_defs.specs.Acts.{IsReached}
use Rattle.table_laws.proofs.Dependencies.{installed-no_cycle}
use Rattle.owner_laws.proofs.Owners.{always-owned}
use Rattle.message_laws.proofs.Worlds.{got-front}

pub reached-sound : (n : Network) (w : WorldState) → IsReached n w → IsSound w
reached-sound n w is = record {
  no_cycle = installed-no_cycle n w is;
  in_order = got-front n w is;
  one_owner = λ h port. subst (λ v. AreOwned (port_at (node_at v h) port) (client_at v h port)) (sym is.leads) (always-owned n is.acts h port);
}
