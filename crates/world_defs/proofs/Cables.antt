-- In a world that is reached from the new one of a fabric, the cables are a history that begins with the fabric, and they were accepted at the adoption.
use Rattle.std.proofs.Common.{◌≡◌, ◌≤◌, refl, ◌∙◌, arith}
use Rattle.net_defs.specs.Network.{Network, IsFabric}
use Rattle.world_defs.proofs.FewCables.{few_named}
use Rattle.world_defs.specs.History.{IsHistory, fabric_at}
use Rattle.world_defs.proofs.First.{first_is_history, first_stands}
use Rattle.world_defs.specs.Table.{at_in}
use Rattle.world_defs.specs.World.{WorldState, new_world}
use Rattle.world_defs.specs.Acts.{acted, IsReached}
use Rattle.world_defs.proofs.ActsKept.{CablesKept, acted-kept}
use Rattle.world_defs.proofs.Reaching.{reached-has}

pub record HasCables (n : Network) (w : WorldState) : Type 0 where
  pub hosts : w.links.cables.hosts ≡ n.hosts
  pub switches : w.links.cables.switches ≡ n.switches
  pub history : IsHistory w.links.cables
  pub first : fabric_at w.links.cables 0 ≡ n
  pub accepted : w.links.cables.accepted ≡ at_in w.adopted
  pub began : at_in w.adopted ≤ w.links.cables.changes

pub new-cables : (n : Network) → IsFabric n → HasCables n (new_world n)
new-cables n f =
    let few = few_named n f in
    record { hosts = refl; switches = refl; history = first_is_history n f (omega (arith, few)); first = (first_stands n 0).1; accepted = refl; began = omega arith }

pub cables-kept : (n : Network) (w v : WorldState) → CablesKept w v → HasCables n w → HasCables n v
cables-kept n w v k is = record {
  hosts = k.hosts ∙ is.hosts;
  switches = k.switches ∙ is.switches;
  history = k.history is.history;
  first = k.past 0 (omega arith) ∙ is.first;
  accepted = k.accepted is.accepted;
  began = k.began is.began;
}

pub reached-cables : (n : Network) (w : WorldState) → IsReached n w → HasCables n w
reached-cables n w r = reached-has (HasCables n) n (new-cables n r.fabric) (λ v a reached may is. cables-kept n v (acted v a) (acted-kept v a) is) w r

pub reached-history : (n : Network) (w : WorldState) → IsReached n w → IsHistory w.links.cables
reached-history n w r = (reached-cables n w r).history
