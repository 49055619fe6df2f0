-- What is known of each host of a reached world.
use Rattle.std.proofs.Common.{◌≡◌, ◌<◌, ℕ, length, sym, ap, ◌∙◌, subst, arith}
use Rattle.net_defs.specs.Network.{Network}
use Rattle.world_defs.specs.Node.{port_at}
use Rattle.world_defs.specs.World.{WorldState, host_count, node_at, client_at}
use Rattle.world_defs.specs.Sound.{AreOwned}
use Rattle.world_defs.specs.Acts.{IsReached}
use Rattle.world_defs.proofs.Cables.{reached-cables}
use Rattle.owner_laws.proofs.Owners.{always-owned}
use Rattle.message_laws.proofs.Windows.{IsWindowed, reached-windowed}
use Rattle.message_laws.proofs.Taken.{reached-world}
use Rattle.message_laws.proofs.HostTickets.{IsKnown}
use Rattle.message_laws.proofs.Routed.{route-there}

pub reached-count : (n : Network) (w : WorldState) → IsReached n w → host_count w ≡ length n.hosts
reached-count n w is =
    (reached-world n w is).hosts ∙ ap length (reached-cables n w is).hosts

pub reached-known : (n : Network) (w : WorldState) (h : ℕ) → IsReached n w → h < length n.hosts → IsKnown (node_at w h) (client_at w h) (host_count w)
reached-known n w h is low =
    let r : IsWindowed w = reached-windowed n w is in
    let count = reached-count n w is in
    record {
      numbered = λ k. (r.ordered.hosts h).lanes k;
      senders = λ k. r.senders.in_order h k;
      owned = λ port. subst (λ v. AreOwned (port_at (node_at v h) port) (client_at v h port)) (sym is.leads) (always-owned n is.acts h port);
      lanes = ((reached-world n w is).each_node h (omega (arith, count, low))).lanes;
      routed = λ dest e. let there = route-there n w h dest is e in omega (arith, there, count);
    }
