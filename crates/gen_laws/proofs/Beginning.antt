-- The hosts of a generated run before its first call: no port is open, nothing was sent, and each has a route to each other one.
use Rattle.std.proofs.Common.{◌≡◌, ◌≢◌, ◌<◌, ℕ, true, false, List, [], length, Option, Some, None, is_some, refl, sym, ap, ◌∙◌, arith, true≢false}
use Rattle.std.specs.List.{AllByRecursion}
use Rattle.net_defs.specs.Network.{Network}
use Rattle.gm_defs.specs.declared.message.Message.{Message}
use Rattle.gm_defs.specs.Fragment.{fragments}
use Rattle.world_defs.specs.Table.{table_route}
use Rattle.world_defs.specs.Node.{lane_count, lane_at, sends_on, port_at}
use Rattle.world_defs.specs.World.{WorldState, host_count, node_at}
use Rattle.world_defs.specs.Acts.{IsReached}
use Rattle.world_defs.proofs.Lanes.{lane_of-parts}
use Rattle.world_laws.specs.Shape.{IsWorld}
use Rattle.message_laws.proofs.Known.{reached-count, reached-known}
use Rattle.message_laws.proofs.Taken.{reached-world}
use Rattle.gen_laws.proofs.Hosts.{row_at, Hosts}
use Rattle.gen_laws.proofs.Opening.{Opening}
use Rattle.gen_laws.proofs.Steady.{IsUncalled, shut-first, unsent-first}

none-open : {A : Type 0} (o : Option A) → is_some o ≡ false → o ≡ None
none-open None e = refl
none-open (Some x) e = absurd (true≢false e)

pub begins : (g : Network) (n seed : ℕ) (w : WorldState) (is : IsReached g w) → length g.hosts ≡ n → AllByRecursion IsUncalled is.acts → ((h dest : ℕ) → h < n → dest < n → dest ≢ h → is_some (table_route (node_at w h).table dest) ≡ true)
    → Hosts n (Opening n seed 0 0) w
begins g n seed w is hosts uncalled routed =
    let shape : IsWorld w = reached-world g w is in
    let count : host_count w ≡ n = reached-count g w is ∙ hosts in
    record { count = count; rows = shape.clients ∙ count; each = λ h low. at shape count h low (omega (arith, low, count)) (omega (arith, low, hosts)) }
  where
    unsent : (h lane : ℕ) → (lane_at (node_at w h) lane).sent ≡ []
    unsent h lane = ap (λ k. (lane_at (node_at w h) k).sent) (sym (lane_of-parts lane)) ∙ unsent-first g w is uncalled (sends_on h lane)

    at : IsWorld w → host_count w ≡ n → (h : ℕ) → h < n → h < host_count w → h < length g.hosts → Opening n seed 0 0 h (node_at w h) (row_at w h)
    at shape count h low there inside = record {
      plain = record {
        lanes = (shape.each_node h there).lanes ∙ ap lane_count count;
        ports = (shape.each_node h there).ports;
        clients = shape.each_client h there;
        routed = λ dest below other. routed h dest low below other;
        sent = λ lane. unsent h lane;
        few = λ lane.
            let number = ((reached-known g w h is inside).numbered lane).numbered in
            let none = ap (λ (ms : List Message). length (fragments ms)) (unsent h lane) in
            omega (arith, number, none);
      };
      sends = λ l. absurd (omega (arith, l));
      takes = λ l. absurd (omega (arith, l));
      no_sends = λ l. none-open (port_at (node_at w h) 0) ((shut-first g w is uncalled h).each 0);
      no_takes = λ l. none-open (port_at (node_at w h) 1) ((shut-first g w is uncalled h).each 1);
    }
