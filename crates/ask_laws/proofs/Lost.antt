-- The worked asks, computed.
use Rattle.std.proofs.Common.{refl, arith}
use Rattle.net_defs.specs.Examples.{two_hosts}
use Rattle.net_defs.proofs.TwoHosts.{two_hosts_fabric}
use Rattle.world_defs.proofs.First.{first_is_history}
use Rattle.world_defs.specs.declared.fault.Fault.TheVariants.{Lose}
use Rattle.world_defs.specs.Node.{to_send, packet_for, after_sending}
use Rattle.world_defs.specs.Hearing.{hear}
use Rattle.world_defs.specs.World.{new_world}
use Rattle.world_defs.specs.Step.{asked, planned_strikes, sent_out, injected, advanced, gave_up}
use Rattle.world_defs.specs.Logs as log
use Rattle.world_defs.specs.Logs.{pass}
use Rattle.world_laws.proofs.Shapes.{new-world, planned-world}
use Rattle.ask_laws.specs.Examples.{HostCanAsk, OneTryDrowns, SecondTryFinds, PulledAskDrowns}

pub host-can_ask : HostCanAsk
host-can_ask = record {
  stood = record { history = first_is_history two_hosts two_hosts_fabric (omega arith); made = omega arith; unplugged = (refl, (refl, tt)) };
  world = planned-world (new_world two_hosts) 1 Lose (new-world two_hosts);
  idle = refl;
  is_host = omega arith;
  turns = (refl, tt);
  few_turns = omega arith;
  byte_flips = (tt, tt);
}

pub one_try-drowns : OneTryDrowns
unfolding log.sends log.host_try log.loop_try log.ask log.drain hear to_send packet_for after_sending asked planned_strikes sent_out injected advanced gave_up
one_try-drowns = (refl, refl)

pub second_try-finds : SecondTryFinds
unfolding log.sends log.host_try log.loop_try log.ask log.drain hear to_send packet_for after_sending asked planned_strikes sent_out injected advanced gave_up
second_try-finds = (refl, refl)

pub pulled_ask-drowns : PulledAskDrowns
unfolding log.sends log.host_try log.loop_try log.ask log.drain hear to_send packet_for after_sending asked planned_strikes sent_out injected advanced gave_up
pulled_ask-drowns = (refl, refl, refl)
