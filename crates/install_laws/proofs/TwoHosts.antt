-- The worked installations, computed.
use Rattle.std.proofs.Common.{◌≡◌, ◌<◌, ℕ, zero, suc, false, refl, arith}
use Rattle.world_defs.specs.declared.fault.Fault.TheVariants.{Lose}
use Rattle.world_defs.specs.Table.{applied, has_revoked}
use Rattle.world_defs.specs.World.{host_count, node_at}
use Rattle.world_defs.specs.Node.{to_send, packet_for, after_sending}
use Rattle.world_defs.specs.Hearing.{hear}
use Rattle.world_defs.specs.Step.{part_staged, planned_strikes, sent_out, injected, advanced, gave_up}
use Rattle.world_defs.specs.Logs.{drain, sends, part_try, install}
use Rattle.table_laws.specs.Examples.{adopted_world}
use Rattle.table_laws.proofs.TwoHosts.{adopted-reached}
use Rattle.install_laws.proofs.Leads.{leads-plan, reached-further}
use Rattle.install_laws.specs.Examples.{losing, BothCanInstall, BothAreCounted, LostPartIsMissed, LostAnswerIsMissed, SecondTryCounts, CutHostIsMissed}

both-unrevoked : (h : ℕ) → h < host_count (losing 1) → has_revoked 1 (node_at (losing 1) h).table ≡ false
both-unrevoked zero low = refl
both-unrevoked (suc zero) low = refl
both-unrevoked (suc (suc h)) low = refl

pub both-can_install : BothCanInstall
both-can_install = record {
  reached = reached-further _ adopted_world _ adopted-reached (leads-plan adopted_world 1 Lose (omega arith) tt);
  idle = refl;
  adopted = refl;
  unchanged = refl;
  unrevoked = both-unrevoked;
  set = record {
    in_order = ((refl, tt), (tt, tt));
    few_turns = (omega arith, (omega arith, tt));
    joined = (λ other. absurd (other refl), (λ other. record { there = record { place = 0; route = _; there = refl; from = refl; to = refl }; back = record { place = 1; route = _; there = refl; from = refl; to = refl } }, tt));
  };
}

pub both-counted : BothAreCounted
unfolding sends part_try install drain hear applied to_send packet_for after_sending part_staged planned_strikes sent_out injected advanced gave_up
both-counted = (refl, refl)

pub part-missed : LostPartIsMissed
unfolding sends part_try install drain hear applied to_send packet_for after_sending part_staged planned_strikes sent_out injected advanced gave_up
part-missed = (refl, refl, refl)

pub answer-missed : LostAnswerIsMissed
unfolding sends part_try install drain hear applied to_send packet_for after_sending part_staged planned_strikes sent_out injected advanced gave_up
answer-missed = (refl, refl, refl)

pub second-counts : SecondTryCounts
unfolding sends part_try install drain hear applied to_send packet_for after_sending part_staged planned_strikes sent_out injected advanced gave_up
second-counts = (refl, refl)

pub cut-missed : CutHostIsMissed
unfolding sends part_try install drain hear applied to_send packet_for after_sending part_staged planned_strikes sent_out injected advanced gave_up
cut-missed = (refl, refl, refl)
