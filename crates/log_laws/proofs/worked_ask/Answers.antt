use Rattle.std.proofs.Common.{refl}
use Rattle.world_defs.specs.Node.{to_send, packet_for, after_sending}
use Rattle.world_defs.specs.Hearing.{hear}
use Rattle.world_defs.specs.Step.{asked, planned_strikes, sent_out, injected, advanced, gave_up}
use Rattle.world_defs.specs.Logs.{drain, sends, host_try, ask}
use Rattle.log_laws.proofs.worked_ask.Goals as goal

pub returns-clause-answer : goal.returns-clause-answer
unfolding drain sends host_try ask asked planned_strikes sent_out injected advanced gave_up to_send packet_for after_sending hear
returns-clause-answer c = refl

pub returns-clause-events : goal.returns-clause-events
unfolding drain sends host_try ask asked planned_strikes sent_out injected advanced gave_up to_send packet_for after_sending hear
returns-clause-events c = refl
