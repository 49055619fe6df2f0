-- The example computes.
use Rattle.std.proofs.Common.{refl}
use Rattle.world_defs.specs.Node.{to_send, packet_for, after_sending}
use Rattle.world_defs.specs.Hearing.{hear}
use Rattle.world_defs.specs.Client.{begun, provided_by, sent_by, polled_by}
use Rattle.world_defs.specs.Step.{planned_strikes, sent_out, injected, advanced}
use Rattle.client_laws.specs.SeenExamples.{MessageIsPolled}

pub message-polled : MessageIsPolled
unfolding to_send packet_for after_sending hear begun provided_by sent_by polled_by planned_strikes sent_out injected advanced
message-polled = (refl, refl, refl, refl, refl)
