-- The counts of the examples compute.
use Rattle.std.proofs.Common.{refl}
use Rattle.world_defs.specs.Node.{to_send, packet_for, after_sending}
use Rattle.world_defs.specs.Hearing.{hear}
use Rattle.world_defs.specs.Client.{begun, provided_by, sent_by}
use Rattle.world_defs.specs.Step.{lost, planned_strikes, sent_out, injected, advanced}
use Rattle.delivery_laws.specs.Examples.{TokensAreCounted}

pub tokens-counted : TokensAreCounted
unfolding to_send packet_for after_sending hear begun provided_by sent_by lost planned_strikes sent_out injected advanced
tokens-counted = (refl, refl, refl, refl)
