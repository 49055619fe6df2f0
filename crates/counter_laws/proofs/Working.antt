-- The example computes.
use Rattle.std.proofs.Common.{refl}
use Rattle.world_defs.specs.Node.{to_send, packet_for, after_sending}
use Rattle.world_defs.specs.Hearing.{hear}
use Rattle.world_defs.specs.Step.{lost, was_reset, repeated, pulled, plugged, asked, planned_strikes, sent_out, injected, advanced}
use Rattle.counter_laws.specs.Examples.{SixProbesAreCounted, SixProbesAreInCounters, PulledProbesAreCounted}

pub six-counted : SixProbesAreCounted
unfolding to_send packet_for after_sending hear lost was_reset repeated asked planned_strikes sent_out injected advanced
six-counted = (refl, refl, refl, refl, refl, refl, refl, refl)

pub six-in_counters : SixProbesAreInCounters
unfolding to_send packet_for after_sending hear lost was_reset repeated asked planned_strikes sent_out injected advanced
six-in_counters = (refl, refl, refl, refl, refl)

pub pulled-counted : PulledProbesAreCounted
unfolding to_send packet_for after_sending hear lost was_reset repeated pulled plugged asked planned_strikes sent_out injected advanced
pulled-counted = (refl, refl, refl, refl, refl, refl, refl, refl)
