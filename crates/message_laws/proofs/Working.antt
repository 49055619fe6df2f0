-- The worked examples.
use Rattle.std.proofs.Common.{refl}
use Rattle.net_defs.specs.Examples.{two_hosts}
use Rattle.net_defs.proofs.TwoHosts.{two_hosts_fabric}
use Rattle.world_defs.specs.Examples.{setup_routes}
use Rattle.world_defs.specs.Node.{to_send, packet_for, after_sending}
use Rattle.world_defs.specs.Hearing.{hear}
use Rattle.world_defs.specs.Client.{begun, provided_by, sent_by, closed}
use Rattle.world_defs.specs.Step.{planned_strikes, sent_out, injected, advanced}
use Rattle.world_defs.specs.Acts.{AreAdoptable}
use Rattle.table_laws.specs.Examples.{adopted_world}
use Rattle.table_laws.proofs.Dependencies.{adopted-adoptable}
use Rattle.table_laws.proofs.TwoHosts.{adopted-reached}
use Rattle.message_laws.specs.Examples.{one_message, MessageWorldIsReached, OneMessageCame, answered_acts, AnsweredWorldIsReached, TakenAheadOfBase, AnswerIsHonest, AllIsAcknowledged, BusyWorldIsReached, SendIsUnfinished, SendIsFinished, BufferIsProvided, CloseHandsBack, MessageIsReceived, BufferIsReturned}
use Rattle.owner_laws.specs.Examples.{busy_acts}

setup-adoptable : AreAdoptable two_hosts setup_routes
setup-adoptable = (adopted-adoptable two_hosts adopted_world (record { mapper = 0; epoch = 1; at = 0; routes = setup_routes }) adopted-reached refl).1

pub message-reached : MessageWorldIsReached
message-reached = record { fabric = two_hosts_fabric; acts = one_message; may = ((setup-adoptable, refl), (tt, (tt, (tt, (tt, (tt, (tt, (tt, tt)))))))); leads = refl }

pub message-came : OneMessageCame
unfolding to_send packet_for after_sending hear begun provided_by sent_by planned_strikes sent_out injected advanced
message-came = (refl, refl)

pub answered-reached : AnsweredWorldIsReached
unfolding to_send packet_for after_sending hear begun provided_by sent_by planned_strikes sent_out injected advanced
answered-reached = record {
  fabric = two_hosts_fabric;
  acts = answered_acts;
  may = ((setup-adoptable, refl), (tt, (tt, (tt, (tt, (tt, (tt, (tt, ((setup-adoptable, refl), (tt, (tt, (tt, tt))))))))))));
  leads = refl;
}

pub taken-ahead : TakenAheadOfBase
unfolding to_send packet_for after_sending hear begun provided_by sent_by planned_strikes sent_out injected advanced
taken-ahead = (refl, refl)

pub answer-honest : AnswerIsHonest
unfolding to_send packet_for after_sending hear begun provided_by sent_by planned_strikes sent_out injected advanced
answer-honest = refl

pub all-acknowledged : AllIsAcknowledged
unfolding to_send packet_for after_sending hear begun provided_by sent_by planned_strikes sent_out injected advanced
all-acknowledged = (refl, refl, refl, refl)

pub busy-reached : BusyWorldIsReached
busy-reached = record { fabric = two_hosts_fabric; acts = busy_acts; may = ((setup-adoptable, refl), (tt, (tt, (tt, tt)))); leads = refl }

pub send-unfinished : SendIsUnfinished
unfolding begun provided_by sent_by
send-unfinished = (refl, refl, refl)

pub send-finished : SendIsFinished
unfolding to_send packet_for after_sending hear begun provided_by sent_by planned_strikes sent_out injected advanced
send-finished = (refl, refl, refl, refl, refl)

pub buffer-provided : BufferIsProvided
unfolding begun provided_by sent_by
buffer-provided = refl

pub close-hands-back : CloseHandsBack
unfolding begun closed provided_by
close-hands-back = (refl, refl, refl)

pub message-received : MessageIsReceived
unfolding to_send packet_for after_sending hear begun provided_by sent_by planned_strikes sent_out injected advanced
message-received = refl

pub buffer-returned : BufferIsReturned
unfolding to_send packet_for after_sending hear begun provided_by sent_by planned_strikes sent_out injected advanced
buffer-returned = refl
