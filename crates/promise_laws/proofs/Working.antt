-- The worked examples.
use Rattle.std.proofs.Common.{refl, sym, true≢false}
use Rattle.world_defs.specs.Node.{to_send, packet_for, after_sending}
use Rattle.world_defs.specs.Client.{begun, sent_by}
use Rattle.world_defs.specs.Step.{planned_strikes, sent_out, injected, advanced, held, revoked}
use Rattle.net_defs.specs.Examples.{two_hosts}
use Rattle.world_defs.specs.Examples.{setup_routes}
use Rattle.world_defs.specs.Acts.{AreAdoptable}
use Rattle.table_laws.specs.Examples.{adopted_world}
use Rattle.table_laws.proofs.Dependencies.{adopted-adoptable}
use Rattle.table_laws.proofs.TwoHosts.{adopted-reached}
use Rattle.promise_laws.specs.Examples.{PacketGoesOn, PartsAreOfAdopters, ReplaysAreOfChannels, PullsAreOfCables, EpochsFollow, MessageIsInLines}

pub packet-goes_on : PacketGoesOn
unfolding to_send packet_for after_sending begun sent_by planned_strikes sent_out injected advanced
packet-goes_on = (refl, refl)

pub parts-of_adopters : PartsAreOfAdopters
unfolding to_send packet_for after_sending begun sent_by planned_strikes sent_out injected
parts-of_adopters = (refl, refl)

pub replays-of_channels : ReplaysAreOfChannels
unfolding to_send packet_for after_sending begun sent_by planned_strikes sent_out injected advanced held
replays-of_channels = (refl, refl)

pub pulls-of_cables : PullsAreOfCables
pulls-of_cables = (refl, refl, refl)

setup-adoptable : AreAdoptable two_hosts setup_routes
setup-adoptable = (adopted-adoptable two_hosts adopted_world (record { mapper = 0; epoch = 1; at = 0; routes = setup_routes }) adopted-reached refl).1

pub epochs-follow : EpochsFollow
unfolding revoked
epochs-follow = (((setup-adoptable, refl), (tt, (tt, ((setup-adoptable, refl), tt)))), refl, refl, λ may. true≢false (sym may.1.1.0.1))

pub message-in_lines : MessageIsInLines
message-in_lines = (refl, refl, refl, refl)
