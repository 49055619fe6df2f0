-- The worked examples: a settle gets a lost frame across, and leaves a message without a token waiting.
use Rattle.std.proofs.Common.{◌≡◌, length, refl, arith}
use Rattle.net_defs.specs.Examples.{two_hosts}
use Rattle.net_defs.proofs.TwoHosts.{two_hosts_fabric}
use Rattle.world_defs.specs.Logs.{drain, clear, round_pass, round, settle}
use Rattle.world_defs.specs.Examples.{setup_routes}
use Rattle.world_defs.specs.Node.{to_send, packet_for, after_sending}
use Rattle.world_defs.specs.Hearing.{hear}
use Rattle.world_defs.specs.Client.{begun, provided_by, sent_by}
use Rattle.world_defs.specs.Step.{lost, was_reset, replayed, planned_strikes, sent_out, injected, advanced, expired, gave_up}
use Rattle.gm_defs.specs.Connection.{connection}
use Rattle.world_defs.specs.Traffic.{got_on}
use Rattle.world_defs.specs.Acts.{AreAdoptable}
use Rattle.table_laws.specs.Examples.{adopted_world}
use Rattle.table_laws.proofs.Dependencies.{adopted-adoptable}
use Rattle.table_laws.proofs.TwoHosts.{adopted-reached}
use Rattle.message_laws.specs.Examples.{ten}
use Rattle.settle_laws.specs.Examples.{lost_acts, LostWorldCanSettle, LostFrameIsSentAgain, bare_acts, bare_world, BareWorldCanSettle, MessageWaitsForToken}

setup-adoptable : AreAdoptable two_hosts setup_routes
setup-adoptable = (adopted-adoptable two_hosts adopted_world (record { mapper = 0; epoch = 1; at = 0; routes = setup_routes }) adopted-reached refl).1

pub lost-can : LostWorldCanSettle
unfolding to_send packet_for after_sending hear begun provided_by sent_by lost planned_strikes sent_out injected advanced
lost-can = record {
  reached = record { fabric = two_hosts_fabric; acts = lost_acts; may = ((setup-adoptable, refl), ((setup-adoptable, refl), (tt, (tt, (tt, (tt, (tt, (tt, tt)))))))); leads = refl };
}

pub lost-settled : LostFrameIsSentAgain
unfolding to_send packet_for after_sending hear begun provided_by sent_by lost was_reset replayed planned_strikes sent_out injected advanced expired gave_up drain clear round_pass round settle
lost-settled = (refl, refl, refl)

pub bare-can : BareWorldCanSettle
unfolding to_send packet_for after_sending hear begun provided_by sent_by planned_strikes sent_out injected advanced
bare-can = record {
  reached = record { fabric = two_hosts_fabric; acts = bare_acts; may = ((setup-adoptable, refl), ((setup-adoptable, refl), (tt, (tt, (tt, tt))))); leads = refl };
}

pub bare-waits : MessageWaitsForToken
unfolding to_send packet_for after_sending hear begun provided_by sent_by was_reset replayed planned_strikes sent_out injected advanced expired gave_up drain clear round_pass round settle
bare-waits =
    let none : length (got_on (settle bare_world).world (connection 0 1 0)) ≡ 0 = refl in
    (refl, record { place = 0; message = ten; first = refl; there = refl; not_taken = omega (arith, none); not_begun = refl; no_token = refl })
