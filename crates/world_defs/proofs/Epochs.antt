-- Two epochs of two hosts, computed.
use Rattle.std.proofs.Common.{◌≡◌, refl, [], ◌∷◌, true, false, Some, option_map}
use Rattle.std.specs.Prelude.{replicate}
use Rattle.net_defs.specs.Examples.{two_hosts}
use Rattle.world_defs.specs.declared.applied.Applied.{Applied}
use Rattle.world_defs.specs.declared.event.Event.{Event}
use Rattle.world_defs.specs.declared.effect.Effect.{Effect}
use Rattle.world_defs.specs.declared.effect.Said.{Said}
use Rattle.world_defs.specs.Table.{applied, new_table, revoked_table, whole_table}
use Rattle.world_defs.specs.Node.{to_send, packet_for, after_sending}
use Rattle.world_defs.specs.Hearing.{hear}
use Rattle.world_defs.specs.Client.{begun, closed, provided_by, sent_by, polled_by}
use Rattle.world_defs.specs.World.{new_world, node_at, first_unrevoked, may_adopt, adoption_of}
use Rattle.world_defs.specs.Step.{step, lost, was_reset, repeated, held, flipped, replayed, asked, part_staged, planned_strikes, sent_out, injected, advanced, expired, gave_up, revoked}
use Rattle.world_defs.specs.Logs.{drain, clear, round_pass, round, settle, sends, host_try, loop_try, ask, part_try, install}
use Rattle.world_defs.specs.Examples.{setup_routes, setup_adoption, ready, given_up_by_one, given_up_by_both, second_epoch, second_adoption, first_part, second_part, tables_in}

pub two_epochs_kept : adoption_of ready 0 setup_routes ≡ setup_adoption
unfolding sends host_try loop_try ask begun closed provided_by sent_by polled_by drain clear hear part_try install to_send packet_for after_sending round_pass round settle lost was_reset repeated held flipped replayed asked part_staged planned_strikes sent_out injected advanced expired gave_up revoked applied
two_epochs_kept = refl

pub two_epochs_may_keep : may_adopt ready setup_routes ≡ true
unfolding sends host_try loop_try ask begun closed provided_by sent_by polled_by drain clear hear part_try install to_send packet_for after_sending round_pass round settle lost was_reset repeated held flipped replayed asked part_staged planned_strikes sent_out injected advanced expired gave_up revoked applied
two_epochs_may_keep = refl

pub two_epochs_no_other : may_adopt ready [] ≡ false
unfolding sends host_try loop_try ask begun closed provided_by sent_by polled_by drain clear hear part_try install to_send packet_for after_sending round_pass round settle lost was_reset repeated held flipped replayed asked part_staged planned_strikes sent_out injected advanced expired gave_up revoked applied
two_epochs_no_other = refl

pub two_epochs_given_up : given_up_by_one.0 ≡ Effect.Said Said.Done ∷ []
unfolding sends host_try loop_try ask begun closed provided_by sent_by polled_by drain clear hear part_try install to_send packet_for after_sending round_pass round settle lost was_reset repeated held flipped replayed asked part_staged planned_strikes sent_out injected advanced expired gave_up revoked applied
two_epochs_given_up = refl

pub two_epochs_not_yet : may_adopt given_up_by_one.1 setup_routes ≡ false
unfolding sends host_try loop_try ask begun closed provided_by sent_by polled_by drain clear hear part_try install to_send packet_for after_sending round_pass round settle lost was_reset repeated held flipped replayed asked part_staged planned_strikes sent_out injected advanced expired gave_up revoked applied
two_epochs_not_yet = refl

pub two_epochs_first_left : first_unrevoked given_up_by_one.1 1 ≡ Some 1
unfolding sends host_try loop_try ask begun closed provided_by sent_by polled_by drain clear hear part_try install to_send packet_for after_sending round_pass round settle lost was_reset repeated held flipped replayed asked part_staged planned_strikes sent_out injected advanced expired gave_up revoked applied
two_epochs_first_left = refl

pub two_epochs_nothing_active : tables_in given_up_by_both.1 ≡ replicate 2 (revoked_table new_table 1)
unfolding sends host_try loop_try ask begun closed provided_by sent_by polled_by drain clear hear part_try install to_send packet_for after_sending round_pass round settle lost was_reset repeated held flipped replayed asked part_staged planned_strikes sent_out injected advanced expired gave_up revoked applied
two_epochs_nothing_active = refl

pub two_epochs_may_begin : may_adopt given_up_by_both.1 setup_routes ≡ true
unfolding sends host_try loop_try ask begun closed provided_by sent_by polled_by drain clear hear part_try install to_send packet_for after_sending round_pass round settle lost was_reset repeated held flipped replayed asked part_staged planned_strikes sent_out injected advanced expired gave_up revoked applied
two_epochs_may_begin = refl

pub two_epochs_begun : second_epoch.adopted ≡ Some second_adoption
unfolding sends host_try loop_try ask begun closed provided_by sent_by polled_by drain clear hear part_try install to_send packet_for after_sending round_pass round settle lost was_reset repeated held flipped replayed asked part_staged planned_strikes sent_out injected advanced expired gave_up revoked applied
two_epochs_begun = refl

pub two_epochs_tables : tables_in second_epoch ≡ revoked_table new_table 1 ∷ whole_table setup_routes 1 2 ∷ []
unfolding sends host_try loop_try ask begun closed provided_by sent_by polled_by drain clear hear part_try install to_send packet_for after_sending round_pass round settle lost was_reset repeated held flipped replayed asked part_staged planned_strikes sent_out injected advanced expired gave_up revoked applied
two_epochs_tables = refl

pub two_epochs_born : second_epoch.links.epoch ≡ 2
unfolding sends host_try loop_try ask begun closed provided_by sent_by polled_by drain clear hear part_try install to_send packet_for after_sending round_pass round settle lost was_reset repeated held flipped replayed asked part_staged planned_strikes sent_out injected advanced expired gave_up revoked applied
two_epochs_born = refl

pub two_epochs_given_up_is_old : option_map (λ p. (applied (node_at given_up_by_both.1 1).table p).0) first_part ≡ Some Applied.Old
unfolding sends host_try loop_try ask begun closed provided_by sent_by polled_by drain clear hear part_try install to_send packet_for after_sending round_pass round settle lost was_reset repeated held flipped replayed asked part_staged planned_strikes sent_out injected advanced expired gave_up revoked applied
two_epochs_given_up_is_old = refl

pub two_epochs_late_is_old : option_map (λ p. (applied (node_at second_epoch 1).table p).0) first_part ≡ Some Applied.Old
unfolding sends host_try loop_try ask begun closed provided_by sent_by polled_by drain clear hear part_try install to_send packet_for after_sending round_pass round settle lost was_reset repeated held flipped replayed asked part_staged planned_strikes sent_out injected advanced expired gave_up revoked applied
two_epochs_late_is_old = refl

pub two_epochs_taken : option_map (λ p. (applied (node_at second_epoch 0).table p).1) second_part ≡ Some (whole_table setup_routes 0 2)
unfolding sends host_try loop_try ask begun closed provided_by sent_by polled_by drain clear hear part_try install to_send packet_for after_sending round_pass round settle lost was_reset repeated held flipped replayed asked part_staged planned_strikes sent_out injected advanced expired gave_up revoked applied
two_epochs_taken = refl

pub two_epochs_nothing_to_give_up : step (new_world two_hosts) (Event.Revoke 0) ≡ (Effect.Idle, new_world two_hosts)
unfolding sends host_try loop_try ask begun closed provided_by sent_by polled_by drain clear hear part_try install to_send packet_for after_sending round_pass round settle lost was_reset repeated held flipped replayed asked part_staged planned_strikes sent_out injected advanced expired gave_up revoked applied
two_epochs_nothing_to_give_up = refl
