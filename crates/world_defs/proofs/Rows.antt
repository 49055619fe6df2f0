-- The worked rows, computed.
use Rattle.std.proofs.Common.{◌≡◌, refl, [], ◌∷◌, ◌++◌, map, false, Some}
use Rattle.std.specs.Prelude.{replicate}
use Rattle.world_defs.specs.Table.{applied}
use Rattle.world_defs.specs.Node.{to_send, packet_for, after_sending}
use Rattle.world_defs.specs.Hearing.{hear}
use Rattle.world_defs.specs.Client.{client_bytes, begun, closed, provided_by, sent_by, polled_by}
use Rattle.world_defs.specs.Step.{lost, was_reset, repeated, held, flipped, replayed, asked, part_staged, planned_strikes, sent_out, injected, advanced, expired, gave_up}
use Rattle.world_defs.specs.Settle.{unacknowledged_in}
use Rattle.world_defs.specs.Logs.{drain, clear, round_pass, round, settle, sends, host_try, loop_try, ask, part_try, install}
use Rattle.net_defs.specs.declared.place.Answer.{Answer}
use Rattle.world_defs.specs.Links.{packet_in}
use Rattle.world_defs.specs.declared.effect.Effect.{Effect}
use Rattle.world_defs.specs.declared.effect.Said.{Said}
use Rattle.world_defs.specs.declared.heard.Heard.{Heard}
use Rattle.world_defs.specs.declared.client.ClientCause.{ClientCause}
use Rattle.world_defs.specs.Examples.{setup_map, setup_install, received, long_calls, long_settled, long_polls, three_calls, three_plans, three_settled, three_polls, abc_injected, abc_settled, abc_polls, waiting, provided_late, served, served_poll, received_of, two_priorities, priorities_settled, priorities_polls, stepwise, stepwise_settled, stepwise_polls}

pub asks_of_the_map_answers : map (λ e. e.answer) setup_map.value.entries ≡ Answer.Switch ∷ replicate 17 Answer.Nothing ++ Answer.Host 1 ∷ replicate 12 Answer.Nothing
unfolding sends host_try loop_try ask begun closed provided_by sent_by polled_by drain clear hear part_try install to_send packet_for after_sending round_pass round settle lost was_reset repeated held flipped replayed asked part_staged planned_strikes sent_out injected advanced expired gave_up applied
asks_of_the_map_answers = refl

pub asks_of_the_map_injections : setup_map.world.injected ≡ 62
unfolding sends host_try loop_try ask begun closed provided_by sent_by polled_by drain clear hear part_try install to_send packet_for after_sending round_pass round settle lost was_reset repeated held flipped replayed asked part_staged planned_strikes sent_out injected advanced expired gave_up applied
asks_of_the_map_injections = refl

pub asks_of_the_map_drops : setup_map.world.dropped ≡ 59
unfolding sends host_try loop_try ask begun closed provided_by sent_by polled_by drain clear hear part_try install to_send packet_for after_sending round_pass round settle lost was_reset repeated held flipped replayed asked part_staged planned_strikes sent_out injected advanced expired gave_up applied
asks_of_the_map_drops = refl

pub installation_both : setup_install.value ≡ 2
unfolding sends host_try loop_try ask begun closed provided_by sent_by polled_by drain clear hear part_try install to_send packet_for after_sending round_pass round settle lost was_reset repeated held flipped replayed asked part_staged planned_strikes sent_out injected advanced expired gave_up applied
installation_both = refl

pub installation_injections : setup_install.world.injected ≡ 64
unfolding sends host_try loop_try ask begun closed provided_by sent_by polled_by drain clear hear part_try install to_send packet_for after_sending round_pass round settle lost was_reset repeated held flipped replayed asked part_staged planned_strikes sent_out injected advanced expired gave_up applied
installation_injections = refl

pub installation_drops : setup_install.world.dropped ≡ 59
unfolding sends host_try loop_try ask begun closed provided_by sent_by polled_by drain clear hear part_try install to_send packet_for after_sending round_pass round settle lost was_reset repeated held flipped replayed asked part_staged planned_strikes sent_out injected advanced expired gave_up applied
installation_drops = refl

pub three_messages_calls : three_calls.0 ≡ Effect.Said Said.Done ∷ Effect.Said Said.Done ∷ map (λ t. Effect.Said (Said.Token t)) (0 ∷ 1 ∷ 2 ∷ 0 ∷ 1 ∷ 2 ∷ [])
unfolding sends host_try loop_try ask begun closed provided_by sent_by polled_by drain clear hear part_try install to_send packet_for after_sending round_pass round settle lost was_reset repeated held flipped replayed asked part_staged planned_strikes sent_out injected advanced expired gave_up applied
three_messages_calls = refl

pub three_messages_plans : three_plans.0 ≡ 65 ∷ 66 ∷ 68 ∷ []
unfolding sends host_try loop_try ask begun closed provided_by sent_by polled_by drain clear hear part_try install to_send packet_for after_sending round_pass round settle lost was_reset repeated held flipped replayed asked part_staged planned_strikes sent_out injected advanced expired gave_up applied
three_messages_plans = refl

pub three_messages_rounds : three_settled.value.rounds ≡ 2
unfolding sends host_try loop_try ask begun closed provided_by sent_by polled_by drain clear hear part_try install to_send packet_for after_sending round_pass round settle lost was_reset repeated held flipped replayed asked part_staged planned_strikes sent_out injected advanced expired gave_up applied
three_messages_rounds = refl

pub three_messages_resets : three_settled.value.resets ≡ 0
unfolding sends host_try loop_try ask begun closed provided_by sent_by polled_by drain clear hear part_try install to_send packet_for after_sending round_pass round settle lost was_reset repeated held flipped replayed asked part_staged planned_strikes sent_out injected advanced expired gave_up applied
three_messages_resets = refl

pub three_messages_acknowledged : unacknowledged_in three_settled.world ≡ 0
unfolding sends host_try loop_try ask begun closed provided_by sent_by polled_by drain clear hear part_try install to_send packet_for after_sending round_pass round settle lost was_reset repeated held flipped replayed asked part_staged planned_strikes sent_out injected advanced expired gave_up applied
three_messages_acknowledged = refl

pub three_messages_messages : three_polls.0 ≡ received 0 (10 ∷ []) ∷ received 1 (20 ∷ []) ∷ received 2 (30 ∷ []) ∷ []
unfolding sends host_try loop_try ask begun closed provided_by sent_by polled_by drain clear hear part_try install to_send packet_for after_sending round_pass round settle lost was_reset repeated held flipped replayed asked part_staged planned_strikes sent_out injected advanced expired gave_up applied
three_messages_messages = refl

pub three_messages_injections : three_polls.1.injected ≡ 73
unfolding sends host_try loop_try ask begun closed provided_by sent_by polled_by drain clear hear part_try install to_send packet_for after_sending round_pass round settle lost was_reset repeated held flipped replayed asked part_staged planned_strikes sent_out injected advanced expired gave_up applied
three_messages_injections = refl

pub three_messages_drops : three_polls.1.dropped ≡ 59
unfolding sends host_try loop_try ask begun closed provided_by sent_by polled_by drain clear hear part_try install to_send packet_for after_sending round_pass round settle lost was_reset repeated held flipped replayed asked part_staged planned_strikes sent_out injected advanced expired gave_up applied
three_messages_drops = refl

pub flipped_route_byte_frame : packet_in abc_injected.links 0 ≡ Some (record { wire = 131 ∷ 0 ∷ 8 ∷ 1 ∷ 2 ∷ 0 ∷ 0 ∷ 0 ∷ 1 ∷ 0 ∷ 1 ∷ 0 ∷ replicate 4 0 ++ 0 ∷ 0 ∷ 0 ∷ 3 ∷ replicate 4 0 ++ 0 ∷ 3 ∷ 65 ∷ 66 ∷ 67 ∷ 146 ∷ []; marked = false; born = 1 })
unfolding sends host_try loop_try ask begun closed provided_by sent_by polled_by drain clear hear part_try install to_send packet_for after_sending round_pass round settle lost was_reset repeated held flipped replayed asked part_staged planned_strikes sent_out injected advanced expired gave_up applied
flipped_route_byte_frame = refl

pub flipped_route_byte_rounds : abc_settled.value.rounds ≡ 2
unfolding sends host_try loop_try ask begun closed provided_by sent_by polled_by drain clear hear part_try install to_send packet_for after_sending round_pass round settle lost was_reset repeated held flipped replayed asked part_staged planned_strikes sent_out injected advanced expired gave_up applied
flipped_route_byte_rounds = refl

pub flipped_route_byte_resets : abc_settled.value.resets ≡ 0
unfolding sends host_try loop_try ask begun closed provided_by sent_by polled_by drain clear hear part_try install to_send packet_for after_sending round_pass round settle lost was_reset repeated held flipped replayed asked part_staged planned_strikes sent_out injected advanced expired gave_up applied
flipped_route_byte_resets = refl

pub flipped_route_byte_acknowledged : unacknowledged_in abc_settled.world ≡ 0
unfolding sends host_try loop_try ask begun closed provided_by sent_by polled_by drain clear hear part_try install to_send packet_for after_sending round_pass round settle lost was_reset repeated held flipped replayed asked part_staged planned_strikes sent_out injected advanced expired gave_up applied
flipped_route_byte_acknowledged = refl

pub flipped_route_byte_polls : abc_polls.0 ≡ received 0 (65 ∷ 66 ∷ 67 ∷ []) ∷ Effect.Said (Said.Sent 0) ∷ []
unfolding sends host_try loop_try ask begun closed provided_by sent_by polled_by drain clear hear part_try install to_send packet_for after_sending round_pass round settle lost was_reset repeated held flipped replayed asked part_staged planned_strikes sent_out injected advanced expired gave_up applied
flipped_route_byte_polls = refl

pub flipped_route_byte_injections : abc_polls.1.injected ≡ 67
unfolding sends host_try loop_try ask begun closed provided_by sent_by polled_by drain clear hear part_try install to_send packet_for after_sending round_pass round settle lost was_reset repeated held flipped replayed asked part_staged planned_strikes sent_out injected advanced expired gave_up applied
flipped_route_byte_injections = refl

pub flipped_route_byte_drops : abc_polls.1.dropped ≡ 60
unfolding sends host_try loop_try ask begun closed provided_by sent_by polled_by drain clear hear part_try install to_send packet_for after_sending round_pass round settle lost was_reset repeated held flipped replayed asked part_staged planned_strikes sent_out injected advanced expired gave_up applied
flipped_route_byte_drops = refl

pub message_waits_for_a_token_first_rounds : waiting.value.rounds ≡ 1
unfolding sends host_try loop_try ask begun closed provided_by sent_by polled_by drain clear hear part_try install to_send packet_for after_sending round_pass round settle lost was_reset repeated held flipped replayed asked part_staged planned_strikes sent_out injected advanced expired gave_up applied
message_waits_for_a_token_first_rounds = refl

pub message_waits_for_a_token_first_resets : waiting.value.resets ≡ 0
unfolding sends host_try loop_try ask begun closed provided_by sent_by polled_by drain clear hear part_try install to_send packet_for after_sending round_pass round settle lost was_reset repeated held flipped replayed asked part_staged planned_strikes sent_out injected advanced expired gave_up applied
message_waits_for_a_token_first_resets = refl

pub message_waits_for_a_token_waits : unacknowledged_in waiting.world ≡ 1
unfolding sends host_try loop_try ask begun closed provided_by sent_by polled_by drain clear hear part_try install to_send packet_for after_sending round_pass round settle lost was_reset repeated held flipped replayed asked part_staged planned_strikes sent_out injected advanced expired gave_up applied
message_waits_for_a_token_waits = refl

pub message_waits_for_a_token_nothing_yet : provided_late.0 ≡ Effect.Said Said.Nothing ∷ Effect.Said (Said.Token 1) ∷ []
unfolding sends host_try loop_try ask begun closed provided_by sent_by polled_by drain clear hear part_try install to_send packet_for after_sending round_pass round settle lost was_reset repeated held flipped replayed asked part_staged planned_strikes sent_out injected advanced expired gave_up applied
message_waits_for_a_token_nothing_yet = refl

pub message_waits_for_a_token_rounds : served.value.rounds ≡ 1
unfolding sends host_try loop_try ask begun closed provided_by sent_by polled_by drain clear hear part_try install to_send packet_for after_sending round_pass round settle lost was_reset repeated held flipped replayed asked part_staged planned_strikes sent_out injected advanced expired gave_up applied
message_waits_for_a_token_rounds = refl

pub message_waits_for_a_token_acknowledged : unacknowledged_in served.world ≡ 0
unfolding sends host_try loop_try ask begun closed provided_by sent_by polled_by drain clear hear part_try install to_send packet_for after_sending round_pass round settle lost was_reset repeated held flipped replayed asked part_staged planned_strikes sent_out injected advanced expired gave_up applied
message_waits_for_a_token_acknowledged = refl

pub message_waits_for_a_token_message : served_poll.0 ≡ received 1 (1 ∷ 2 ∷ []) ∷ []
unfolding sends host_try loop_try ask begun closed provided_by sent_by polled_by drain clear hear part_try install to_send packet_for after_sending round_pass round settle lost was_reset repeated held flipped replayed asked part_staged planned_strikes sent_out injected advanced expired gave_up applied
message_waits_for_a_token_message = refl

pub message_waits_for_a_token_injections : served_poll.1.injected ≡ 68
unfolding sends host_try loop_try ask begun closed provided_by sent_by polled_by drain clear hear part_try install to_send packet_for after_sending round_pass round settle lost was_reset repeated held flipped replayed asked part_staged planned_strikes sent_out injected advanced expired gave_up applied
message_waits_for_a_token_injections = refl

pub message_waits_for_a_token_drops : served_poll.1.dropped ≡ 59
unfolding sends host_try loop_try ask begun closed provided_by sent_by polled_by drain clear hear part_try install to_send packet_for after_sending round_pass round settle lost was_reset repeated held flipped replayed asked part_staged planned_strikes sent_out injected advanced expired gave_up applied
message_waits_for_a_token_drops = refl

pub priority_passes_calls : two_priorities.0 ≡ Effect.Said Said.Done ∷ Effect.Said Said.Done ∷ map (λ t. Effect.Said (Said.Token t)) (0 ∷ 0 ∷ 1 ∷ [])
unfolding sends host_try loop_try ask begun closed provided_by sent_by polled_by drain clear hear part_try install to_send packet_for after_sending round_pass round settle lost was_reset repeated held flipped replayed asked part_staged planned_strikes sent_out injected advanced expired gave_up applied
priority_passes_calls = refl

pub priority_passes_rounds : priorities_settled.value.rounds ≡ 2
unfolding sends host_try loop_try ask begun closed provided_by sent_by polled_by drain clear hear part_try install to_send packet_for after_sending round_pass round settle lost was_reset repeated held flipped replayed asked part_staged planned_strikes sent_out injected advanced expired gave_up applied
priority_passes_rounds = refl

pub priority_passes_resets : priorities_settled.value.resets ≡ 0
unfolding sends host_try loop_try ask begun closed provided_by sent_by polled_by drain clear hear part_try install to_send packet_for after_sending round_pass round settle lost was_reset repeated held flipped replayed asked part_staged planned_strikes sent_out injected advanced expired gave_up applied
priority_passes_resets = refl

pub priority_passes_waits : unacknowledged_in priorities_settled.world ≡ 1
unfolding sends host_try loop_try ask begun closed provided_by sent_by polled_by drain clear hear part_try install to_send packet_for after_sending round_pass round settle lost was_reset repeated held flipped replayed asked part_staged planned_strikes sent_out injected advanced expired gave_up applied
priority_passes_waits = refl

pub priority_passes_polls : priorities_polls.0 ≡ received_of 1 0 (2 ∷ []) ∷ Effect.Said Said.Nothing ∷ []
unfolding sends host_try loop_try ask begun closed provided_by sent_by polled_by drain clear hear part_try install to_send packet_for after_sending round_pass round settle lost was_reset repeated held flipped replayed asked part_staged planned_strikes sent_out injected advanced expired gave_up applied
priority_passes_polls = refl

pub priority_passes_injections : priorities_polls.1.injected ≡ 70
unfolding sends host_try loop_try ask begun closed provided_by sent_by polled_by drain clear hear part_try install to_send packet_for after_sending round_pass round settle lost was_reset repeated held flipped replayed asked part_staged planned_strikes sent_out injected advanced expired gave_up applied
priority_passes_injections = refl

pub priority_passes_drops : priorities_polls.1.dropped ≡ 59
unfolding sends host_try loop_try ask begun closed provided_by sent_by polled_by drain clear hear part_try install to_send packet_for after_sending round_pass round settle lost was_reset repeated held flipped replayed asked part_staged planned_strikes sent_out injected advanced expired gave_up applied
priority_passes_drops = refl

pub step_by_step_effects : stepwise.0 ≡ Effect.Injected 65 ∷ Effect.Moved 3 ∷ Effect.Injected 66 ∷ Effect.Idle ∷ Effect.Blocked 3 ∷ Effect.Arrived 1 Heard.Message ∷ Effect.Moved 3 ∷ Effect.Lost ∷ []
unfolding sends host_try loop_try ask begun closed provided_by sent_by polled_by drain clear hear part_try install to_send packet_for after_sending round_pass round settle lost was_reset repeated held flipped replayed asked part_staged planned_strikes sent_out injected advanced expired gave_up applied
step_by_step_effects = refl

pub step_by_step_rounds : stepwise_settled.value.rounds ≡ 1
unfolding sends host_try loop_try ask begun closed provided_by sent_by polled_by drain clear hear part_try install to_send packet_for after_sending round_pass round settle lost was_reset repeated held flipped replayed asked part_staged planned_strikes sent_out injected advanced expired gave_up applied
step_by_step_rounds = refl

pub step_by_step_resets : stepwise_settled.value.resets ≡ 0
unfolding sends host_try loop_try ask begun closed provided_by sent_by polled_by drain clear hear part_try install to_send packet_for after_sending round_pass round settle lost was_reset repeated held flipped replayed asked part_staged planned_strikes sent_out injected advanced expired gave_up applied
step_by_step_resets = refl

pub step_by_step_acknowledged : unacknowledged_in stepwise_settled.world ≡ 0
unfolding sends host_try loop_try ask begun closed provided_by sent_by polled_by drain clear hear part_try install to_send packet_for after_sending round_pass round settle lost was_reset repeated held flipped replayed asked part_staged planned_strikes sent_out injected advanced expired gave_up applied
step_by_step_acknowledged = refl

pub step_by_step_messages : stepwise_polls.0 ≡ received 0 (1 ∷ []) ∷ received 1 (2 ∷ []) ∷ []
unfolding sends host_try loop_try ask begun closed provided_by sent_by polled_by drain clear hear part_try install to_send packet_for after_sending round_pass round settle lost was_reset repeated held flipped replayed asked part_staged planned_strikes sent_out injected advanced expired gave_up applied
step_by_step_messages = refl

pub step_by_step_injections : stepwise_polls.1.injected ≡ 71
unfolding sends host_try loop_try ask begun closed provided_by sent_by polled_by drain clear hear part_try install to_send packet_for after_sending round_pass round settle lost was_reset repeated held flipped replayed asked part_staged planned_strikes sent_out injected advanced expired gave_up applied
step_by_step_injections = refl

pub step_by_step_drops : stepwise_polls.1.dropped ≡ 59
unfolding sends host_try loop_try ask begun closed provided_by sent_by polled_by drain clear hear part_try install to_send packet_for after_sending round_pass round settle lost was_reset repeated held flipped replayed asked part_staged planned_strikes sent_out injected advanced expired gave_up applied
step_by_step_drops = refl

pub message_of_two_fragments_calls : long_calls.0 ≡ Effect.Said Said.Done ∷ Effect.Said Said.Done ∷ Effect.Said (Said.Token 0) ∷ Effect.Said (Said.Token 0) ∷ Effect.Injected 3 ∷ Effect.Moved 3 ∷ Effect.Arrived 1 Heard.Fragment ∷ Effect.Said (Said.Refused (ClientCause.Filling 1)) ∷ []
unfolding sends host_try loop_try ask begun closed provided_by sent_by polled_by drain clear hear part_try install to_send packet_for after_sending round_pass round settle lost was_reset repeated held flipped replayed asked part_staged planned_strikes sent_out injected advanced expired gave_up applied
message_of_two_fragments_calls = refl

pub message_of_two_fragments_rounds : long_settled.value.rounds ≡ 1
unfolding sends host_try loop_try ask begun closed provided_by sent_by polled_by drain clear hear part_try install to_send packet_for after_sending round_pass round settle lost was_reset repeated held flipped replayed asked part_staged planned_strikes sent_out injected advanced expired gave_up applied
message_of_two_fragments_rounds = refl

pub message_of_two_fragments_resets : long_settled.value.resets ≡ 0
unfolding sends host_try loop_try ask begun closed provided_by sent_by polled_by drain clear hear part_try install to_send packet_for after_sending round_pass round settle lost was_reset repeated held flipped replayed asked part_staged planned_strikes sent_out injected advanced expired gave_up applied
message_of_two_fragments_resets = refl

pub message_of_two_fragments_acknowledged : unacknowledged_in long_settled.world ≡ 0
unfolding sends host_try loop_try ask begun closed provided_by sent_by polled_by drain clear hear part_try install to_send packet_for after_sending round_pass round settle lost was_reset repeated held flipped replayed asked part_staged planned_strikes sent_out injected advanced expired gave_up applied
message_of_two_fragments_acknowledged = refl

pub message_of_two_fragments_message : long_polls.0 ≡ received 0 (client_bytes 1017 5) ∷ []
unfolding sends host_try loop_try ask begun closed provided_by sent_by polled_by drain clear hear part_try install to_send packet_for after_sending round_pass round settle lost was_reset repeated held flipped replayed asked part_staged planned_strikes sent_out injected advanced expired gave_up applied
message_of_two_fragments_message = refl

pub message_of_two_fragments_injections : long_polls.1.injected ≡ 8
unfolding sends host_try loop_try ask begun closed provided_by sent_by polled_by drain clear hear part_try install to_send packet_for after_sending round_pass round settle lost was_reset repeated held flipped replayed asked part_staged planned_strikes sent_out injected advanced expired gave_up applied
message_of_two_fragments_injections = refl
