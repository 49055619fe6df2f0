-- Cables of two hosts that come and go, computed.
use Rattle.std.proofs.Common.{◌≡◌, ◌<◌, ℕ, zero, suc, refl, sym, ap, ◌∙◌, subst, arith, inl, List, [], ◌∷◌, ◌++◌, map, true, false, Some, None}
use Rattle.std.specs.Prelude.{pos, replicate, slice_get}
use Rattle.std.specs.List.{AllByRecursion}
use Rattle.net_defs.specs.declared.place.Answer.{Answer}
use Rattle.net_defs.specs.Examples.{joined, host_end, switch_end}
use Rattle.world_defs.specs.Crossed.{leaving, is_new}
use Rattle.world_defs.specs.Kinds.{is_gm}
use Rattle.world_defs.specs.Links.{packet_in}
use Rattle.gm_defs.specs.Connection.{connection}
use Rattle.world_defs.specs.declared.event.Event.{Event}
use Rattle.world_defs.specs.declared.effect.Effect.{Effect}
use Rattle.world_defs.specs.declared.effect.Cause.{Cause}
use Rattle.world_defs.specs.declared.effect.Said.{Said}
use Rattle.world_defs.specs.Table.{applied}
use Rattle.world_defs.specs.Lane.{LaneState, new_lane}
use Rattle.world_defs.specs.Node.{lane_of, lane_at, to_send, packet_for, after_sending}
use Rattle.world_defs.specs.Hearing.{hear}
use Rattle.world_defs.specs.Client.{begun, closed, provided_by, sent_by, polled_by}
use Rattle.world_defs.specs.World.{fabric_of, host_count, node_at, may_adopt, has_to_send}
use Rattle.world_defs.specs.Step.{step, lost, was_reset, repeated, held, flipped, replayed, pulled, plugged, asked, part_staged, planned_strikes, sent_out, injected, advanced, expired, gave_up, revoked}
use Rattle.world_defs.specs.Settle.{unacknowledged_in}
use Rattle.world_defs.specs.Settled.{IsSettled, IsSettledConnection}
use Rattle.world_defs.specs.Settled.IsSettledConnection.{all_acknowledged, cut}
use Rattle.world_defs.specs.Traffic.{IsLawful, adopted_routes, route_channels, channels_ahead, is_broken}
use Rattle.world_defs.specs.Logs.{drain, clear, round_pass, round, settle, sends, host_try, loop_try, ask, part_try, install}
use Rattle.world_defs.specs.Examples.{setup_routes, received, on_its_way, abc_frame}
use Rattle.world_defs.specs.Cuts.{b_end, parted, plugs, taken_away, cut_off, renewed, to_be_sent, uncabled, kept_in, probed, pulled_at_once, parting_map, cut_calls, cut_settled, renewed_settled, second_map, given_up, second_install, second_settled, second_poll}
use Rattle.world_defs.proofs.Moments.{all-at}

pub pulls_and_plugs_pulls : parted.0 ≡ Effect.Said Said.Done ∷ Effect.Idle ∷ []
unfolding sends host_try loop_try ask begun closed provided_by sent_by polled_by drain clear hear part_try install to_send packet_for after_sending round_pass round settle lost was_reset repeated held flipped replayed asked part_staged planned_strikes sent_out injected advanced expired gave_up revoked pulled plugged applied
pulls_and_plugs_pulls = refl

pub pulls_and_plugs_cables : (fabric_of parted.1).cables ≡ joined (host_end 0) (switch_end 0 2) ∷ []
unfolding sends host_try loop_try ask begun closed provided_by sent_by polled_by drain clear hear part_try install to_send packet_for after_sending round_pass round settle lost was_reset repeated held flipped replayed asked part_staged planned_strikes sent_out injected advanced expired gave_up revoked pulled plugged applied
pulls_and_plugs_cables = refl

pub pulls_and_plugs_plugs : plugs.0 ≡ Effect.Idle ∷ Effect.Idle ∷ Effect.Idle ∷ Effect.Said Said.Done ∷ []
unfolding sends host_try loop_try ask begun closed provided_by sent_by polled_by drain clear hear part_try install to_send packet_for after_sending round_pass round settle lost was_reset repeated held flipped replayed asked part_staged planned_strikes sent_out injected advanced expired gave_up revoked pulled plugged applied
pulls_and_plugs_plugs = refl

pub pulls_and_plugs_number : leaving plugs.1.links.cables (host_end 1) ≡ Some 4
unfolding sends host_try loop_try ask begun closed provided_by sent_by polled_by drain clear hear part_try install to_send packet_for after_sending round_pass round settle lost was_reset repeated held flipped replayed asked part_staged planned_strikes sent_out injected advanced expired gave_up revoked pulled plugged applied
pulls_and_plugs_number = refl

pub pulls_and_plugs_changes : plugs.1.links.cables.changes ≡ 2
unfolding sends host_try loop_try ask begun closed provided_by sent_by polled_by drain clear hear part_try install to_send packet_for after_sending round_pass round settle lost was_reset repeated held flipped replayed asked part_staged planned_strikes sent_out injected advanced expired gave_up revoked pulled plugged applied
pulls_and_plugs_changes = refl

pub pulls_take_packets_channel : packet_in taken_away.links 0 ≡ None
unfolding sends host_try loop_try ask begun closed provided_by sent_by polled_by drain clear hear part_try install to_send packet_for after_sending round_pass round settle lost was_reset repeated held flipped replayed asked part_staged planned_strikes sent_out injected advanced expired gave_up revoked pulled plugged applied
pulls_take_packets_channel = refl

pub pulls_take_packets_limbo : taken_away.links.limbo ≡ []
unfolding sends host_try loop_try ask begun closed provided_by sent_by polled_by drain clear hear part_try install to_send packet_for after_sending round_pass round settle lost was_reset repeated held flipped replayed asked part_staged planned_strikes sent_out injected advanced expired gave_up revoked pulled plugged applied
pulls_take_packets_limbo = refl

pub pulls_take_packets_drops : taken_away.dropped ≡ 0
unfolding sends host_try loop_try ask begun closed provided_by sent_by polled_by drain clear hear part_try install to_send packet_for after_sending round_pass round settle lost was_reset repeated held flipped replayed asked part_staged planned_strikes sent_out injected advanced expired gave_up revoked pulled plugged applied
pulls_take_packets_drops = refl

pub new_cables_dropped : (step renewed (Event.Advance 0)).0 ≡ Effect.Dropped Cause.NewCable
unfolding sends host_try loop_try ask begun closed provided_by sent_by polled_by drain clear hear part_try install to_send packet_for after_sending round_pass round settle lost was_reset repeated held flipped replayed asked part_staged planned_strikes sent_out injected advanced expired gave_up revoked pulled plugged applied
new_cables_dropped = refl

pub new_cables_no_cable : (step cut_off (Event.Advance 0)).0 ≡ Effect.Dropped Cause.NoCable
unfolding sends host_try loop_try ask begun closed provided_by sent_by polled_by drain clear hear part_try install to_send packet_for after_sending round_pass round settle lost was_reset repeated held flipped replayed asked part_staged planned_strikes sent_out injected advanced expired gave_up revoked pulled plugged applied
new_cables_no_cable = refl

pub new_cables_has : has_to_send to_be_sent 0 ≡ true
unfolding sends host_try loop_try ask begun closed provided_by sent_by polled_by drain clear hear part_try install to_send packet_for after_sending round_pass round settle lost was_reset repeated held flipped replayed asked part_staged planned_strikes sent_out injected advanced expired gave_up revoked pulled plugged applied
new_cables_has = refl

pub new_cables_has_no_cable : has_to_send uncabled 0 ≡ false
unfolding sends host_try loop_try ask begun closed provided_by sent_by polled_by drain clear hear part_try install to_send packet_for after_sending round_pass round settle lost was_reset repeated held flipped replayed asked part_staged planned_strikes sent_out injected advanced expired gave_up revoked pulled plugged applied
new_cables_has_no_cable = refl

pub new_cables_has_new_cable : has_to_send kept_in.1 0 ≡ false
unfolding sends host_try loop_try ask begun closed provided_by sent_by polled_by drain clear hear part_try install to_send packet_for after_sending round_pass round settle lost was_reset repeated held flipped replayed asked part_staged planned_strikes sent_out injected advanced expired gave_up revoked pulled plugged applied
new_cables_has_new_cable = refl

pub new_cables_kept : kept_in.0 ≡ Effect.Said Said.Done ∷ Effect.Idle ∷ []
unfolding sends host_try loop_try ask begun closed provided_by sent_by polled_by drain clear hear part_try install to_send packet_for after_sending round_pass round settle lost was_reset repeated held flipped replayed asked part_staged planned_strikes sent_out injected advanced expired gave_up revoked pulled plugged applied
new_cables_kept = refl

pub new_cables_probe : probed.0 ≡ Effect.Staged ∷ Effect.Injected 3 ∷ []
unfolding sends host_try loop_try ask begun closed provided_by sent_by polled_by drain clear hear part_try install to_send packet_for after_sending round_pass round settle lost was_reset repeated held flipped replayed asked part_staged planned_strikes sent_out injected advanced expired gave_up revoked pulled plugged applied
new_cables_probe = refl

pub planned_pulls_own : packet_in (pulled_at_once (host_end 0)).1.links 0 ≡ None
unfolding sends host_try loop_try ask begun closed provided_by sent_by polled_by drain clear hear part_try install to_send packet_for after_sending round_pass round settle lost was_reset repeated held flipped replayed asked part_staged planned_strikes sent_out injected advanced expired gave_up revoked pulled plugged applied
planned_pulls_own = refl

pub planned_pulls_own_injected : (pulled_at_once (host_end 0)).0 ≡ Effect.Injected 3 ∷ []
unfolding sends host_try loop_try ask begun closed provided_by sent_by polled_by drain clear hear part_try install to_send packet_for after_sending round_pass round settle lost was_reset repeated held flipped replayed asked part_staged planned_strikes sent_out injected advanced expired gave_up revoked pulled plugged applied
planned_pulls_own_injected = refl

pub planned_pulls_own_struck : ((pulled_at_once (host_end 0)).1.struck ≡ 1) × ((pulled_at_once (host_end 0)).1.harmed ≡ 0)
unfolding sends host_try loop_try ask begun closed provided_by sent_by polled_by drain clear hear part_try install to_send packet_for after_sending round_pass round settle lost was_reset repeated held flipped replayed asked part_staged planned_strikes sent_out injected advanced expired gave_up revoked pulled plugged applied
planned_pulls_own_struck = (refl, refl)

pub planned_pulls_other : packet_in (pulled_at_once b_end).1.links 0 ≡ Some abc_frame
unfolding sends host_try loop_try ask begun closed provided_by sent_by polled_by drain clear hear part_try install to_send packet_for after_sending round_pass round settle lost was_reset repeated held flipped replayed asked part_staged planned_strikes sent_out injected advanced expired gave_up revoked pulled plugged applied
planned_pulls_other = refl

pub planned_pulls_other_struck : ((pulled_at_once b_end).1.struck ≡ 1) × ((pulled_at_once b_end).1.links.cables.changes ≡ 1)
unfolding sends host_try loop_try ask begun closed provided_by sent_by polled_by drain clear hear part_try install to_send packet_for after_sending round_pass round settle lost was_reset repeated held flipped replayed asked part_staged planned_strikes sent_out injected advanced expired gave_up revoked pulled plugged applied
planned_pulls_other_struck = (refl, refl)

pub planned_pulls_missed : ((pulled_at_once (switch_end 0 6)).1.struck ≡ 0) × ((pulled_at_once (switch_end 0 6)).1.links.cables.changes ≡ 0)
unfolding sends host_try loop_try ask begun closed provided_by sent_by polled_by drain clear hear part_try install to_send packet_for after_sending round_pass round settle lost was_reset repeated held flipped replayed asked part_staged planned_strikes sent_out injected advanced expired gave_up revoked pulled plugged applied
planned_pulls_missed = (refl, refl)

pub planned_pulls_planned_no_more : (pulled_at_once (switch_end 0 6)).1.plan ≡ []
unfolding sends host_try loop_try ask begun closed provided_by sent_by polled_by drain clear hear part_try install to_send packet_for after_sending round_pass round settle lost was_reset repeated held flipped replayed asked part_staged planned_strikes sent_out injected advanced expired gave_up revoked pulled plugged applied
planned_pulls_planned_no_more = refl

pub broken_routes_whole : is_broken on_its_way 0 1 ≡ false
unfolding sends host_try loop_try ask begun closed provided_by sent_by polled_by drain clear hear part_try install to_send packet_for after_sending round_pass round settle lost was_reset repeated held flipped replayed asked part_staged planned_strikes sent_out injected advanced expired gave_up revoked pulled plugged applied
broken_routes_whole = refl

pub broken_routes_broken : is_broken cut_off 0 1 ≡ true
unfolding sends host_try loop_try ask begun closed provided_by sent_by polled_by drain clear hear part_try install to_send packet_for after_sending round_pass round settle lost was_reset repeated held flipped replayed asked part_staged planned_strikes sent_out injected advanced expired gave_up revoked pulled plugged applied
broken_routes_broken = refl

pub broken_routes_broken_back : is_broken cut_off 1 0 ≡ true
unfolding sends host_try loop_try ask begun closed provided_by sent_by polled_by drain clear hear part_try install to_send packet_for after_sending round_pass round settle lost was_reset repeated held flipped replayed asked part_staged planned_strikes sent_out injected advanced expired gave_up revoked pulled plugged applied
broken_routes_broken_back = refl

pub broken_routes_still : is_broken renewed 0 1 ≡ true
unfolding sends host_try loop_try ask begun closed provided_by sent_by polled_by drain clear hear part_try install to_send packet_for after_sending round_pass round settle lost was_reset repeated held flipped replayed asked part_staged planned_strikes sent_out injected advanced expired gave_up revoked pulled plugged applied
broken_routes_still = refl

pub map_while_a_cable_goes_drowned : parting_map.value.drowned ≡ 13
unfolding sends host_try loop_try ask begun closed provided_by sent_by polled_by drain clear hear part_try install to_send packet_for after_sending round_pass round settle lost was_reset repeated held flipped replayed asked part_staged planned_strikes sent_out injected advanced expired gave_up revoked pulled plugged applied
map_while_a_cable_goes_drowned = refl

pub map_while_a_cable_goes_answers : map (λ e. e.answer) parting_map.value.entries ≡ Answer.Switch ∷ replicate 30 Answer.Nothing
unfolding sends host_try loop_try ask begun closed provided_by sent_by polled_by drain clear hear part_try install to_send packet_for after_sending round_pass round settle lost was_reset repeated held flipped replayed asked part_staged planned_strikes sent_out injected advanced expired gave_up revoked pulled plugged applied
map_while_a_cable_goes_answers = refl

pub map_while_a_cable_goes_packets : (parting_map.world.injected ≡ 62) × (parting_map.world.dropped ≡ 61)
unfolding sends host_try loop_try ask begun closed provided_by sent_by polled_by drain clear hear part_try install to_send packet_for after_sending round_pass round settle lost was_reset repeated held flipped replayed asked part_staged planned_strikes sent_out injected advanced expired gave_up revoked pulled plugged applied
map_while_a_cable_goes_packets = (refl, refl)

pub cable_renewed_calls : cut_calls.0 ≡ Effect.Said Said.Done ∷ Effect.Said Said.Done ∷ Effect.Said (Said.Token 0) ∷ Effect.Said (Said.Token 0) ∷ Effect.Said Said.Done ∷ []
unfolding sends host_try loop_try ask begun closed provided_by sent_by polled_by drain clear hear part_try install to_send packet_for after_sending round_pass round settle lost was_reset repeated held flipped replayed asked part_staged planned_strikes sent_out injected advanced expired gave_up revoked pulled plugged applied
cable_renewed_calls = refl

pub cable_renewed_waits : (cut_settled.value.rounds ≡ 1) × (cut_settled.value.resets ≡ 0) × (unacknowledged_in cut_settled.world ≡ 1)
unfolding sends host_try loop_try ask begun closed provided_by sent_by polled_by drain clear hear part_try install to_send packet_for after_sending round_pass round settle lost was_reset repeated held flipped replayed asked part_staged planned_strikes sent_out injected advanced expired gave_up revoked pulled plugged applied
cable_renewed_waits = (refl, refl, refl)

pub cable_renewed_waits_still : (renewed_settled.value.rounds ≡ 1) × (renewed_settled.value.resets ≡ 0) × (unacknowledged_in renewed_settled.world ≡ 1)
unfolding sends host_try loop_try ask begun closed provided_by sent_by polled_by drain clear hear part_try install to_send packet_for after_sending round_pass round settle lost was_reset repeated held flipped replayed asked part_staged planned_strikes sent_out injected advanced expired gave_up revoked pulled plugged applied
cable_renewed_waits_still = (refl, refl, refl)

pub cable_renewed_answers : map (λ e. e.answer) second_map.value.entries ≡ Answer.Switch ∷ replicate 17 Answer.Nothing ++ Answer.Host 1 ∷ replicate 12 Answer.Nothing
unfolding sends host_try loop_try ask begun closed provided_by sent_by polled_by drain clear hear part_try install to_send packet_for after_sending round_pass round settle lost was_reset repeated held flipped replayed asked part_staged planned_strikes sent_out injected advanced expired gave_up revoked pulled plugged applied
cable_renewed_answers = refl

pub cable_renewed_may_not_adopt : may_adopt second_map.world setup_routes ≡ false
unfolding sends host_try loop_try ask begun closed provided_by sent_by polled_by drain clear hear part_try install to_send packet_for after_sending round_pass round settle lost was_reset repeated held flipped replayed asked part_staged planned_strikes sent_out injected advanced expired gave_up revoked pulled plugged applied
cable_renewed_may_not_adopt = refl

pub cable_renewed_given_up : given_up.0 ≡ Effect.Said Said.Done ∷ Effect.Said Said.Done ∷ []
unfolding sends host_try loop_try ask begun closed provided_by sent_by polled_by drain clear hear part_try install to_send packet_for after_sending round_pass round settle lost was_reset repeated held flipped replayed asked part_staged planned_strikes sent_out injected advanced expired gave_up revoked pulled plugged applied
cable_renewed_given_up = refl

pub cable_renewed_installed : second_install.value ≡ 2
unfolding sends host_try loop_try ask begun closed provided_by sent_by polled_by drain clear hear part_try install to_send packet_for after_sending round_pass round settle lost was_reset repeated held flipped replayed asked part_staged planned_strikes sent_out injected advanced expired gave_up revoked pulled plugged applied
cable_renewed_installed = refl

pub cable_renewed_settles : (second_settled.value.rounds ≡ 1) × (second_settled.value.resets ≡ 0) × (unacknowledged_in second_settled.world ≡ 0)
unfolding sends host_try loop_try ask begun closed provided_by sent_by polled_by drain clear hear part_try install to_send packet_for after_sending round_pass round settle lost was_reset repeated held flipped replayed asked part_staged planned_strikes sent_out injected advanced expired gave_up revoked pulled plugged applied
cable_renewed_settles = (refl, refl, refl)

pub cable_renewed_message : second_poll.0 ≡ received 0 (7 ∷ []) ∷ []
unfolding sends host_try loop_try ask begun closed provided_by sent_by polled_by drain clear hear part_try install to_send packet_for after_sending round_pass round settle lost was_reset repeated held flipped replayed asked part_staged planned_strikes sent_out injected advanced expired gave_up revoked pulled plugged applied
cable_renewed_message = refl

pub cable_renewed_packets : (second_poll.1.injected ≡ 132) × (second_poll.1.dropped ≡ 120)
unfolding sends host_try loop_try ask begun closed provided_by sent_by polled_by drain clear hear part_try install to_send packet_for after_sending round_pass round settle lost was_reset repeated held flipped replayed asked part_staged planned_strikes sent_out injected advanced expired gave_up revoked pulled plugged applied
cable_renewed_packets = (refl, refl)

cut_whole : route_channels cut_off 0 (pos 3 ∷ []) ≡ 0 ∷ 3 ∷ []
unfolding sends host_try loop_try ask begun closed provided_by sent_by polled_by drain clear hear part_try install to_send packet_for after_sending round_pass round settle lost was_reset repeated held flipped replayed asked part_staged planned_strikes sent_out injected advanced expired gave_up revoked pulled plugged applied
cut_whole = refl

cut_ahead : channels_ahead cut_off 0 abc_frame.wire ≡ 0 ∷ []
unfolding sends host_try loop_try ask begun closed provided_by sent_by polled_by drain clear hear part_try install to_send packet_for after_sending round_pass round settle lost was_reset repeated held flipped replayed asked part_staged planned_strikes sent_out injected advanced expired gave_up revoked pulled plugged applied
cut_ahead = refl

cut_route : slice_get (adopted_routes cut_off) 0 ≡ Some (record { from = 0; to = 1; walk = pos 3 ∷ [] })
unfolding sends host_try loop_try ask begun closed provided_by sent_by polled_by drain clear hear part_try install to_send packet_for after_sending round_pass round settle lost was_reset repeated held flipped replayed asked part_staged planned_strikes sent_out injected advanced expired gave_up revoked pulled plugged applied
cut_route = refl

cut_accepted : is_new cut_off.links.cables 0 ≡ false
unfolding sends host_try loop_try ask begun closed provided_by sent_by polled_by drain clear hear part_try install to_send packet_for after_sending round_pass round settle lost was_reset repeated held flipped replayed asked part_staged planned_strikes sent_out injected advanced expired gave_up revoked pulled plugged applied
cut_accepted = refl

renewed_whole : route_channels renewed 0 (pos 3 ∷ []) ≡ 0 ∷ 3 ∷ []
unfolding sends host_try loop_try ask begun closed provided_by sent_by polled_by drain clear hear part_try install to_send packet_for after_sending round_pass round settle lost was_reset repeated held flipped replayed asked part_staged planned_strikes sent_out injected advanced expired gave_up revoked pulled plugged applied
renewed_whole = refl

renewed_ahead : channels_ahead renewed 0 abc_frame.wire ≡ 0 ∷ []
unfolding sends host_try loop_try ask begun closed provided_by sent_by polled_by drain clear hear part_try install to_send packet_for after_sending round_pass round settle lost was_reset repeated held flipped replayed asked part_staged planned_strikes sent_out injected advanced expired gave_up revoked pulled plugged applied
renewed_ahead = refl

renewed_route : slice_get (adopted_routes renewed) 0 ≡ Some (record { from = 0; to = 1; walk = pos 3 ∷ [] })
unfolding sends host_try loop_try ask begun closed provided_by sent_by polled_by drain clear hear part_try install to_send packet_for after_sending round_pass round settle lost was_reset repeated held flipped replayed asked part_staged planned_strikes sent_out injected advanced expired gave_up revoked pulled plugged applied
renewed_route = refl

renewed_accepted : is_new renewed.links.cables 0 ≡ false
unfolding sends host_try loop_try ask begun closed provided_by sent_by polled_by drain clear hear part_try install to_send packet_for after_sending round_pass round settle lost was_reset repeated held flipped replayed asked part_staged planned_strikes sent_out injected advanced expired gave_up revoked pulled plugged applied
renewed_accepted = refl

frame_is_gm : is_gm abc_frame.wire ≡ true
frame_is_gm = refl

pub traffic_of_cut_routes_lawful : IsLawful cut_off 0 abc_frame
traffic_of_cut_routes_lawful = record {
  unmarked = refl;
  accepted = cut_accepted;
  place = 0;
  route = record { from = 0; to = 1; walk = pos 3 ∷ [] };
  behind = [];
  beyond = 3 ∷ [];
  there = cut_route;
  within = cut_whole ∙ sym (ap (λ cs. cs ++ 3 ∷ []) cut_ahead);
  stopped = inl frame_is_gm;
}

pub traffic_of_cut_routes_before_a_new_cable : IsLawful renewed 0 abc_frame
traffic_of_cut_routes_before_a_new_cable = record {
  unmarked = refl;
  accepted = renewed_accepted;
  place = 0;
  route = record { from = 0; to = 1; walk = pos 3 ∷ [] };
  behind = [];
  beyond = 3 ∷ [];
  there = renewed_route;
  within = renewed_whole ∙ sym (ap (λ cs. cs ++ 3 ∷ []) renewed_ahead);
  stopped = inl frame_is_gm;
}

-- all but the two connections between the hosts have nothing unacknowledged
cut_hosts : host_count cut_off ≡ 2
unfolding sends host_try loop_try ask begun closed provided_by sent_by polled_by drain clear hear part_try install to_send packet_for after_sending round_pass round settle lost was_reset repeated held flipped replayed asked part_staged planned_strikes sent_out injected advanced expired gave_up revoked pulled plugged applied
cut_hosts = refl

cut_sender : (lane : ℕ) → (lane ≡ 2 → ⊥) → (lane_at (node_at cut_off 0) lane).sender.base ≡ (lane_at (node_at cut_off 0) lane).sender.next
unfolding sends host_try loop_try ask begun closed provided_by sent_by polled_by drain clear hear part_try install to_send packet_for after_sending round_pass round settle lost was_reset repeated held flipped replayed asked part_staged planned_strikes sent_out injected advanced expired gave_up revoked pulled plugged applied
cut_sender zero other = refl
cut_sender (suc zero) other = refl
cut_sender (suc (suc zero)) other = absurd (other refl)
cut_sender (suc (suc (suc zero))) other = refl
cut_sender (suc (suc (suc (suc lane)))) other = refl

cut_receiver : AllByRecursion (λ (l : LaneState). l.sender.base ≡ l.sender.next) (node_at cut_off 1).lanes
unfolding sends host_try loop_try ask begun closed provided_by sent_by polled_by drain clear hear part_try install to_send packet_for after_sending round_pass round settle lost was_reset repeated held flipped replayed asked part_staged planned_strikes sent_out injected advanced expired gave_up revoked pulled plugged applied
cut_receiver = (refl, (refl, (refl, (refl, tt))))

pub traffic_of_cut_routes_settled : IsSettled cut_off
traffic_of_cut_routes_settled = record { connections = λ c l m. by c.src c.dst c.prio (subst (λ n. c.src < n) cut_hosts l) (subst (λ n. c.dst < n) cut_hosts m) }
  where
    by : (a b prio : ℕ) → a < 2 → b < 2 → IsSettledConnection cut_off (connection a b prio)
    by zero zero prio l m = all_acknowledged (cut_sender (lane_of 0 prio) (λ e. omega (arith, e)))
    by zero (suc zero) prio l m = cut broken_routes_broken
    by zero (suc (suc b)) prio l m = absurd (omega arith)
    by (suc zero) b prio l m =
        all_acknowledged (all-at (λ (l : LaneState). l.sender.base ≡ l.sender.next) (node_at cut_off 1).lanes (lane_of b prio) new_lane cut_receiver refl)
    by (suc (suc a)) b prio l m = absurd (omega arith)
