-- What small lists of acts may do, and a sound moment after one.
use Rattle.std.proofs.Common.{◌≡◌, ◌<◌, ℕ, zero, suc, List, [], ◌∷◌, ◌++◌, get_or, Some, None, refl, sym, ap, ◌∙◌, subst, arith, rules, append-nil}
use Rattle.std.specs.Prelude.{codes, slice_get}
use Rattle.std.specs.List.{AllByRecursion}
use Rattle.net_defs.specs.Examples.{two_hosts}
use Rattle.net_defs.specs.Dependencies.{IsBefore, HasNoCycle}
use Rattle.net_defs.proofs.Cycles.{no_cycle-rising}
use Rattle.gm_defs.specs.declared.message.Message.{Message}
use Rattle.gm_defs.specs.declared.frame.ConnectionKey.{ConnectionKey}
use Rattle.gm_defs.specs.Connection.{connection}
use Rattle.gm_defs.specs.Examples.{message}
use Rattle.world_defs.specs.Table.{applied}
use Rattle.world_defs.specs.Lane.{LaneState, new_lane}
use Rattle.world_defs.specs.Node.{lane_of, lane_at, to_send, packet_for, after_sending, port_at}
use Rattle.world_defs.specs.Hearing.{hear}
use Rattle.world_defs.specs.Client.{begun, closed, provided_by, sent_by, polled_by}
use Rattle.world_defs.specs.World.{new_world, node_at, client_at}
use Rattle.world_defs.specs.Step.{lost, was_reset, repeated, held, flipped, replayed, asked, part_staged, planned_strikes, sent_out, injected, advanced, expired, gave_up}
use Rattle.world_defs.specs.Logs.{drain, clear, round_pass, round, settle, sends, host_try, loop_try, ask, part_try, install}
use Rattle.world_defs.specs.Traffic.{sent_on, got_on}
use Rattle.world_defs.specs.Sound.{IsSound, IsPrefix, AreOwned, installed_channels}
use Rattle.world_defs.proofs.Moments.{rank, rises, both_ways, all-at, same-at, unowned, front_of_none}
use Rattle.world_defs.specs.Examples.{setup_routes}
use Rattle.world_defs.specs.Acts.{AreAdoptable, MayActAll}
use Rattle.world_defs.specs.ActExamples.{adopting, planned_flip, flip_now, delivering, delivered_world}

-- the routes of the two hosts may be adopted
pub adoptable : AreAdoptable two_hosts setup_routes
adoptable = record { lead = (refl, (refl, tt)); number = rank; rises = rises }

pub acts_may_happen : MayActAll (new_world two_hosts) adopting
acts_may_happen = ((omega arith, tt), ((adoptable, refl), (tt, tt)))

-- flips of eight bits may happen, and of nine may not
pub eight_bits_are_planned : MayActAll (new_world two_hosts) (planned_flip 255)
eight_bits_are_planned = ((omega arith, omega arith), tt)

pub nine_bits_are_not_planned : ¬ MayActAll (new_world two_hosts) (planned_flip 256)
nine_bits_are_not_planned m = let low : 256 < 256 = m.0.1 in omega arith

pub eight_bits_flip : MayActAll (new_world two_hosts) (flip_now 255)
eight_bits_flip = (omega arith, tt)

pub nine_bits_do_not_flip : ¬ MayActAll (new_world two_hosts) (flip_now 256)
nine_bits_do_not_flip m = let low : 256 < 256 = m.0 in omega arith

-- a message that came once, though its frame came twice
pub delivering_may_happen : MayActAll (new_world two_hosts) delivering
delivering_may_happen = ((omega arith, tt), ((adoptable, refl), (tt, (tt, (tt, (tt, (tt, (tt, (tt, (tt, (tt, (tt, tt))))))))))))

pub delivered_got : got_on delivered_world (connection 0 1 0) ≡ message (codes "ABC") ∷ []
unfolding sends host_try loop_try ask begun closed provided_by sent_by polled_by drain clear hear part_try install to_send packet_for after_sending round_pass round settle lost was_reset repeated held flipped replayed asked part_staged planned_strikes sent_out injected advanced expired gave_up applied
delivered_got = refl

delivered_sent : sent_on delivered_world (connection 0 1 0) ≡ message (codes "ABC") ∷ []
unfolding sends host_try loop_try ask begun closed provided_by sent_by polled_by drain clear hear part_try install to_send packet_for after_sending round_pass round settle lost was_reset repeated held flipped replayed asked part_staged planned_strikes sent_out injected advanced expired gave_up applied
delivered_sent = refl

-- nothing else came
delivered_others : (lane : ℕ) → (lane ≡ 0 → ⊥) → (lane_at (node_at delivered_world 1) lane).got ≡ []
unfolding sends host_try loop_try ask begun closed provided_by sent_by polled_by drain clear hear part_try install to_send packet_for after_sending round_pass round settle lost was_reset repeated held flipped replayed asked part_staged planned_strikes sent_out injected advanced expired gave_up applied
delivered_others zero other = absurd (other refl)
delivered_others (suc zero) other = refl
delivered_others (suc (suc zero)) other = refl
delivered_others (suc (suc (suc zero))) other = refl
delivered_others (suc (suc (suc (suc lane)))) other = refl

delivered_none : AllByRecursion (λ (l : LaneState). l.got ≡ []) (node_at delivered_world 0).lanes
unfolding sends host_try loop_try ask begun closed provided_by sent_by polled_by drain clear hear part_try install to_send packet_for after_sending round_pass round settle lost was_reset repeated held flipped replayed asked part_staged planned_strikes sent_out injected advanced expired gave_up applied
delivered_none = (refl, (refl, (refl, (refl, tt))))

delivered_past : (h : ℕ) → (node_at delivered_world (suc (suc h))).lanes ≡ []
unfolding sends host_try loop_try ask begun closed provided_by sent_by polled_by drain clear hear part_try install to_send packet_for after_sending round_pass round settle lost was_reset repeated held flipped replayed asked part_staged planned_strikes sent_out injected advanced expired gave_up applied
delivered_past h = refl

same_front : (got sent ms : List Message) → got ≡ ms → sent ≡ ms → IsPrefix got sent
same_front got sent ms e f = record { rest = []; both = f ∙ sym (append-nil ms) ∙ ap (λ g. g ++ []) (sym e) }

delivered_front : (c : ConnectionKey) → IsPrefix (got_on delivered_world c) (sent_on delivered_world c)
delivered_front c = by c.src c.dst c.prio
  where
    by : (a b prio : ℕ) → IsPrefix (got_on delivered_world (connection a b prio)) (sent_on delivered_world (connection a b prio))
    by a zero prio = front_of_none _ _ (all-at (λ (l : LaneState). l.got ≡ []) (node_at delivered_world 0).lanes (lane_of a prio) new_lane delivered_none refl)
    by zero (suc zero) zero = same_front _ _ _ delivered_got delivered_sent
    by zero (suc zero) (suc prio) = front_of_none _ _ (delivered_others (lane_of 0 (suc prio)) (λ e. omega (arith, e)))
    by (suc a) (suc zero) prio = front_of_none _ _ (delivered_others (lane_of (suc a) prio) (λ e. omega (arith, e)))
    by a (suc (suc b)) prio = front_of_none _ _ (ap (λ ls. (get_or ls (lane_of a prio) new_lane).got) (delivered_past b))

delivered_owned : (h port : ℕ) → AreOwned (port_at (node_at delivered_world h) port) (client_at delivered_world h port)
unfolding sends host_try loop_try ask begun closed provided_by sent_by polled_by drain clear hear part_try install to_send packet_for after_sending round_pass round settle lost was_reset repeated held flipped replayed asked part_staged planned_strikes sent_out injected advanced expired gave_up applied
delivered_owned zero zero = record { sends = record { once = search rules; below = search rules; all = refl }; recvs = record { once = search rules; below = search rules; all = refl } }
delivered_owned zero (suc port) = unowned _ _ (same-at None 7 port) (same-at None 7 port)
delivered_owned (suc zero) zero = tt
delivered_owned (suc zero) (suc zero) = record { sends = record { once = search rules; below = search rules; all = refl }; recvs = record { once = search rules; below = search rules; all = refl } }
delivered_owned (suc zero) (suc (suc port)) = unowned _ _ (same-at None 6 port) (same-at None 6 port)
delivered_owned (suc (suc h)) port = unowned _ _ (same-at None 8 port) refl

-- host 0 alone has its table
abbrev one_way : List (List ℕ)
one_way = (0 ∷ 3 ∷ []) ∷ []

one_rises : (c d : ℕ) → IsBefore one_way c d → rank c < rank d
one_rises c d b = by b.place b.there
  where
    by : (place : ℕ) → slice_get one_way place ≡ Some b.route → rank c < rank d
    by zero e = let same : slice_get both_ways 0 ≡ Some b.route = e in rises c d (record { place = 0; route = b.route; there = same; next = b.next })
    by (suc place) e = cc

delivered_channels : installed_channels delivered_world ≡ one_way
unfolding sends host_try loop_try ask begun closed provided_by sent_by polled_by drain clear hear part_try install to_send packet_for after_sending round_pass round settle lost was_reset repeated held flipped replayed asked part_staged planned_strikes sent_out injected advanced expired gave_up applied
delivered_channels = refl

pub delivered_is_sound : IsSound delivered_world
delivered_is_sound = record {
  no_cycle = subst (λ cs. HasNoCycle (IsBefore cs)) (sym delivered_channels) (no_cycle-rising _ rank one_rises);
  in_order = delivered_front;
  one_owner = delivered_owned;
}
