-- After a lost frame the world has a token for the message that was sent.
use Rattle.std.proofs.Common.{◌≡◌, ◌≢◌, ◌<◌, ◌≤◌, ◌+◌, ℕ, zero, suc, Bool, true, false, ◌&&◌, [], ◌∷◌, length, drop, nat_eq, ◌⊎◌, inl, inr, is_some, refl, sym, ap, ◌∙◌, subst, arith, true≢false}
use Rattle.std.proofs.lemmas.Bool.Decides.{nat_tests}
use Rattle.gm_defs.specs.declared.frame.ConnectionKey.{ConnectionKey}
use Rattle.gm_defs.specs.Connection.{connection}
use Rattle.gm_defs.specs.Token.{fits}
use Rattle.world_defs.specs.Table.{table_route}
use Rattle.world_defs.specs.Lane.{LaneState, new_lane}
use Rattle.world_defs.specs.Node.{to_send, packet_for, after_sending, lane_of, lane_at}
use Rattle.world_defs.specs.Hearing.{hear}
use Rattle.world_defs.specs.Client.{begun, provided_by, sent_by}
use Rattle.world_defs.specs.World.{host_count, node_at}
use Rattle.world_defs.specs.Traffic.{got_on}
use Rattle.world_defs.specs.Step.{lost, planned_strikes, sent_out, injected, advanced}
use Rattle.message_laws.specs.Examples.{ten}
use Rattle.settle_laws.specs.Examples.{lost_world}
use Rattle.ticket_laws.proofs.Matching.{same-or}
use Rattle.delivery_laws.specs.Delivery.{is_wanted, wanted_from, wanted_at, provided_at}
use Rattle.delivery_laws.specs.Examples.{LostWorldHasEnough}
use Rattle.delivery_laws.proofs.Counts.{one_if, count_of, count-cons}

-- host 0 has sent by one lane alone, and no other host has
others-new : (j : ℕ) → j ≢ 2 → lane_at (node_at lost_world 0) j ≡ new_lane
unfolding to_send packet_for after_sending hear begun provided_by sent_by lost planned_strikes sent_out injected advanced
others-new zero apart = refl
others-new (suc zero) apart = refl
others-new (suc (suc zero)) apart = absurd (apart refl)
others-new (suc (suc (suc zero))) apart = refl
others-new (suc (suc (suc (suc j)))) apart = refl

one-new : (j : ℕ) → lane_at (node_at lost_world 1) j ≡ new_lane
unfolding to_send packet_for after_sending hear begun provided_by sent_by lost planned_strikes sent_out injected advanced
one-new zero = refl
one-new (suc zero) = refl
one-new (suc (suc zero)) = refl
one-new (suc (suc (suc zero))) = refl
one-new (suc (suc (suc (suc j)))) = refl

past-new : (h j : ℕ) → lane_at (node_at lost_world (suc (suc h))) j ≡ new_lane
unfolding to_send packet_for after_sending hear begun provided_by sent_by lost planned_strikes sent_out injected advanced
past-new h j = refl

both-routed : (is_some (table_route (node_at lost_world 0).table 1) ≡ true) × (is_some (table_route (node_at lost_world 1).table 0) ≡ true)
unfolding to_send packet_for after_sending hear begun provided_by sent_by lost planned_strikes sent_out injected advanced
both-routed = (refl, refl)

idle : (l : LaneState) → l ≡ new_lane → l.sender.base < l.sender.next → ⊥
idle l e low = let a = ap (λ (x : LaneState). x.sender.base) e in let b = ap (λ (x : LaneState). x.sender.next) e in absurd (omega (arith, low, a, b))

routed : (src dst prio : ℕ) → (lane_at (node_at lost_world src) (lane_of dst prio)).sender.base < (lane_at (node_at lost_world src) (lane_of dst prio)).sender.next → (is_some (table_route (node_at lost_world src).table dst) ≡ true) × (is_some (table_route (node_at lost_world dst).table src) ≡ true)
routed zero zero prio low = absurd (idle (lane_at (node_at lost_world 0) (lane_of 0 prio)) (others-new (lane_of 0 prio) (λ e. absurd (omega (arith, e)))) low)
routed zero (suc zero) prio low = both-routed
routed zero (suc (suc d)) prio low = absurd (idle (lane_at (node_at lost_world 0) (lane_of (suc (suc d)) prio)) (others-new (lane_of (suc (suc d)) prio) (λ e. absurd (omega (arith, e)))) low)
routed (suc zero) dst prio low = absurd (idle (lane_at (node_at lost_world 1) (lane_of dst prio)) (one-new (lane_of dst prio)) low)
routed (suc (suc s)) dst prio low = absurd (idle (lane_at (node_at lost_world (suc (suc s))) (lane_of dst prio)) (past-new s (lane_of dst prio)) low)

none-left : {A : Type 0} (test : A → Bool) (n : ℕ) → count_of test (drop n []) ≡ 0
none-left test zero = refl
none-left test (suc n) = refl

none-wanted : (h port size prio src : ℕ) → lane_at (node_at lost_world src) (lane_of h prio) ≡ new_lane → wanted_from lost_world h port size prio src ≡ 0
none-wanted h port size prio src e =
    let c : ConnectionKey = connection src h prio in
    ap (λ (l : LaneState). count_of (is_wanted port size prio) (drop (length (got_on lost_world c)) l.sent)) e ∙ none-left (is_wanted port size prio) (length (got_on lost_world c))

-- all wanted tokens are for messages of the two hosts
two-hosts : (h port size prio : ℕ) → wanted_at lost_world h port size prio ≡ wanted_from lost_world h port size prio 0 + (wanted_from lost_world h port size prio 1 + 0)
unfolding to_send packet_for after_sending hear begun provided_by sent_by lost planned_strikes sent_out injected advanced
two-hosts h port size prio = refl

few-hosts : host_count lost_world ≡ 2
unfolding to_send packet_for after_sending hear begun provided_by sent_by lost planned_strikes sent_out injected advanced
few-hosts = refl

-- the message of host 0
one-sent : (port size : ℕ) → wanted_from lost_world 1 port size 0 0 ≡ count_of (is_wanted port size 0) (ten ∷ [])
unfolding to_send packet_for after_sending hear begun provided_by sent_by lost planned_strikes sent_out injected advanced
one-sent port size = refl

one-there : (wanted_from lost_world 1 1 4 0 0 ≡ 1) × (provided_at lost_world 1 1 4 0 ≡ 1)
unfolding to_send packet_for after_sending hear begun provided_by sent_by lost planned_strikes sent_out injected advanced
one-there = (refl, refl)

not-first : (a b : Bool) → a ≡ false → (a && b) ≡ false
not-first true b e = absurd (true≢false e)
not-first false b e = refl

unwanted : (port size : ℕ) → is_wanted port size 0 ten ≡ false → wanted_from lost_world 1 port size 0 0 ≡ 0
unwanted port size e =
    let a = one-sent port size in
    let b = count-cons (is_wanted port size 0) ten [] in
    let d : one_if (is_wanted port size 0 ten) ≡ 0 = ap one_if e in
    omega (arith, a, b, d)

fits-four : (size : ℕ) → size ≢ 4 → is_wanted 1 size 0 ten ≡ false
fits-four size other = let four : nat_eq size 4 ≡ false = grind (arith, nat_tests) in ap (λ b. b && true) four

for-one : (port size : ℕ) → port ≢ 1 → is_wanted port size 0 ten ≡ false
for-one port size other = let one : nat_eq 1 port ≡ false = grind (arith, nat_tests) in not-first (nat_eq 1 port) (fits size 0 1 0) one

first-wanted : (port size : ℕ) → wanted_from lost_world 1 port size 0 0 ≤ provided_at lost_world 1 port size 0
first-wanted port size = by (same-or port 1) (same-or size 4)
  where
    by : (port ≡ 1) ⊎ (port ≢ 1) → (size ≡ 4) ⊎ (size ≢ 4) → wanted_from lost_world 1 port size 0 0 ≤ provided_at lost_world 1 port size 0
    by (inl a) (inl b) =
        subst (λ i. wanted_from lost_world 1 i size 0 0 ≤ provided_at lost_world 1 i size 0) (sym a)
        (subst (λ i. wanted_from lost_world 1 1 i 0 0 ≤ provided_at lost_world 1 1 i 0) (sym b) (let x = one-there.0 in let y = one-there.1 in omega (arith, x, y)))
    by (inl a) (inr b) =
        subst (λ i. wanted_from lost_world 1 i size 0 0 ≤ provided_at lost_world 1 i size 0) (sym a) (let none = unwanted 1 size (fits-four size b) in omega (arith, none))
    by (inr a) b = let none = unwanted port size (for-one port size a) in omega (arith, none)

enough-at : (h port size prio : ℕ) → h < host_count lost_world → wanted_at lost_world h port size prio ≤ provided_at lost_world h port size prio
enough-at zero port size prio low =
    let all = two-hosts 0 port size prio in
    let a = none-wanted 0 port size prio 0 (others-new (lane_of 0 prio) (λ e. absurd (omega (arith, e)))) in
    let b = none-wanted 0 port size prio 1 (one-new (lane_of 0 prio)) in
    omega (arith, all, a, b)
enough-at (suc zero) port size zero low =
    let all = two-hosts 1 port size 0 in
    let a = first-wanted port size in
    let b = none-wanted 1 port size 0 1 (one-new (lane_of 1 0)) in
    omega (arith, all, a, b)
enough-at (suc zero) port size (suc prio) low =
    let all = two-hosts 1 port size (suc prio) in
    let a = none-wanted 1 port size (suc prio) 0 (others-new (lane_of 1 (suc prio)) (λ e. absurd (omega (arith, e)))) in
    let b = none-wanted 1 port size (suc prio) 1 (one-new (lane_of 1 (suc prio))) in
    omega (arith, all, a, b)
enough-at (suc (suc h)) port size prio low = let two = few-hosts in absurd (omega (arith, low, two))

pub lost-enough : LostWorldHasEnough
lost-enough = record { tables = λ c. routed c.src c.dst c.prio; tokens = enough-at }
