-- On a lane that isn't used nothing is acknowledged, and no message needs too great a number.
use Rattle.std.proofs.Common.{◌≡◌, ◌-◌, ◌≤◌, ℕ, Bool, true, false, ◌&&◌, nat_lt, nat_le, [], drop, max, refl, ap, arith, if◌then◌else◌}
use Rattle.std.proofs.lemmas.Bool.Decides.{nat_tests}
use Rattle.gm_defs.specs.Body.{message_limit}
use Rattle.gm_defs.specs.Connection.{starting, is_taken, acknowledged, is_spent}
use Rattle.gm_defs.specs.Fragment.{whole_below, piece_count}
use Rattle.world_defs.specs.Lane.{new_lane, finished_by, lane_acknowledged}

taken_none : (n : ℕ) → is_taken (starting 0) n ≡ false
taken_none n = by (nat_lt 0 n) (nat_le n 0) refl refl
  where
    by : (above within : Bool) → nat_lt 0 n ≡ above → nat_le n 0 ≡ within → (above && within) ≡ false
    by false within up down = refl
    by true false up down = refl
    by true true up down = grind (arith, nat_tests)

acknowledged_none : (n : ℕ) → acknowledged (starting 0) n ≡ starting 0
acknowledged_none n = ap (λ b. if b then record (starting 0) { base = n; cursor = max 0 n } else starting 0) (taken_none n)

pub unused_finished : (n : ℕ) → finished_by new_lane n ≡ 0
unused_finished n = ap (λ s. whole_below [] s.base - whole_below [] 0) (acknowledged_none n)

pub unused_acknowledged : (n : ℕ) → lane_acknowledged new_lane n ≡ new_lane
unused_acknowledged n = λ i. record new_lane { sender = acknowledged_none n i; pending = drop (unused_finished n i) [] }

pub unused_spent : (n : ℕ) → n ≤ message_limit → is_spent (starting 0) (piece_count n) ≡ false
unused_spent n low = by (is_spent (starting 0) (piece_count n)) refl
  where
    by : (b : Bool) → is_spent (starting 0) (piece_count n) ≡ b → is_spent (starting 0) (piece_count n) ≡ false
    by false e = e
    by true e = grind (arith, nat_tests)
