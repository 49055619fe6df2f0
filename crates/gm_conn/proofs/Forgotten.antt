-- The lanes of a host as they are forgotten one after the other, least first.
use Rattle.std.proofs.Common.{◌≡◌, ◌<◌, ◌+◌, ◌++◌, ◌∷◌, ℕ, zero, suc, List, [], length, drop, replicate, refl, ap, ◌∙◌, arith}
use Rattle.std.specs.Prelude.{slice_set}
use Rattle.world_defs.specs.Lane.{LaneState, new_lane}
use Rattle.gm_conn.specs.Lanes.{HostLanes, with_state}

-- a host's lanes of which the first so many are as before anything was sent
abbrev pub first_forgotten : HostLanes → ℕ → HostLanes
first_forgotten h n = record h { lanes = replicate n new_lane ++ drop n h.lanes }

one-more : (n : ℕ) (ls : List LaneState) → n < length ls → slice_set (replicate n new_lane ++ drop n ls) n new_lane ≡ replicate (suc n) new_lane ++ drop (suc n) ls
one-more n [] low = absurd (omega (arith, low))
one-more zero (l ∷ ls) low = refl
one-more (suc n) (l ∷ ls) low = ap (λ r. new_lane ∷ r) (one-more n ls (omega (arith, low)))

pub forgotten-next : (h v w : HostLanes) (n : ℕ) → n < length h.lanes → v ≡ first_forgotten h n → w ≡ with_state v n new_lane → w ≡ first_forgotten h (n + 1)
forgotten-next h v w n low before after =
    let next : suc n ≡ n + 1 = omega arith in
    after ∙ ap (λ x. with_state x n new_lane) before ∙ ap (λ (ls : List LaneState). record h { lanes = ls }) (one-more n h.lanes low) ∙ ap (first_forgotten h) next
