-- Hosts that are silent or at rest are passed by: what would happen of them changes nothing.
use Rattle.std.proofs.Common.{◌≡◌, ◌<◌, ◌≤◌, ℕ, suc, ◌+◌, ◌-◌, Bool, false, not, ◌||◌, ◌&&◌, nat_lt, [], true, refl, sym, ◌∙◌, ap, arith}
use Rattle.std.specs.List.{list_all, range_with_len}
use Rattle.world_defs.specs.World.{WorldState, host_count, has_to_send}
use Rattle.world_defs.specs.Step.{after_all}
use Rattle.world_defs.specs.Settle.{expiries_of}
use Rattle.fab_world.specs.Resting.{IsSilentIn, RestsIn}
use Rattle.fab_world.proofs.Summing.{rests-none}
use Rattle.world_drain.proofs.GivingUp.{GivingUp, giving-on, give_up-idle}
use Rattle.world_drain.proofs.Injects.{Injecting, injecting-on, inject-idle}
use Rattle.world_drain.proofs.Quiet.{all-on, silent-unsending}
use Rattle.world_drain.proofs.Expiries.{ExpiringAll, expiring_all-on, expiries-none}

-- ---- each of the rows
module _ (first now : WorldState) where
  pub giving-by : (h : ℕ) → IsSilentIn now h → h < host_count now → GivingUp first now h → GivingUp first now (h + 1)
  giving-by h r low g =
      let same = g.hosts in
      giving-on first now now h g (omega (arith, low, same)) (give_up-idle now h r.unstaged) refl

  pub injecting-by : (moved : Bool) (h : ℕ) → IsSilentIn now h → h < host_count now → Injecting first now h moved → Injecting first now (h + 1) moved
  injecting-by moved h r low g =
      let same = g.hosts in
      let idle = inject-idle now h r.unsending in
      injecting-on first now now h moved false moved g (omega (arith, low, same)) idle.0 idle.1 (or-none moved) refl
    where
      or-none : (b : Bool) → b ≡ (b || false)
      or-none true = refl
      or-none false = refl

  pub expiring-by : (h : ℕ) → RestsIn now h → h < host_count now → ExpiringAll first now h → ExpiringAll first now (h + 1)
  expiring-by h r low g =
      let same = g.hosts in
      let none : expiries_of now h ≡ [] = expiries-none now h (ap (nat_lt 0) (rests-none now h r)) in
      expiring_all-on first now now h g (omega (arith, low, same)) (ap (after_all now) (sym none)) refl

module _ (w : WorldState) where
  pub silent-by : (whole : Bool) (h : ℕ) → IsSilentIn w h → h < host_count w
      → list_all (λ h. not (has_to_send w h)) (range_with_len h (host_count w - h)) ≡ whole
      → list_all (λ h. not (has_to_send w h)) (range_with_len (h + 1) (host_count w - (h + 1))) ≡ whole
  silent-by whole h r low all = all-on (λ h. not (has_to_send w h)) (host_count w) h whole low (ap not (silent-unsending w h r.unsending)) all

-- one of them fails, and so do all
pub all-cut : (t : ℕ → Bool) (count host : ℕ) (whole : Bool) → host < count → t host ≡ false → list_all t (range_with_len host (count - host)) ≡ whole → false ≡ whole
all-cut t count host whole low here before =
    let left : count - host ≡ suc (count - (host + 1)) = omega (arith, low) in
    let rest : Bool = list_all t (range_with_len (host + 1) (count - (host + 1))) in
    sym (ap (λ b. b && rest) here) ∙ sym (ap (λ n. list_all t (range_with_len host n)) left) ∙ before

-- none is left that could fail
pub all-end : (t : ℕ → Bool) (count end : ℕ) (whole : Bool) → count ≤ end → list_all t (range_with_len end (count - end)) ≡ whole → true ≡ whole
all-end t count end whole past before =
    let left : count - end ≡ 0 = omega (arith, past) in
    sym (ap (λ n. list_all t (range_with_len end n)) left) ∙ before
