-- Hosts that are silent or at rest, and peers that have acknowledged all, are passed by.
use Rattle.std.proofs.Common.{◌<◌, ◌≤◌, ℕ, zero, suc, ◌+◌, ◌-◌, subst, arith}
use Rattle.world_defs.specs.World.{WorldState, host_count}

-- what is kept from each address to the next is kept from one to another
pass-by : (P : ℕ → Type 0) (gap from : ℕ) → ((h : ℕ) → from ≤ h → h < from + gap → P h → P (h + 1)) → P from → P (from + gap)
pass-by P zero from on p = subst P (omega arith) p
pass-by P (suc gap) from on p =
    let further : P (from + 1 + gap) = pass-by P gap (from + 1) (λ h low high q. on h (omega (arith, low)) (omega (arith, high)) q) (on from (omega arith) (omega arith) p) in
    subst P (omega arith) further

-- the same up to a host that is found, and up to the end
module _ (R P : ℕ → Type 0) (w : WorldState) (from : ℕ) (on : (h : ℕ) → R h → h < host_count w → P h → P (h + 1)) where
  pub up-to : (host : ℕ) → from ≤ host → host < host_count w → ((h : ℕ) → from ≤ h → h < host → R h) → P from → P host
  up-to host above there passed p =
      let all : P (from + (host - from)) =
      pass-by P (host - from) from (λ h low high q. on h (passed h low (omega (arith, above, high))) (omega (arith, above, high, there)) q) p in
      subst P (omega (arith, above)) all

  pub to-end : ((h : ℕ) → from ≤ h → h < host_count w → R h) → P from → P (from + (host_count w - from))
  to-end passed p = pass-by P (host_count w - from) from (λ h low high q. on h (passed h low (omega (arith, low, high))) (omega (arith, low, high)) q) p
