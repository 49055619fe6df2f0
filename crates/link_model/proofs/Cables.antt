-- Cables that are pulled and plugged: what the parts of the links are after it.
use Rattle.std.proofs.Common.{◌≡◌, ◌<◌, ◌+◌, ◌*◌, ◌/◌, ℕ, true, [], length, set, Option, Some, None, refl, ap, arith}
use Rattle.std.specs.Option.{option_map}
use Rattle.net_defs.specs.declared.vertex.End.{End}
use Rattle.world_defs.specs.History.{CableHistory}
use Rattle.world_defs.specs.Crossed.{leaving, pulled_at, pulled_with}
use Rattle.world_defs.proofs.ForLife.{leaving_has_its_end}
use Rattle.world_defs.specs.Links.{LinkState}
use Rattle.world_defs.specs.Fault.{pull, pull_by, without_cable}
use Rattle.world_defs.specs.Shape.{IsLinks}

-- ---- a pull
-- the links without the cable of this number, the cables after it being these
abbrev pub without : LinkState → CableHistory → ℕ → LinkState
without s h k = record s {
  cables = h;
  channels = set (set s.channels (2 * k) None) (2 * k + 1) None;
  limbo = without_cable k s.limbo;
}

-- where a cable of this number is at the port it is pulled
pub pull-some : (s : LinkState) (e : End) (k : ℕ) → Some k ≡ option_map (λ c. c / 2) (leaving s.cables e) → pull s e ≡ (true, without s (pulled_at s.cables e) k)
pull-some s e k is = by (leaving s.cables e) is
  where
    by : (o : Option ℕ) → Some k ≡ option_map (λ c. c / 2) o → pull_by s o ≡ (true, without s (pulled_with s.cables o) k)
    by None f = cc
    by (Some c) f = let same : c / 2 ≡ k = cc in ap (λ n. (true, without s (pulled_with s.cables (Some c)) n)) same

-- its channels are there
pub cable-there : (s : LinkState) (e : End) (k : ℕ) → IsLinks s → Some k ≡ option_map (λ c. c / 2) (leaving s.cables e) → 2 * k + 1 < length s.channels
cable-there s e k is found = by (leaving s.cables e) refl found
  where
    by : (o : Option ℕ) → leaving s.cables e ≡ o → Some k ≡ option_map (λ c. c / 2) o → 2 * k + 1 < length s.channels
    by None got f = cc
    by (Some c) got f =
        let same : c / 2 ≡ k = cc in
        let low = (leaving_has_its_end s.cables e c got).there in
        let slots = is.slots in
        omega (arith, same, low, slots)

-- ---- a plug
