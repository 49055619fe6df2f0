-- None of the ports so far is stray.
use Rattle.std.proofs.Common.{◌≡◌, ◌<◌, ℕ, false}
use Rattle.std.specs.Prelude.{pos, ◌-ℤ◌}
use Rattle.map_sameness.specs.Pairing.{is_stray}
use Rattle.map_sameness.proofs.comparing.has_stray.Given as goal

abbrev pub invariant-loop-place : goal.invariant-loop-place
invariant-loop-place l = (k : ℕ) → k < l.place → is_stray l.f l.m l.v l.i (pos k -ℤ pos 15) ≡ false
