-- Resets lead from world to world by events.
use Rattle.std.proofs.Common.{◌≡◌, ℕ, sym, ◌∙◌, ap}
use Rattle.std.specs.Prelude.{Result, Ok, Err, IfOk, OnErr}
use Rattle.world_defs.specs.World.{WorldState}
use Rattle.world_defs.specs.Step.{steps}
use Rattle.world_defs.specs.Drain.{resets_of, reset_count}
use Rattle.world_defs.specs.Row.{IsPartWay}
use Rattle.world_defs.proofs.LogRows.{steps-after}
use Rattle.fab_world.specs.Held.{IsLater}
use Rattle.world_drain.proofs.Later.{way-later}

-- those that came to their end, or were cut off
pub resets-later : {E : Type 0} (w v : WorldState) (r : Result ℕ E) → IfOk r (λ n. reset_count (steps w (resets_of w)) ≡ (n, v)) → OnErr r (IsPartWay w (resets_of w) v) → IsLater w v
resets-later w v (Ok n) is err = (resets_of w, sym (ap (λ p. p.1) is) ∙ steps-after w (resets_of w))
resets-later w v (Err e) is err = way-later w v err
