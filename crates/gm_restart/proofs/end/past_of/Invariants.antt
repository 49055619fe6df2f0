-- The periods before a place are left, and the one that is looked for isn't behind them.
use Rattle.std.proofs.Common.{◌≡◌, ◌≤◌, length, take}
use Rattle.std.specs.Prelude.{reverse}
use Rattle.duo_defs.specs.Duo.{period_in}
use Rattle.gm_restart.proofs.end.past_of.Given as goal

abbrev pub invariant-loop-at : goal.invariant-loop-at
invariant-loop-at l = record {
  within : l.at ≤ length l.past;
  left : period_in (reverse (take l.at l.past)) l.inc l.known ≡ period_in (reverse l.past) l.inc l.known;
}

abbrev pub decreases-loop-at : goal.decreases-loop-at
decreases-loop-at l = l.at
