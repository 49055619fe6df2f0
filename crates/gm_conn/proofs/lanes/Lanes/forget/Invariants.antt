-- The first so many lanes are as before anything was sent.
use Rattle.std.proofs.Common.{◌≡◌}
use Rattle.gm_conn.proofs.Forgotten.{first_forgotten}
use Rattle.gm_conn.proofs.lanes.Lanes.forget.Given as goal

abbrev pub invariant-loop-lane : goal.invariant-loop-lane
invariant-loop-lane l = l.self ≡ first_forgotten l.initial.self l.lane
