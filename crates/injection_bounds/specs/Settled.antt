-- What a settle may inject: all its rounds but one are paid by what they finish.
use Rattle.std.specs.Prelude.{ℕ, ◌+◌, ◌*◌, ◌≤◌, length}
use Rattle.net_defs.specs.Network.{Network}
use Rattle.world_defs.specs.World.{WorldState}
use Rattle.world_defs.specs.Settle.{unacknowledged_in}
use Rattle.world_defs.specs.Logs.{settle}
use Rattle.world_defs.specs.Acts.{IsReached}
use Rattle.injection_bounds.specs.Paid.{account}

-- the most that the expiries of a round cost: 128 hosts, 128 peers of each, two lanes to each peer, a window of eight
-- fragments on each lane, and two for each fragment
abbrev pub round_cost : ℕ
round_cost = 128 * 128 * 2 * 8 * 2

-- What was injected, what is in store, and what the rounds may cost that acknowledge the fragments which aren't
-- acknowledged, or meet the planned faults.
abbrev pub pledged : WorldState → ℕ
pledged w = account w + round_cost * (unacknowledged_in w + length w.plan)

-- In every world that is reached a settle costs one round.
abbrev pub SettleCostsOneRound : Type 0
SettleCostsOneRound = (n : Network) (w : WorldState) → IsReached n w
    → pledged (settle w).world ≤ pledged w + round_cost
