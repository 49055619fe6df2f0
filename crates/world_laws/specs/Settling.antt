-- A settle is a clear, and then rounds up to the last, each of passes up to its last: their bounds are enough.
use Rattle.std.specs.Prelude.{◌≡◌, ◌+◌, ◌≤◌, true, length}
use Rattle.world_defs.specs.Links.{is_idle}
use Rattle.world_defs.specs.World.{WorldState}
use Rattle.world_defs.specs.Step.{after_all}
use Rattle.world_defs.specs.Settle.{unacknowledged_in, expiries, pass_bound, round_bound, is_last_round}
use Rattle.world_defs.specs.Log.{Log}
use Rattle.world_defs.specs.Logs.{Moved, Rounds, clear, moved_both, is_last_pass, round_pass, round_passes}
use Rattle.world_defs.specs.Logs.{rounds_both, one_round, rounds, settle}
use Rattle.world_laws.specs.Repeats.{Repeats}
use Rattle.world_laws.specs.Shape.{HasSenders}

-- The passes of a round: the last one leaves limbo empty and no host with anything to send, or each of its injections
-- and replays was idle.
abbrev pub RoundPasses : WorldState → Log Moved → Type 0
RoundPasses w l = Repeats moved_both is_last_pass round_pass w l

-- Rounds: the last one leaves nothing unacknowledged, or in it no base rose and no planned fault struck.
abbrev pub AllRounds : WorldState → Log Rounds → Type 0
AllRounds w l = Repeats rounds_both (λ before p. is_last_round before p.world) one_round w l

-- there is one such row of passes
abbrev pub PassesAreOne : Type 0
PassesAreOne = (w : WorldState) (l m : Log Moved) → RoundPasses w l → RoundPasses w m → l ≡ m

-- there is one such row of rounds
abbrev pub RoundsAreOne : Type 0
RoundsAreOne = (w : WorldState) (l m : Log Rounds) → AllRounds w l → AllRounds w m → l ≡ m

-- the passes of a round are bounded by the injections that are left and the packets in limbo
abbrev pub RoundEnds : Type 0
RoundEnds = (w : WorldState)
    → RoundPasses (after_all w (expiries w)) (round_passes (pass_bound w) (after_all w (expiries w)))

-- where the numbers of the connections are in order, the rounds of a settle end
abbrev pub SettleEnds : Type 0
SettleEnds = (w : WorldState) → HasSenders w
    → AllRounds (clear w).world (rounds (round_bound (clear w).world) (clear w).world)

-- it has a round at least, and at most one more than there are unacknowledged fragments and planned faults at its start
abbrev pub RoundsAreBounded : Type 0
RoundsAreBounded = (w : WorldState) → HasSenders w
    → (1 ≤ (settle w).value.rounds) × ((settle w).value.rounds ≤ unacknowledged_in w + length w.plan + 1)

-- the first clear leaves no more unacknowledged, and the same faults planned
abbrev pub ClearRaisesNothing : Type 0
ClearRaisesNothing = (w : WorldState) → (unacknowledged_in (clear w).world ≤ unacknowledged_in w)
    × ((clear w).world.plan ≡ w.plan)

-- after a settle the links are idle
abbrev pub SettledIsIdle : Type 0
SettledIsIdle = (w : WorldState) → HasSenders w → is_idle (settle w).world.links ≡ true
