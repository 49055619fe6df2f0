-- What is reported of the rounds of a settle.
use Rattle.std.specs.Prelude.{◌≡◌, ℕ}
use Rattle.world_defs.specs.World.{WorldState}
use Rattle.world_defs.specs.Settle.{round_bound}
use Rattle.world_defs.specs.Logs as log
use Rattle.world_drain.specs.Settling.{capped}

-- Rounds up to the last lead from one world to the other: so many, with so many resets.
pub record AreRounds (first last : WorldState) (rounds resets : ℕ) : Type 0 where
  pub number : rounds ≡ (log.rounds (round_bound first) first).value.rounds
  pub counted : resets ≡ capped (log.rounds (round_bound first) first).value.resets
  pub led : last ≡ (log.rounds (round_bound first) first).world
