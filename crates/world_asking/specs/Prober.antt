-- A mapper that asks over a world.
use Rattle.std.specs.Prelude.{◌≡◌, ℕ, ◌≤◌, ◌<◌, ℤ, List, if◌then◌else◌}
use Rattle.fab_outer.specs.Fault.{one_more}
use Rattle.ask_laws.specs.Premises.{HasStood}
use Rattle.net_defs.specs.declared.place.Answer.{Answer}
use Rattle.world_defs.specs.World.{WorldState, host_count}
use Rattle.world_defs.specs.Log.{Log}
use Rattle.world_defs.specs.Logs.{Asked, ask}
use Rattle.world_defs.specs.Row.{IsPartWay}

-- The world, how many times cables were pulled or plugged before the mapper was made, the host that asks, how often it
-- tries a probe of each kind, and how many of its asks drowned.
pub record WorldAsking : Type 0 where
  pub world : WorldState
  pub made : ℕ
  pub host : ℕ
  pub tries : ℕ
  pub drowned : ℕ

-- no cable was plugged since it was made, the host is one of the world, and it tries once to eight times
pub record IsAsking (p : WorldAsking) : Type 0 where
  pub stood : HasStood p.made p.world.links.cables
  pub there : p.host < host_count p.world
  pub some : 1 ≤ p.tries
  pub few : p.tries ≤ 8

-- the next ask of a walk
abbrev pub next_ask : WorldAsking → List ℤ → Log Asked
next_ask p walk = ask p.made p.host p.tries walk p.world

-- the mapper after its next ask: the count of drowned asks is one greater where that drowned, and stays at its last
-- value
abbrev pub after_ask : WorldAsking → List ℤ → WorldAsking
after_ask p walk = record p {
  world = (next_ask p walk).world;
  drowned = if (next_ask p walk).value.drowned then one_more p.drowned else p.drowned;
}

-- An ask of a walk is answered so, and leads from the one to the other.
pub record IsAsked (before : WorldAsking) (walk : List ℤ) (answer : Answer) (after : WorldAsking) : Type 0 where
  pub told : answer ≡ (next_ask before walk).value.answer
  pub led : after ≡ after_ask before walk

-- An ask of a walk ran out of memory: a prefix of its events leads to the world, and all else is as it was.
pub record IsCutAsk (before : WorldAsking) (walk : List ℤ) (after : WorldAsking) : Type 0 where
  pub way : IsPartWay before.world (next_ask before walk).events after.world
  pub rest : after ≡ record before { world = after.world }
