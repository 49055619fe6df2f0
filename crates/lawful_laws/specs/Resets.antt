-- A settle resets a channel only where, as one of its clears began, some packet wasn't lawful.
use Rattle.std.specs.Prelude.{◌≡◌, List, [], ◌∷◌}
use Rattle.net_defs.specs.Network.{Network}
use Rattle.world_defs.specs.declared.event.Event.{Event}
use Rattle.world_defs.specs.World.{WorldState}
use Rattle.world_defs.specs.Step.{step}
use Rattle.world_defs.specs.Traffic.{IsLawfulTraffic}
use Rattle.world_laws.specs.Reached.{IsOfClear}
use Rattle.world_defs.specs.Logs.{settle}
use Rattle.world_defs.specs.Acts.{IsReached}

-- before each of these events that is an advance or a reset and follows neither the traffic is lawful; `came` says that
-- one of them came just before the first
abbrev pub BeginsLawful : Type 0 → WorldState → List Event → Type 0
BeginsLawful came w [] = Unit {0}
BeginsLawful came w (e ∷ es) =
    (IsOfClear e → ¬ came → IsLawfulTraffic w) × BeginsLawful (IsOfClear e) (step w e).1 es

-- the traffic is lawful as each clear among these events begins
abbrev pub ClearsBeginLawful : WorldState → List Event → Type 0
ClearsBeginLawful w es = BeginsLawful ⊥ w es

-- where it is so of a settle, it resets no channel
abbrev pub OnlyUnlawfulIsReset : Type 0
OnlyUnlawfulIsReset = (n : Network) (w : WorldState) → IsReached n w
    → ClearsBeginLawful w (settle w).events → (settle w).value.resets ≡ 0
