-- An ask over the two hosts at one switch, worked out.
use Rattle.std.specs.Prelude.{◌≡◌, false, ℤ, pos, List, [], ◌∷◌, ◌++◌, map}
use Rattle.net_defs.specs.declared.place.Answer.TheVariants.{Host}
use Rattle.net_defs.specs.Examples.{two_hosts}
use Rattle.world_defs.specs.declared.event.Event.{Event}
use Rattle.world_defs.specs.declared.event.Event.TheVariants.{Ask, Inject, Advance, GiveUp}
use Rattle.world_defs.specs.World.{new_world}
use Rattle.world_defs.specs.Log.{Log}
use Rattle.world_defs.specs.Logs.{Asked, ask}

-- the walk from host 0 to host 1, and what an ask of it comes to
abbrev pub across : List ℤ
across = pos 3 ∷ []

abbrev pub asked_across : Log Asked
asked_across = ask 0 0 1 across (new_world two_hosts)

-- it finds host 1
abbrev pub AskFindsHost : Type 0
AskFindsHost = asked_across.value ≡ record { answer = Host 1; drowned = false }

-- one pass over the four channels
abbrev pub pass : List Event
pass = map Advance (0 ∷ 1 ∷ 2 ∷ 3 ∷ [])

-- both hosts give up what they staged; the probe is asked for, sent, and reaches host 1; its reply is sent, and reaches
-- host 0
abbrev pub AskIsItsEvents : Type 0
AskIsItsEvents = asked_across.events
    ≡ GiveUp 0 ∷ GiveUp 1 ∷ Ask 0 across false ∷ Inject 0 ∷ (pass ++ Inject 1 ∷ (pass ++ pass))
