-- Asks over the two hosts at one switch, worked out.
use Rattle.std.specs.Prelude.{◌≡◌, true, false, ℤ, pos, List, [], ◌∷◌}
use Rattle.net_defs.specs.declared.place.Answer.TheVariants.{Host, Nothing}
use Rattle.net_defs.specs.Examples.{two_hosts, switch_end}
use Rattle.world_defs.specs.declared.fault.Fault.TheVariants.{Lose, Pull}
use Rattle.world_defs.specs.World.{WorldState, new_world, planned}
use Rattle.world_defs.specs.Logs.{ask}
use Rattle.ask_laws.specs.Premises.{CanAsk}

-- the walk from host 0 to host 1
abbrev pub across : List ℤ
across = pos 3 ∷ []

-- the first world, in which the first injection's packet will be lost
abbrev pub losing : WorldState
losing = (planned (new_world two_hosts) 1 Lose).1

-- host 0 can ask in it
abbrev pub HostCanAsk : Type 0
HostCanAsk = CanAsk 0 losing 0 across

-- one try drowns
abbrev pub OneTryDrowns : Type 0
OneTryDrowns = ((ask 0 0 1 across losing).value.answer ≡ Nothing) × ((ask 0 0 1 across losing).value.drowned ≡ true)

-- a second try finds the host
abbrev pub SecondTryFinds : Type 0
SecondTryFinds = ((ask 0 0 2 across losing).value.answer ≡ Host 1) × ((ask 0 0 2 across losing).value.drowned ≡ false)

-- the first world, in which the cable of host 1 will be pulled at the first injection
abbrev pub parting : WorldState
parting = (planned (new_world two_hosts) 1 (Pull (switch_end 0 5))).1

-- the ask drowns, and in the world that it leaves a mapper that was made before drowns, and one that is made then not
abbrev pub PulledAskDrowns : Type 0
PulledAskDrowns =
    ((ask 0 0 2 across parting).value.drowned ≡ true)
    × ((ask 0 0 1 across (ask 0 0 2 across parting).world).value.drowned ≡ true)
    × ((ask 1 0 1 across (ask 0 0 2 across parting).world).value.drowned ≡ false)
