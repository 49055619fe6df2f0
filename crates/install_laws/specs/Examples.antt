-- Installations on the two hosts at one switch, worked out: host 0 has adopted the routes.
use Rattle.std.specs.Prelude.{◌≡◌, ℕ, true, List, [], ◌∷◌, Some, None}
use Rattle.net_defs.specs.Examples.{host_end}
use Rattle.world_defs.specs.declared.fault.Fault.TheVariants.{Lose, Pull}
use Rattle.world_defs.specs.Table.{active_epoch}
use Rattle.world_defs.specs.World.{WorldState, node_at, planned}
use Rattle.world_defs.specs.Examples.{setup_adoption}
use Rattle.world_defs.specs.Traffic.{is_broken}
use Rattle.world_defs.specs.Logs.{install}
use Rattle.table_laws.specs.Examples.{adopted_world}
use Rattle.install_laws.specs.Premises.{CanInstall}

-- the two hosts
abbrev pub both_hosts : List ℕ
both_hosts = 0 ∷ 1 ∷ []

-- the world in which the packet of the injection so far ahead will be lost
abbrev pub losing : ℕ → WorldState
losing ahead = (planned adopted_world ahead Lose).1

-- an installation can be made in it
abbrev pub BothCanInstall : Type 0
BothCanInstall = CanInstall setup_adoption both_hosts (losing 1)

-- where no fault is planned, both hosts are counted, by two injections
abbrev pub BothAreCounted : Type 0
BothAreCounted = ((install setup_adoption both_hosts 1 adopted_world).value ≡ 2)
    × ((install setup_adoption both_hosts 1 adopted_world).world.injected ≡ 2)

-- where the part is lost, one try counts the adopter alone, and host 1 has no table
abbrev pub LostPartIsMissed : Type 0
LostPartIsMissed =
    ((install setup_adoption both_hosts 1 (losing 1)).value ≡ 1)
    × ((install setup_adoption both_hosts 1 (losing 1)).world.harmed ≡ 1)
    × (active_epoch (node_at (install setup_adoption both_hosts 1 (losing 1)).world 1).table ≡ None)

-- where its acknowledgement is lost, one try counts the adopter alone too, though host 1 has its table
abbrev pub LostAnswerIsMissed : Type 0
LostAnswerIsMissed =
    ((install setup_adoption both_hosts 1 (losing 2)).value ≡ 1)
    × ((install setup_adoption both_hosts 1 (losing 2)).world.harmed ≡ 1)
    × (active_epoch (node_at (install setup_adoption both_hosts 1 (losing 2)).world 1).table ≡ Some 1)

-- a second try counts both
abbrev pub SecondTryCounts : Type 0
SecondTryCounts = ((install setup_adoption both_hosts 2 (losing 1)).value ≡ 2)
    × ((install setup_adoption both_hosts 2 (losing 2)).value ≡ 2)

-- where the cable of host 1 is pulled at the injection of its part, two tries miss it: no fault harmed, but its route
-- is broken
abbrev pub CutHostIsMissed : Type 0
CutHostIsMissed =
    ((install setup_adoption both_hosts 2 (planned adopted_world 1 (Pull (host_end 1))).1).value ≡ 1)
    × ((install setup_adoption both_hosts 2 (planned adopted_world 1 (Pull (host_end 1))).1).world.harmed ≡ 0)
    × (is_broken (install setup_adoption both_hosts 2 (planned adopted_world 1 (Pull (host_end 1))).1).world 0 1 ≡ true)
