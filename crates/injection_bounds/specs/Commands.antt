-- What an act, an ask and an installation may inject.
use Rattle.std.specs.Prelude.{ℕ, ◌+◌, ◌*◌, ◌≤◌, ℤ, List, length}
use Rattle.net_defs.specs.Network.{Network}
use Rattle.world_defs.specs.Table.{Adoption}
use Rattle.world_defs.specs.World.{WorldState}
use Rattle.world_defs.specs.Install.{parts_of}
use Rattle.world_defs.specs.Logs.{ask, install}
use Rattle.world_defs.specs.Acts.{Act, acted, IsReached}
use Rattle.injection_bounds.specs.Settled.{round_cost, pledged}

-- the most that an ask costs: eight tries of each kind of probe, and two for each, the probe and its answer
abbrev pub ask_cost : ℕ
ask_cost = 8 * 2 * 2

-- the most that an installation costs on each host: sixteen parts, eight tries of each, and two for each try
abbrev pub host_cost : ℕ
host_cost = 16 * 8 * 2

-- an ask of at most eight tries costs so much
abbrev pub AskCostsFew : Type 0
AskCostsFew = (w : WorldState) (made mapper tries : ℕ) (walk : List ℤ) → tries ≤ 8
    → pledged (ask made mapper tries walk w).world ≤ pledged w + ask_cost

-- each host of an adopted set has at most sixteen parts
abbrev pub HasFewParts : Adoption → Type 0
HasFewParts a = (host : ℕ) → length (parts_of a host) ≤ 16

-- an installation of at most eight tries costs so much for each host
abbrev pub InstallCostsFew : Type 0
InstallCostsFew = (a : Adoption) (hosts : List ℕ) (tries : ℕ) (w : WorldState) → tries ≤ 8 → HasFewParts a
    → pledged (install a hosts tries w).world ≤ pledged w + host_cost * length hosts

-- the most that any act costs: an accepted message has at most 65 pieces, and two for each, and one round for each
abbrev pub act_cost : ℕ
act_cost = 65 * 2 + 65 * round_cost

-- in every world that is reached an act costs no more
abbrev pub ActCostsFew : Type 0
ActCostsFew = (n : Network) (w : WorldState) (a : Act) → IsReached n w → pledged (acted w a) ≤ pledged w + act_cost
