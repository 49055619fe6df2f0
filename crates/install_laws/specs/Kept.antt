-- What an installation leaves as it was.
use Rattle.std.specs.Prelude.{◌≡◌, ℕ, true, List}
use Rattle.world_defs.specs.Links.{is_idle}
use Rattle.world_defs.specs.Table.{Adoption}
use Rattle.world_defs.specs.World.{WorldState}
use Rattle.world_defs.specs.Logs.{install}
use Rattle.ask_laws.specs.Kept.{IsKept, SamePorts}
use Rattle.install_laws.specs.Premises.{CanInstall}

-- what an installation leaves of a world, each host's connections and ports among it: tables alone change besides
abbrev pub IsInstallKept : WorldState → WorldState → Type 0
IsInstallKept w v = IsKept SamePorts w v

-- an installation keeps them
abbrev pub InstallingKeeps : Type 0
InstallingKeeps = (a : Adoption) (hosts : List ℕ) (tries : ℕ) (w : WorldState) → CanInstall a hosts w
    → IsInstallKept w (install a hosts tries w).world

-- and leaves idle links
abbrev pub InstallingEndsIdle : Type 0
InstallingEndsIdle = (a : Adoption) (hosts : List ℕ) (tries : ℕ) (w : WorldState) → CanInstall a hosts w
    → is_idle (install a hosts tries w).world.links ≡ true

-- and the same set can be installed again, where no cable went
abbrev pub CanInstallAgain : Type 0
CanInstallAgain = (a : Adoption) (hosts : List ℕ) (tries : ℕ) (w : WorldState) → CanInstall a hosts w
    → (install a hosts tries w).world.links.cables.changes ≡ w.links.cables.changes
    → CanInstall a hosts (install a hosts tries w).world
