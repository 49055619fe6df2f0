-- What the hosts that an installation counts have: an active table.
use Rattle.std.specs.Prelude.{◌≡◌, ℕ, ◌≤◌, Bool, true, List, [], ◌∷◌, length, is_some}
use Rattle.std.specs.List.{filter}
use Rattle.world_defs.specs.Table.{Adoption}
use Rattle.world_defs.specs.World.{WorldState, node_at}
use Rattle.world_defs.specs.Asking.{all_given_up}
use Rattle.world_defs.specs.Logs.{install}
use Rattle.install_laws.specs.Premises.{CanInstall}
use Rattle.install_laws.specs.Cause.{host_installed}

-- a host's table is active
abbrev pub has_table : WorldState → ℕ → Bool
has_table w h = is_some (node_at w h).table.active

-- of these hosts, one after another, each that is counted has an active table in a later world
abbrev pub EachCountedHasTable : Adoption → ℕ → List ℕ → WorldState → WorldState → Type 0
EachCountedHasTable a tries [] w v = Unit {0}
EachCountedHasTable a tries (h ∷ hs) w v =
    ((host_installed a tries h w).value ≡ true → has_table v h ≡ true)
    × EachCountedHasTable a tries hs (host_installed a tries h w).world v

-- Each host that an installation counts has an active table after it, where the adopter had one before.
abbrev pub CountedHostsHaveTables : Type 0
CountedHostsHaveTables =
    (a : Adoption) (hosts : List ℕ) (tries : ℕ) (w : WorldState) → CanInstall a hosts w → has_table w a.mapper ≡ true
    → EachCountedHasTable a tries hosts (all_given_up w) (install a hosts tries w).world

-- so no more hosts are counted than have one
abbrev pub CountsTables : Type 0
CountsTables =
    (a : Adoption) (hosts : List ℕ) (tries : ℕ) (w : WorldState) → CanInstall a hosts w → has_table w a.mapper ≡ true
    → (install a hosts tries w).value ≤ length (filter (has_table (install a hosts tries w).world) hosts)
