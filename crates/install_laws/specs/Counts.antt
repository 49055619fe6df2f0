-- How many hosts an installation counts.
use Rattle.std.specs.Prelude.{◌≡◌, ◌↔◌, ℕ, ◌+◌, ◌*◌, ◌<◌, ◌≤◌, true, List, [], ◌∷◌, length, nat_eq, None}
use Rattle.std.specs.Map.{lookup}
use Rattle.world_defs.specs.Table.{Adoption}
use Rattle.world_defs.specs.World.{WorldState, last_count}
use Rattle.world_defs.specs.Asking.{all_given_up}
use Rattle.world_defs.specs.Logs.{install}
use Rattle.install_laws.specs.Premises.{CanInstall}
use Rattle.install_laws.specs.Cause.{host_installed, EachMissedWasHarmed}

-- of these hosts, one after another, each has all its parts acknowledged
abbrev pub EachIsAcknowledged : Adoption → ℕ → List ℕ → WorldState → Type 0
EachIsAcknowledged a tries [] w = Unit {0}
EachIsAcknowledged a tries (h ∷ hs) w = ((host_installed a tries h w).value ≡ true)
    × EachIsAcknowledged a tries hs (host_installed a tries h w).world

-- no more hosts are counted than there are
abbrev pub CountsAtMostAll : Type 0
CountsAtMostAll = (a : Adoption) (hosts : List ℕ) (tries : ℕ) (w : WorldState)
    → (install a hosts tries w).value ≤ length hosts

-- all are counted exactly where each part of each host was acknowledged
abbrev pub CountsAllWhereAcknowledged : Type 0
CountsAllWhereAcknowledged =
    (a : Adoption) (hosts : List ℕ) (tries : ℕ) (w : WorldState)
    → ((install a hosts tries w).value ≡ length hosts) ↔ EachIsAcknowledged a tries hosts (all_given_up w)

-- each host that isn't counted costs as many planned faults as a part has tries, where no cable goes
abbrev pub EachMissCostsFaults : Type 0
EachMissCostsFaults =
    (a : Adoption) (hosts : List ℕ) (tries : ℕ) (w : WorldState) → CanInstall a hosts w
    → (install a hosts tries w).world.injected < last_count
    → (install a hosts tries w).world.links.cables.changes ≡ w.links.cables.changes
    → w.harmed + tries * length hosts ≤ (install a hosts tries w).world.harmed + tries * (install a hosts tries w).value

-- so all hosts are counted where a part has a try at least, no planned fault loses, holds or flips a packet, and no
-- cable goes
abbrev pub UnharmedCountsAll : Type 0
UnharmedCountsAll =
    (a : Adoption) (hosts : List ℕ) (tries : ℕ) (w : WorldState) → CanInstall a hosts w → 0 < tries
    → (install a hosts tries w).world.injected < last_count
    → (install a hosts tries w).world.harmed ≡ w.harmed
    → (install a hosts tries w).world.links.cables.changes ≡ w.links.cables.changes
    → (install a hosts tries w).value ≡ length hosts

-- and so where no fault is planned for an injection of it
abbrev pub UnplannedCountsAll : Type 0
UnplannedCountsAll =
    (a : Adoption) (hosts : List ℕ) (tries : ℕ) (w : WorldState) → CanInstall a hosts w → 0 < tries
    → (install a hosts tries w).world.injected < last_count
    → ((number : ℕ) → w.injected < number → number ≤ (install a hosts tries w).world.injected
    → lookup (nat_eq number) w.plan ≡ None)
    → (install a hosts tries w).value ≡ length hosts

-- What the count of an installation shows: each host that isn't counted has a part each of whose tries met a planned
-- loss, hold or flip, on the part or on its acknowledgement, or ended with a cable of the routes to and fro pulled; so
-- all hosts are counted where none did and no cable went.
pub record TellsCause (a : Adoption) (hosts : List ℕ) (tries acked : ℕ) (w v : WorldState) : Type 0 where
  pub missed : EachMissedWasHarmed a tries hosts (all_given_up w)
  pub unharmed : v.harmed ≡ w.harmed → v.links.cables.changes ≡ w.links.cables.changes → acked ≡ length hosts

-- it does where a part has a try at least and injections are left
abbrev pub InstallingTellsCause : Type 0
InstallingTellsCause =
    (a : Adoption) (hosts : List ℕ) (tries : ℕ) (w : WorldState) → CanInstall a hosts w → 0 < tries
    → (install a hosts tries w).world.injected < last_count
    → TellsCause a hosts tries (install a hosts tries w).value w (install a hosts tries w).world
