-- Why an installation counts fewer hosts than it has.
use Rattle.std.specs.Prelude.{◌≡◌, ◌⊎◌, ℕ, zero, suc, ◌<◌, Bool, true, false, List, [], ◌∷◌}
use Rattle.world_defs.specs.Traffic.{is_broken}
use Rattle.world_defs.specs.Table.{Adoption}
use Rattle.world_defs.specs.World.{WorldState, last_count}
use Rattle.world_defs.specs.Install.{parts_of}
use Rattle.world_defs.specs.Asking.{all_given_up}
use Rattle.world_defs.specs.Log.{Log}
use Rattle.world_defs.specs.Logs.{Tried, part_try, tries, parts, install}
use Rattle.install_laws.specs.Premises.{CanInstall}

-- the adopted route from an adopter to a host, or the one back, crosses a cable that was pulled since the adoption
abbrev pub IsCutOff : ℕ → ℕ → WorldState → Type 0
IsCutOff mapper dst w = (is_broken w mapper dst ≡ true) ⊎ (is_broken w dst mapper ≡ true)

-- A part is sent in vain so many times, and each time a planned fault loses, holds or flips a packet of that try, the
-- part or its acknowledgement, or the try ends with a cable of the routes to and fro pulled.
abbrev pub EachTryWasHarmed : ℕ → ℕ → ℕ → ℕ → WorldState → Type 0
EachTryWasHarmed mapper dst part zero w = Unit {0}
EachTryWasHarmed mapper dst part (suc k) w =
    ((part_try mapper dst part w).value.found ≡ false)
    × ((w.harmed < (part_try mapper dst part w).world.harmed) ⊎ IsCutOff mapper dst (part_try mapper dst part w).world)
    × EachTryWasHarmed mapper dst part k (part_try mapper dst part w).world

-- a part is sent up to so many times
abbrev pub part_tries : ℕ → ℕ → ℕ → ℕ → WorldState → Log (Tried Bool)
part_tries mapper dst k part = tries (λ b. b) false (part_try mapper dst part) k

-- of a host's parts, sent one after another, one met this in each of its tries, and those before it were acknowledged
abbrev pub HasHarmedPart : ℕ → ℕ → ℕ → List ℕ → WorldState → Type 0
HasHarmedPart mapper dst k [] w = ⊥
HasHarmedPart mapper dst k (p ∷ ps) w =
    EachTryWasHarmed mapper dst p k w
    ⊎ (((part_tries mapper dst k p w).value.found ≡ true)
    × HasHarmedPart mapper dst k ps (part_tries mapper dst k p w).world)

-- what becomes of one host: whether all its parts are acknowledged
abbrev pub host_installed : Adoption → ℕ → ℕ → WorldState → Log Bool
host_installed a k h w = parts a.mapper h k (parts_of a h) w

-- of these hosts, one after another, each that isn't counted has such a part
abbrev pub EachMissedWasHarmed : Adoption → ℕ → List ℕ → WorldState → Type 0
EachMissedWasHarmed a tries [] w = Unit {0}
EachMissedWasHarmed a tries (h ∷ hs) w =
    ((host_installed a tries h w).value ≡ false → HasHarmedPart a.mapper h tries (parts_of a h) w)
    × EachMissedWasHarmed a tries hs (host_installed a tries h w).world

-- Where injections are left after an installation, each host that it doesn't count has a part each of whose tries
-- met a planned loss, hold or flip, on the part or on its acknowledgement, or ended with a cable of the set's routes to
-- and fro pulled.
abbrev pub MissedHostsWereHarmed : Type 0
MissedHostsWereHarmed =
    (a : Adoption) (hosts : List ℕ) (tries : ℕ) (w : WorldState) → CanInstall a hosts w
    → (install a hosts tries w).world.injected < last_count
    → EachMissedWasHarmed a tries hosts (all_given_up w)
