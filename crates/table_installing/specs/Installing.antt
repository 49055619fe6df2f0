-- What an installation begins with, the work that it has, and what comes of each try.
use Rattle.std.specs.Prelude.{◌≡◌, ℕ, ◌+◌, ◌≤◌, ◌<◌, Bool, true, false, List, [], ◌∷◌, map, nat_eq, nat_lt, Option}
use Rattle.std.specs.Prelude.{IfSome, IsSome, if◌then◌else◌}
use Rattle.std.specs.List.{filter, list_any}
use Rattle.net_defs.specs.declared.route.Route.{Route}
use Rattle.net_defs.specs.Network.{Network}
use Rattle.world_defs.specs.Links.{is_idle}
use Rattle.world_defs.specs.Table.{Adoption, has_revoked}
use Rattle.world_defs.specs.World.{WorldState, host_count, node_at, may_adopt, adoption_of, adopted_by}
use Rattle.world_defs.specs.Acts.{IsReached}
use Rattle.route_install.specs.declared.installer.Work.{Work}
use Rattle.route_install.specs.Installing.{AreHosts, Installation, new_work, after_ack, after_silence, acked_of}
use Rattle.adopted_routes.specs.Adopting.{is_among, part_count_for}

-- no host of a world has given up a set's epoch
abbrev pub IsUnrevoked : WorldState → Adoption → Type 0
IsUnrevoked w a = (h : ℕ) → h < host_count w → has_revoked a.epoch (node_at w h).table ≡ false

-- so it is after each adoption of routes that may be adopted
abbrev pub AdoptedIsUnrevoked : Type 0
AdoptedIsUnrevoked =
    (n : Network) (w : WorldState) (mapper : ℕ) (routes : List Route) → IsReached n w → may_adopt w routes ≡ true
    → IsUnrevoked (adopted_by w mapper routes) (adoption_of w mapper routes)

-- no cable came or went since a set's adoption
abbrev pub IsUnchanged : WorldState → Adoption → Type 0
IsUnchanged w a = w.links.cables.changes ≡ a.at

-- so it is after each adoption
abbrev pub AdoptedIsUnchanged : Type 0
AdoptedIsUnchanged =
    (w : WorldState) (mapper : ℕ) (routes : List Route)
    → IsUnchanged (adopted_by w mapper routes) (adoption_of w mapper routes)

-- What an installation begins with: routes are adopted, no host has given up their epoch, no cable came or went since
-- their adoption, no packet is on its way, the hosts are the adopter and those that the routes name, each once by
-- rising address, and each part is tried once to eight times.
pub record CanInstall (w : WorldState) (hosts : List ℕ) (tries : ℕ) : Type 0 where
  pub adopted : IsSome w.adopted
  pub unrevoked : IfSome w.adopted (IsUnrevoked w)
  pub unchanged : IfSome w.adopted (IsUnchanged w)
  pub idle : is_idle w.links ≡ true
  pub rise : AreHosts hosts
  pub named : IfSome w.adopted (λ a. (h : ℕ) → list_any (nat_eq h) hosts ≡ is_among a.mapper a.routes h)
  pub some : 1 ≤ tries
  pub few : tries ≤ 8

-- so routes that were just adopted, while no packet was on its way, can be installed on the hosts that they name
abbrev pub AdoptedCanBeInstalled : Type 0
AdoptedCanBeInstalled =
    (n : Network) (w : WorldState) (mapper : ℕ) (routes : List Route) (hosts : List ℕ) (tries : ℕ) → IsReached n w
    → may_adopt w routes ≡ true → is_idle w.links ≡ true → AreHosts hosts
    → ((h : ℕ) → list_any (nat_eq h) hosts ≡ is_among mapper routes h) → 1 ≤ tries → tries ≤ 8
    → CanInstall (adopted_by w mapper routes) hosts tries

-- the adopted routes have parts for a host's table
abbrev pub has_parts : Option Adoption → ℕ → Bool
has_parts o h = nat_lt 0 (part_count_for o h)

-- the work for these hosts: each whose table has parts is sent them
abbrev pub works_of : Option Adoption → List ℕ → List Work
works_of o hosts = map (λ h. new_work (part_count_for o h) h) (filter (has_parts o) hosts)

-- the installation after a try of the awaited part: it was acknowledged, or met silence
abbrev pub after_try : Installation → (dst part : ℕ) → Bool → Installation
after_try i dst part acked = if acked then after_ack i dst part else after_silence i

-- how many of these hosts have acknowledged all parts
abbrev pub acked_among : Installation → List ℕ → ℕ
acked_among i [] = 0
acked_among i (h ∷ hs) = (if acked_of i h then 1 else 0) + acked_among i hs
