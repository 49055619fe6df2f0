-- The work of an installation: each host's parts are sent one after another, until they are acknowledged or the host
-- is given up.
use Rattle.std.specs.Prelude.{◌≡◌, ℕ, zero, suc, ◌+◌, ◌-◌, ◌<◌, ◌≤◌, Bool, true, false, ◌||◌, ◌&&◌, not, List, [], ◌∷◌}
use Rattle.std.specs.Prelude.{map, length, find, nat_eq, nat_le, Option, Some, None, option_map, if◌then◌else◌}
use Rattle.std.specs.List.{filter, list_all, list_any, AllByRecursion}
use Rattle.world_defs.specs.Table.{part_count}
use Rattle.route_install.specs.declared.installer.Work.{Work}

-- An installation says how often a part is tried, and has the work for each host that is sent parts.
pub record Installation : Type 0 where
  pub tries : ℕ
  pub works : List Work

-- each other host has a route to all hosts but itself
abbrev pub parts_for : List ℕ → ℕ
parts_for hosts = part_count (length hosts - 1)

-- the work for a host whose table has so many parts, before the first of them
abbrev pub new_work : (parts host : ℕ) → Work
new_work parts host = record { host = host; parts = parts; acked = 0; silences = 0 }

-- hosts that rise
abbrev pub AreHosts : List ℕ → Type 0
AreHosts [] = Unit {0}
AreHosts (h ∷ hs) = AllByRecursion (λ g. h < g) hs × AreHosts hs

-- What an installation begins with: at most 128 hosts that rise, the mapper among them, and from 1 to 8 tries.
pub record CanBegin (mapper : ℕ) (hosts : List ℕ) (tries : ℕ) : Type 0 where
  pub rise : AreHosts hosts
  pub few : length hosts ≤ 128
  pub has_mapper : list_any (nat_eq mapper) hosts ≡ true
  pub some_tries : 1 ≤ tries
  pub few_tries : tries ≤ 8

-- an installation by a mapper begins
abbrev pub new_installation : ℕ → List ℕ → ℕ → Installation
new_installation mapper hosts tries = record {
  tries = tries;
  works = map (new_work (parts_for hosts)) (filter (λ h. not (nat_eq h mapper)) hosts);
}

-- all parts of the host were acknowledged
abbrev pub is_acked : Work → Bool
is_acked w = nat_le w.parts w.acked

-- the host is given up, since one part met silence in each of so many tries
abbrev pub is_given_up : ℕ → Work → Bool
is_given_up tries w = nat_le tries w.silences

-- a host's work is done: all parts acknowledged, or given up
abbrev pub is_done : ℕ → Work → Bool
is_done tries w = is_acked w || is_given_up tries w

-- Works that an installation may begin with: at most 128, none of them done, and each part in at most 8 tries.
pub record AreOpen (works : List Work) (tries : ℕ) : Type 0 where
  pub few : length works ≤ 128
  pub undone : list_all (λ w. not (is_done tries w)) works ≡ true
  pub few_tries : tries ≤ 8

-- the first work that isn't done
abbrev pub first_open : Installation → Option Work
first_open i = find (λ w. not (is_done i.tries w)) i.works

-- the host and the part that are awaited: of the first host whose work isn't done, the first part that isn't
-- acknowledged
abbrev pub awaited : Installation → Option (ℕ × ℕ)
awaited i = option_map (λ w. (w.host, w.acked)) (first_open i)

-- the work that is awaited, changed
abbrev pub changed : (Work → Bool) → (Work → Work) → List Work → List Work
changed done f [] = []
changed done f (w ∷ ws) = if done w then w ∷ changed done f ws else f w ∷ ws

-- its part was acknowledged
abbrev pub one_acked : Work → Work
one_acked w = record { host = w.host; parts = w.parts; acked = w.acked + 1; silences = 0 }

-- its part met silence
abbrev pub one_silent : Work → Work
one_silent w = record { host = w.host; parts = w.parts; acked = w.acked; silences = w.silences + 1 }

-- an acknowledgement is the awaited one
abbrev pub is_awaited : Option (ℕ × ℕ) → ℕ → ℕ → Bool
is_awaited None host part = false
is_awaited (Some a) host part = nat_eq a.0 host && nat_eq a.1 part

-- the installation after an acknowledgement: only the awaited one counts
abbrev pub after_ack : Installation → ℕ → ℕ → Installation
after_ack i host part = if is_awaited (awaited i) host part
    then record i { works = changed (is_done i.tries) one_acked i.works } else i

-- the installation after a silence of the awaited part
abbrev pub after_silence : Installation → Installation
after_silence i = record i { works = changed (is_done i.tries) one_silent i.works }

-- each part of a host was acknowledged; a host without parts has none that wasn't
abbrev pub acked_of : Installation → ℕ → Bool
acked_of i host = list_all (λ w. not (nat_eq w.host host) || is_acked w) i.works

-- the works before a place are done, and those from it on aren't
abbrev pub IsAt : (Work → Bool) → ℕ → List Work → Type 0
IsAt done zero ws = list_all (λ w. not (done w)) ws ≡ true
IsAt done (suc k) [] = ⊥
IsAt done (suc k) (w ∷ ws) = (done w ≡ true) × IsAt done k ws

-- What an installer keeps: it knows the place of the first work that isn't done.
pub record IsInstaller (i : Installation) (at : ℕ) : Type 0 where
  pub few_tries : i.tries ≤ 8
  pub few_works : length i.works ≤ 128
  pub is_at : IsAt (is_done i.tries) at i.works
