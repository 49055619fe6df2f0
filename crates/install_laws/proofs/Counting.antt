-- How many hosts are counted.
use Rattle.std.proofs.Common.{◌≡◌, ◌<◌, ◌≤◌, ◌+◌, ◌*◌, ℕ, Bool, true, false, List, [], ◌∷◌, length, ⊎_elim, refl, sym, arith, true≢false, if◌then◌else◌}
use Rattle.std.specs.List.{filter}
use Rattle.std.proofs.Math.Nat.{mul-le-mul_left}
use Rattle.std.proofs.lemmas.Bool.{cases_lt}
use Rattle.world_defs.specs.Table.{Adoption}
use Rattle.world_defs.specs.World.{WorldState}
use Rattle.world_defs.specs.Asking.{all_given_up}
use Rattle.world_defs.specs.Install.{parts_of}
use Rattle.world_defs.specs.Logs as log
use Rattle.world_defs.proofs.LogViews.{parts_installed, host_counted, hosts_installed, installed}
use Rattle.install_laws.specs.Counts.{EachIsAcknowledged, CountsAtMostAll, CountsAllWhereAcknowledged, UnharmedCountsAll, InstallingTellsCause}
use Rattle.install_laws.specs.Tables.{has_table, EachCountedHasTable, CountsTables}
use Rattle.install_laws.proofs.Installing.{missed-harmed, counted-tables, misses-cost}

most-counted : (r : Bool × WorldState) (rest : WorldState → ℕ × WorldState) (k : ℕ) → (rest r.1).0 ≤ k → (host_counted r rest).0 ≤ k + 1
most-counted (true, v) rest k most = omega (arith, most)
most-counted (false, v) rest k most = omega (arith, most)

hosts-most : (a : Adoption) (tries : ℕ) (hs : List ℕ) (w : WorldState) → (hosts_installed a tries hs w).0 ≤ length hs
hosts-most a tries [] w = omega arith
hosts-most a tries (h ∷ hs) w =
    let r : Bool × WorldState = parts_installed a.mapper h tries (parts_of a h) w in
    let all = most-counted r (hosts_installed a tries hs) (length hs) (hosts-most a tries hs r.1) in
    omega (arith, all)

pub counts-most : CountsAtMostAll
unfolding log.install
counts-most a hosts tries w = hosts-most a tries hosts (all_given_up w)

-- counted hosts are among those that have a table
more-tables : (r : Bool × WorldState) (rest : WorldState → ℕ × WorldState) (h : ℕ) (hs : List ℕ) (b : Bool) → (r.0 ≡ true → b ≡ true) → (rest r.1).0 ≤ length hs → (host_counted r rest).0 ≤ length (if b then h ∷ hs else hs)
more-tables (true, v) rest h hs true has few = omega (arith, few)
more-tables (true, v) rest h hs false has few = absurd (true≢false (sym (has refl)))
more-tables (false, v) rest h hs true has few = omega (arith, few)
more-tables (false, v) rest h hs false has few = omega (arith, few)

hosts-tables : (a : Adoption) (tries : ℕ) (hs : List ℕ) (w v : WorldState) → EachCountedHasTable a tries hs w v → (hosts_installed a tries hs w).0 ≤ length (filter (has_table v) hs)
hosts-tables a tries [] w v all = omega arith
hosts-tables a tries (h ∷ hs) w v all =
    let r : Bool × WorldState = parts_installed a.mapper h tries (parts_of a h) w in
    more-tables r (hosts_installed a tries hs) h (filter (has_table v) hs) (has_table v h) all.0 (hosts-tables a tries hs r.1 v all.1)

tables-of : (a : Adoption) (hosts : List ℕ) (tries : ℕ) (w v : WorldState) → EachCountedHasTable a tries hosts (all_given_up w) v → (installed a hosts tries w).0 ≤ length (filter (has_table v) hosts)
unfolding log.install
tables-of a hosts tries w v all = hosts-tables a tries hosts (all_given_up w) v all

pub counts-tables : CountsTables
counts-tables a hosts tries w can adopter = tables-of a hosts tries w (installed a hosts tries w).1 (counted-tables a hosts tries w can adopter)

-- all are counted
all-counted : (r : Bool × WorldState) (rest : WorldState → ℕ × WorldState) (k : ℕ) → (rest r.1).0 ≤ k → (host_counted r rest).0 ≡ k + 1 → (r.0 ≡ true) × ((rest r.1).0 ≡ k)
all-counted (true, v) rest k most e = (refl, omega (arith, e))
all-counted (false, v) rest k most e = absurd (omega (arith, most, e))

each-counted : (r : Bool × WorldState) (rest : WorldState → ℕ × WorldState) (k : ℕ) → r.0 ≡ true → (rest r.1).0 ≡ k → (host_counted r rest).0 ≡ k + 1
each-counted (true, v) rest k e same = omega (arith, same)
each-counted (false, v) rest k e same = absurd (true≢false (sym e))

to-each : (a : Adoption) (tries : ℕ) (hs : List ℕ) (w : WorldState) → (hosts_installed a tries hs w).0 ≡ length hs → EachIsAcknowledged a tries hs w
to-each a tries [] w e = tt
to-each a tries (h ∷ hs) w e =
    let r : Bool × WorldState = parts_installed a.mapper h tries (parts_of a h) w in
    let both = all-counted r (hosts_installed a tries hs) (length hs) (hosts-most a tries hs r.1) (omega (arith, e)) in
    (both.0, to-each a tries hs r.1 both.1)

from-each : (a : Adoption) (tries : ℕ) (hs : List ℕ) (w : WorldState) → EachIsAcknowledged a tries hs w → (hosts_installed a tries hs w).0 ≡ length hs
from-each a tries [] w all = refl
from-each a tries (h ∷ hs) w all =
    let r : Bool × WorldState = parts_installed a.mapper h tries (parts_of a h) w in
    let e = each-counted r (hosts_installed a tries hs) (length hs) all.0 (from-each a tries hs r.1 all.1) in
    omega (arith, e)

pub counts-all : CountsAllWhereAcknowledged
unfolding log.install
counts-all a hosts tries w = (to-each a tries hosts (all_given_up w), from-each a tries hosts (all_given_up w))

-- a product is no less where its factor is
no-less : (tries k m : ℕ) → 0 < tries → tries * k ≤ tries * m → k ≤ m
no-less tries k m some e = ⊎_elim (λ low. absurd (over low)) (λ least. least) (cases_lt m k)
  where
    over : m < k → ⊥
    over low =
        let more : tries * (m + 1) ≤ tries * k = mul-le-mul_left tries (omega (arith, low)) in
        let split : tries * (m + 1) ≡ tries * m + tries = omega arith in
        absurd (omega (arith, some, e, more, split))

pub unharmed-all : UnharmedCountsAll
unharmed-all a hosts tries w can some left same calm =
    let cost = misses-cost a hosts tries w can left calm in
    let most = counts-most a hosts tries w in
    let least = no-less tries (length hosts) (installed a hosts tries w).0 some (omega (arith, cost, same)) in
    omega (arith, most, least)

pub tells-cause : InstallingTellsCause
tells-cause a hosts tries w can some left = record { missed = missed-harmed a hosts tries w can left; unharmed = unharmed-all a hosts tries w can some left }
