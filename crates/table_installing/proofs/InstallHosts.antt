-- The hosts of an installation are hosts of the world, few, and what is said of it is what its definition says.
use Rattle.std.proofs.Common.{◌≡◌, ◌<◌, ◌≤◌, ◌+◌, ℕ, Bool, true, false, true≢false, ◌||◌, nat_eq, List, [], ◌∷◌, length, Option, Some, None, refl, sym, ◌∙◌, ap, subst, arith, if◌then◌else◌}
use Rattle.std.specs.Prelude.{IfSome, IsSome, option_map}
use Rattle.std.specs.List.{AllByRecursion, list_any, range_with_len}
use Rattle.std.proofs.lemmas.Bool.Decides.{nat_tests}
use Rattle.net_defs.proofs.Distinct.{all-weaker}
use Rattle.net_defs.specs.declared.route.Route.{Route}
use Rattle.world_defs.specs.Later.{OnlyPulled}
use Rattle.world_defs.specs.Table.{Adoption, part_count, entries_from}
use Rattle.world_defs.specs.World.{WorldState, fabric_of, host_count}
use Rattle.world_defs.specs.Asking.{all_given_up}
use Rattle.world_defs.specs.EightBits.{IsByteEvent}
use Rattle.world_defs.specs.Install.{parts_of}
use Rattle.world_defs.proofs.LogViews.{installed}
use Rattle.world_defs.specs.Log.{came_to}
use Rattle.world_defs.proofs.LogRows.{hosts-row, install-row, byte_asks}
use Rattle.route_install.specs.Installing.{AreHosts}
use Rattle.adopted_routes.specs.Adopting.{is_among, IsSetOfHosts, part_count_for}
use Rattle.world_defs.specs.Logs as log
use Rattle.world_defs.specs.Row.{IsRow, IsPartWay}
use Rattle.fab_world.specs.Held.{IsMoment, IsLater}
use Rattle.world_drain.proofs.Cables.{PlugsNone, way-pulled, done-pulled}
use Rattle.table_installing.specs.Installing.{CanInstall}

-- the hosts among a set's are hosts
among-there : (n mapper : ℕ) (routes : List Route) (h : ℕ) → mapper < n → AllByRecursion (λ r. (r.from < n) × (r.to < n)) routes → is_among mapper routes h ≡ true → h < n
among-there n mapper routes h low ends e = by (nat_eq h mapper) refl e
  where
    one : (r : Route) (rs : List Route) → (r.from < n) × (r.to < n) → (nat_eq r.from h || nat_eq r.to h || list_any (λ r. nat_eq r.from h || nat_eq r.to h) rs) ≡ true
        → (list_any (λ r. nat_eq r.from h || nat_eq r.to h) rs ≡ true → h < n) → h < n
    one r rs (a, b) t rest = first (nat_eq r.from h) (nat_eq r.to h) refl refl t
      where
        first : (x y : Bool) → nat_eq r.from h ≡ x → nat_eq r.to h ≡ y → (x || y || list_any (λ r. nat_eq r.from h || nat_eq r.to h) rs) ≡ true → h < n
        first true y p q u = grind (arith, nat_tests)
        first false true p q u = grind (arith, nat_tests)
        first false false p q u = rest u

    any : (rs : List Route) → AllByRecursion (λ r. (r.from < n) × (r.to < n)) rs → list_any (λ r. nat_eq r.from h || nat_eq r.to h) rs ≡ true → h < n
    any [] all t = cc
    any (r ∷ rs) all t = one r rs all.0 (left (nat_eq r.from h) (nat_eq r.to h) (list_any (λ r. nat_eq r.from h || nat_eq r.to h) rs) t) (any rs all.1)
      where
        left : (x y z : Bool) → ((x || y) || z) ≡ true → (x || y || z) ≡ true
        left true y z t = refl
        left false y z t = t

    by : (b : Bool) → nat_eq h mapper ≡ b → (b || list_any (λ r. nat_eq r.from h || nat_eq r.to h) routes) ≡ true → h < n
    by true p t = grind (arith, nat_tests)
    by false p t = any routes ends t

-- what holds of every member holds of all
pub members : (P : ℕ → Type 0) (hs : List ℕ) → ((h : ℕ) → list_any (nat_eq h) hs ≡ true → P h) → AllByRecursion P hs
members P [] f = tt
members P (h ∷ hs) f =
    let own : nat_eq h h ≡ true = grind (arith, nat_tests) in
    (f h (ap (λ b. b || list_any (nat_eq h) hs) own), members P hs (λ g e. f g (ap (λ b. nat_eq g h || b) e ∙ or-true (nat_eq g h))))
  where
    or-true : (b : Bool) → (b || true) ≡ true
    or-true true = refl
    or-true false = refl

hosts-there : (n : ℕ) (o : Option Adoption) (hosts : List ℕ) → IsSome o → IfSome o (IsSetOfHosts n) → IfSome o (λ a. (h : ℕ) → list_any (nat_eq h) hosts ≡ is_among a.mapper a.routes h)
    → AllByRecursion (λ h. h < n) hosts
hosts-there n None hosts some set named = absurd (true≢false (sym some))
hosts-there n (Some a) hosts some set named = members (λ h. h < n) hosts (λ h e. among-there n a.mapper a.routes h set.mapper set.ends (sym (named h) ∙ e))

-- numbers that rise below a bound are no more than it
few-above : (low n : ℕ) (hs : List ℕ) → low ≤ n → AllByRecursion (λ h. low ≤ h) hs → AreHosts hs → AllByRecursion (λ h. h < n) hs → length hs + low ≤ n
few-above low n [] few over up all = omega (arith, few)
few-above low n (h ∷ hs) few over up all =
    let first : low ≤ h = over.0 in
    let last : h < n = all.0 in
    let rest = few-above (h + 1) n hs (omega (arith, last)) (all-weaker (λ g. h < g) (λ g. h + 1 ≤ g) hs (λ g l. omega (arith, l)) up.0) up.1 all.1 in
    omega (arith, first, rest)

-- The hosts of an installation are of the world, and few.
pub record AreFewHosts (n : ℕ) (hosts : List ℕ) : Type 0 where
  pub there : AllByRecursion (λ h. h < n) hosts
  pub few : length hosts ≤ 128

pub few-hosts : (w : WorldState) (hosts : List ℕ) (tries : ℕ) → IsMoment w → CanInstall w hosts tries → AreFewHosts (host_count w) hosts
few-hosts w hosts tries m can =
    let there = hosts-there (host_count w) w.adopted hosts can.adopted m.adopted can.named in
    let few = few-above 0 (host_count w) hosts (omega arith) (all-weaker (λ h. h < host_count w) (λ h. 0 ≤ h) hosts (λ h l. omega arith) there) can.rise there in
    let count : host_count w ≡ length (fabric_of w).hosts = m.world.hosts in
    let most : length (fabric_of w).hosts ≤ 128 = m.fabric.few_hosts in
    record { there = there; few = omega (arith, few, count, most) }

pub fewer-hosts : (n k : ℕ) (hosts : List ℕ) → k ≡ n → AllByRecursion (λ h. h < n) hosts → AllByRecursion (λ h. h < k) hosts
fewer-hosts n k hosts e all = subst (λ m. AllByRecursion (λ h. h < m) hosts) (sym e) all

-- the adopter is a host
pub adopter-there : (n mapper : ℕ) (o : Option Adoption) → IfSome o (IsSetOfHosts n) → Some mapper ≡ option_map (λ a. a.mapper) o → mapper < n
adopter-there n mapper None set e = cc
adopter-there n mapper (Some a) set e = let one : a.mapper ≡ mapper = cc in subst (λ k. k < n) one set.mapper

-- the parts of a host by their number
pub parts-are : (a : Adoption) (dst : ℕ) → range_with_len 0 (part_count_for (Some a) dst) ≡ parts_of a dst
parts-are a dst = by (nat_eq dst a.mapper)
  where
    count : ℕ
    count = part_count (length (entries_from a.routes dst))

    by : (b : Bool) → range_with_len 0 (if b then 0 else count) ≡ (if b then [] else range_with_len 0 count)
    by true = refl
    by false = refl

-- part of the way along an installation, where routes are adopted
pub cut-of : (w v : WorldState) (hosts : List ℕ) (tries : ℕ) (o : Option Adoption) → w.adopted ≡ o → ((a : Adoption) → w.adopted ≡ Some a → IsPartWay w (log.install a hosts tries w).events v)
    → IfSome o (λ a. IsPartWay w (log.install a hosts tries w).events v)
cut-of w v hosts tries None is way = tt
cut-of w v hosts tries (Some a) is way = way a is

-- an installation after the hosts' giving up
pub told : (w v u : WorldState) (hosts : List ℕ) (tries acked : ℕ) (o : Option Adoption) → w.adopted ≡ o → v ≡ all_given_up w → v.adopted ≡ w.adopted
    → ((a : Adoption) → v.adopted ≡ Some a → came_to (log.hosts a tries hosts v) ≡ (acked, u)) → IfSome o (λ a. installed a hosts tries w ≡ (acked, u))
unfolding log.install
told w v u hosts tries acked None is given same all = tt
told w v u hosts tries acked (Some a) is given same all = ap (λ x. came_to (log.hosts a tries hosts x)) (sym given) ∙ all a (same ∙ is)

pub in-logs : (w u : WorldState) (hosts : List ℕ) (tries acked : ℕ) (o : Option Adoption) → IfSome o (λ a. installed a hosts tries w ≡ (acked, u))
    → IfSome o (λ a. acked ≡ (log.install a hosts tries w).value) × IfSome o (λ a. u ≡ (log.install a hosts tries w).world)
in-logs w u hosts tries acked None is = (tt, tt)
in-logs w u hosts tries acked (Some a) is =
    let told : (acked, u) ≡ came_to (log.install a hosts tries w) = sym is in
    (ap (λ p. p.0) told, ap (λ p. p.1) told)

-- hosts that are served lead on by events
pub hosts-later : (a : Adoption) (tries : ℕ) (hosts : List ℕ) (w v : WorldState) (acked : ℕ) → came_to (log.hosts a tries hosts w) ≡ (acked, v) → IsLater w v
hosts-later a tries hosts w v acked is =
    ((log.hosts a tries hosts w).events, sym (ap (λ p. p.1) is) ∙ (hosts-row {Q = IsByteEvent} byte_asks (λ dst part. tt) a tries hosts w).there)

-- what routes of one adopter make later, adopted routes of it make later
pub adopted-later : (w v : WorldState) (o : Option Adoption) (mapper : ℕ) → option_map (λ a. a.mapper) o ≡ Some mapper → ((a : Adoption) → o ≡ Some a → IsLater w v) → IsLater w v
adopted-later w v None mapper e later = cc
adopted-later w v (Some a) mapper e later = later a refl

-- no event of an installation plugs
plugs_none : (a : Adoption) (hosts : List ℕ) (tries : ℕ) (w : WorldState) → IsRow PlugsNone w (log.install a hosts tries w).events (log.install a hosts tries w).world
plugs_none a hosts tries w = install-row (record { advance = λ c. refl; inject = λ h. refl; give_up = λ h. refl }) (λ dst part. refl) a hosts tries w

-- so cables are pulled at most, in part of it and in all of it
pub cut-pulled : (w v : WorldState) (hosts : List ℕ) (tries : ℕ) (o : Option Adoption) → IsSome o → IfSome o (λ a. IsPartWay w (log.install a hosts tries w).events v) → OnlyPulled w.links.cables v.links.cables
cut-pulled w v hosts tries None some way = absurd (true≢false (sym some))
cut-pulled w v hosts tries (Some a) some way = way-pulled (plugs_none a hosts tries w) way

pub all-pulled : (w v : WorldState) (hosts : List ℕ) (tries : ℕ) (o : Option Adoption) → IsSome o → IfSome o (λ a. v ≡ (log.install a hosts tries w).world) → OnlyPulled w.links.cables v.links.cables
all-pulled w v hosts tries None some after = absurd (true≢false (sym some))
all-pulled w v hosts tries (Some a) some after = done-pulled (log.install a hosts tries w) w v (plugs_none a hosts tries w) after
