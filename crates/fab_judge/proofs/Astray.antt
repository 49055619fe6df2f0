-- The first route that leads astray, and ranks where none does.
use Rattle.std.proofs.Common.{◌≡◌, ◌≢◌, ℕ, suc, ◌+◌, Bool, true, false, not, List, [], ◌∷◌, ◌++◌, length, nat_eq, if◌then◌else◌, Some, None, refl, sym, ap, ◌∙◌, subst, arith, true≢false}
use Rattle.std.specs.Prelude.{◌↔◌}
use Rattle.std.specs.List.{AllByRecursion, list_all}
use Rattle.gm_defs.proofs.Choices.{both}
use Rattle.net_defs.specs.declared.route.Route.{Route}
use Rattle.map_defs.specs.declared.rank.RankEntry.{RankEntry}
use Rattle.map_defs.specs.NetMap.{NetMap}
use Rattle.map_defs.specs.Routing.{LeadsTo}
use Rattle.map_defs.specs.Ranks.{IsCertificate}
use Rattle.rank_cert.specs.Checking.{leads}
use Rattle.rank_cert.proofs.Checked.{leads-to, to-leads}
use Rattle.port_ledgers.proofs.Counting.{equal, same, two}
use Rattle.answer_defs.specs.declared.why.Why.TheVariants.{Rank as BadRank, Route as BadRoute}
use Rattle.answer_defs.specs.Right.{AreWhole, LeadsBetween}
use Rattle.answer_defs.specs.Failing.{not_whole, astray, falling}
use Rattle.fab_judge.specs.Checks.{FindsFault, AreRight, is_between, leads_between, astray_from}

-- ---- one route

not-false : (b : Bool) → not b ≡ true → b ≡ false
not-false true e = absurd (true≢false (sym e))
not-false false e = refl

so-between : (r : Route) → r.from ≢ r.to → is_between r ≡ true
so-between r ne = by (nat_eq r.from r.to) refl
  where
    by : (b : Bool) → nat_eq r.from r.to ≡ b → not b ≡ true
    by true e = absurd (ne (equal r.from r.to e))
    by false e = refl

between-so : (r : Route) → is_between r ≡ true → r.from ≢ r.to
between-so r e = λ one. true≢false (sym (same r.from r.to one) ∙ not-false (nat_eq r.from r.to) e)

leads-so : (m : NetMap) (r : Route) → leads_between m r ≡ true → LeadsBetween m r
leads-so m r e =
    let h = both (is_between r) (leads m r) e in
    (between-so r h.0, leads-to m r h.1)

so-leads : (m : NetMap) (r : Route) → LeadsBetween m r → leads_between m r ≡ true
so-leads m r h = two (is_between r) (leads m r) (so-between r h.0) (to-leads m r h.1)

-- ---- the first route that leads astray

-- the first route of these that doesn't lead
pub record IsAstrayAt (m : NetMap) (from : ℕ) (found : List Route) (place : ℕ) : Type 0 where
  pub front : List Route
  pub route : Route
  pub back : List Route
  pub there : found ≡ front ++ route ∷ back
  pub at : length front + from ≡ place
  pub lead : AllByRecursion (LeadsBetween m) front
  pub wrong : LeadsBetween m route → ⊥

pub all-lead : (m : NetMap) (k : ℕ) (rs : List Route) → None ≡ astray_from m k rs → AllByRecursion (LeadsBetween m) rs
all-lead m k [] e = tt
all-lead m k (r ∷ rs) e = by (leads_between m r) refl e (all-lead m (k + 1) rs)
  where
    by : (b : Bool) → leads_between m r ≡ b → None ≡ (if b then astray_from m (k + 1) rs else Some k) → (None ≡ astray_from m (k + 1) rs → AllByRecursion (LeadsBetween m) rs) → AllByRecursion (LeadsBetween m) (r ∷ rs)
    by true l f rest = (leads-so m r l, rest f)
    by false l f rest = cc

pub first-astray : (m : NetMap) (k : ℕ) (rs : List Route) (place : ℕ) → Some place ≡ astray_from m k rs → IsAstrayAt m k rs place
first-astray m k [] place e = cc
first-astray m k (r ∷ rs) place e = by (leads_between m r) refl e (first-astray m (k + 1) rs place)
  where
    by : (b : Bool) → leads_between m r ≡ b → Some place ≡ (if b then astray_from m (k + 1) rs else Some k) → (Some place ≡ astray_from m (k + 1) rs → IsAstrayAt m (k + 1) rs place) → IsAstrayAt m k (r ∷ rs) place
    by true l f rest =
        let h = rest f in
        let at : suc (length h.front) + k ≡ place = (let one = h.at in omega (arith, one)) in
        record { front = r ∷ h.front; route = h.route; back = h.back; there = ap (λ x. r ∷ x) h.there; at = at; lead = (leads-so m r l, h.lead); wrong = h.wrong }
    by false l f rest =
        let one : k ≡ place = cc in
        let at : 0 + k ≡ place = omega (arith, one) in
        record { front = []; route = r; back = rs; there = refl; at = at; lead = tt; wrong = λ h. true≢false (sym (so-leads m r h) ∙ l) }

-- ---- what is found

-- two hosts have no route
pub lacks : (m : NetMap) (found : List Route) (ranks : List RankEntry) (is : Bool) → (is ≡ true) ↔ AreWhole m found → is ≡ false → FindsFault m found ranks (Some (0, BadRoute))
lacks m found ranks is right e = not_whole (λ w. true≢false (sym (right.1 w) ∙ e))

-- a route leads astray
pub strays : (m : NetMap) (found : List Route) (ranks : List RankEntry) (place next : ℕ) → AreWhole m found → Some place ≡ astray_from m 0 found → next ≡ place + 1 → FindsFault m found ranks (Some (next, BadRoute))
strays m found ranks place next w e n =
    let h = first-astray m 0 found place e in
    let at : suc (length h.front) ≡ next = (let one = h.at in omega (arith, one, n)) in
    subst (λ k. FindsFault m found ranks (Some (k, BadRoute))) at (astray h.front h.back h.route w h.there h.lead h.wrong)

only-lead : (m : NetMap) (rs : List Route) → AllByRecursion (LeadsBetween m) rs → AllByRecursion (λ r. LeadsTo m r.from r.to r.walk) rs
only-lead m [] all = tt
only-lead m (r ∷ rs) all = (all.0.1, only-lead m rs all.1)

-- ranks rise exactly where the check says so
pub rises : (m : NetMap) (found : List Route) (ranks : List RankEntry) → AreWhole m found → AllByRecursion (LeadsBetween m) found → IsCertificate m found ranks → FindsFault m found ranks None
rises m found ranks w lead rise = record { whole = w; lead = lead; rise = rise }

pub falls : (m : NetMap) (found : List Route) (ranks : List RankEntry) (next : ℕ) → AreWhole m found → AllByRecursion (LeadsBetween m) found → (AreRight m found ranks → ⊥) → next ≡ length found + length ranks + 1
    → FindsFault m found ranks (Some (next, BadRank))
falls m found ranks next w lead wrong n =
    let at : suc (length found + length ranks) ≡ next = omega (arith, n) in
    subst (λ k. FindsFault m found ranks (Some (k, BadRank))) at (falling w lead (λ rise. wrong (lead, rise)))

-- ---- what the check says

-- routes that lead, and are between two hosts
lead-between : (m : NetMap) (rs : List Route) → list_all is_between rs ≡ true → AllByRecursion (λ r. LeadsTo m r.from r.to r.walk) rs → AllByRecursion (LeadsBetween m) rs
lead-between m [] e all = tt
lead-between m (r ∷ rs) e all =
    let h = both (is_between r) (list_all is_between rs) e in
    ((between-so r h.0, all.0), lead-between m rs h.1 all.1)

all-between : (m : NetMap) (rs : List Route) → AllByRecursion (LeadsBetween m) rs → list_all is_between rs ≡ true
all-between m [] all = refl
all-between m (r ∷ rs) all = two (is_between r) (list_all is_between rs) (so-between r all.0.0) (all-between m rs all.1)

-- the check accepts routes that are between two hosts each
pub accepted : (m : NetMap) (found : List Route) (ranks : List RankEntry) → list_all is_between found ≡ true → AllByRecursion (λ r. LeadsTo m r.from r.to r.walk) found × IsCertificate m found ranks → (true ≡ true) ↔ AreRight m found ranks
accepted m found ranks e h = (λ one. (lead-between m found e h.0, h.1), λ right. refl)

-- it refuses them
pub refused : (m : NetMap) (found : List Route) (ranks : List RankEntry) → (AllByRecursion (λ r. LeadsTo m r.from r.to r.walk) found × IsCertificate m found ranks → ⊥) → (false ≡ true) ↔ AreRight m found ranks
refused m found ranks wrong = (λ e. absurd (true≢false (sym e)), λ right. absurd (wrong (only-lead m found right.0, right.1)))

-- one isn't between two hosts
pub not-between : (m : NetMap) (found : List Route) (ranks : List RankEntry) → list_all is_between found ≡ false → (false ≡ true) ↔ AreRight m found ranks
not-between m found ranks e = (λ f. absurd (true≢false (sym f)), λ right. absurd (true≢false (sym (all-between m found right.0) ∙ e)))
