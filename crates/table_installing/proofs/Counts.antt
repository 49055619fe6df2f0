-- Of the hosts of an installation those count whose work is acknowledged whole, and those that have none.
use Rattle.std.proofs.Common.{◌≡◌, ◌<◌, ◌≤◌, ◌+◌, ℕ, Bool, true, false, not, ◌&&◌, ◌||◌, nat_eq, List, [], ◌∷◌, map, length, drop, get_or, Option, Some, refl, sym, ◌∙◌, ap, subst, arith, if◌then◌else◌}
use Rattle.std.specs.List.{list_all, filter, AllByRecursion}
use Rattle.std.proofs.lemmas.Bool.Decides.{nat_tests}
use Rattle.std.proofs.lemmas.List.{drop_more}
use Rattle.world_defs.specs.Table.{Adoption}
use Rattle.world_defs.specs.World.{WorldState}
use Rattle.world_defs.specs.Log.{Log, still, came_to}
use Rattle.world_defs.specs.Logs as log
use Rattle.route_install.specs.declared.installer.Work.{Work}
use Rattle.route_install.specs.Installing.{Installation, AreHosts, is_acked, is_done, acked_of}
use Rattle.table_installing.specs.Installing.{has_parts, acked_among}
use Rattle.table_installing.proofs.Lefts.{acked_works, all_left, all-done}
use Rattle.table_installing.proofs.Serving.{without, IsServing}

-- an installation of these works
abbrev over : ℕ → List Work → Installation
over tries ks = record { tries = tries; works = ks }

-- what is above a number stays so among fewer
above-filter : (n : ℕ) (t : ℕ → Bool) (xs : List ℕ) → AllByRecursion (λ x. n < x) xs → AllByRecursion (λ x. n < x) (filter t xs)
above-filter n t [] all = tt
above-filter n t (x ∷ xs) all = by (t x) (above-filter n t xs all.1)
  where
    by : (b : Bool) → AllByRecursion (λ x. n < x) (filter t xs) → AllByRecursion (λ x. n < x) (if b then x ∷ filter t xs else filter t xs)
    by true r = (all.0, r)
    by false r = r

-- a host below those of all works has no work that isn't acknowledged
none-of : (tries h : ℕ) (ks : List Work) → AllByRecursion (λ g. h < g) (map (λ k. k.host) ks) → acked_of (over tries ks) h ≡ true
none-of tries h [] all = refl
none-of tries h (k ∷ ks) all =
    let low : h < k.host = all.0 in
    let other : nat_eq k.host h ≡ false = grind (arith, nat_tests) in
    rw other (none-of tries h ks all.1)

-- a work of a host below others says nothing of them
others-same : (tries : ℕ) (k : Work) (ks : List Work) (hs : List ℕ) → AllByRecursion (λ g. k.host < g) hs → acked_among (over tries (k ∷ ks)) hs ≡ acked_among (over tries ks) hs
others-same tries k ks [] all = refl
others-same tries k ks (h ∷ hs) all =
    let low : k.host < h = all.0 in
    let other : nat_eq k.host h ≡ false = grind (arith, nat_tests) in
    let one : acked_of (over tries (k ∷ ks)) h ≡ acked_of (over tries ks) h = rw other refl in
    (λ i. (if one i then 1 else 0) + others-same tries k ks hs all.1 i)

-- the work of a host says whether it is counted
own-tells : (tries : ℕ) (k : Work) (ks : List Work) → AllByRecursion (λ g. k.host < g) (map (λ k. k.host) ks) → acked_of (over tries (k ∷ ks)) k.host ≡ is_acked k
own-tells tries k ks all =
    let own : nat_eq k.host k.host ≡ true = grind (arith, nat_tests) in
    let rest : acked_of (over tries ks) k.host ≡ true = none-of tries k.host ks all in
    ap (λ b. (not b || is_acked k) && acked_of (over tries ks) k.host) own ∙ ap (λ b. is_acked k && b) rest ∙ and-true (is_acked k)
  where
    and-true : (b : Bool) → (b && true) ≡ b
    and-true true = refl
    and-true false = refl

pub counts : (o : Option Adoption) (tries : ℕ) (hosts : List ℕ) (ks : List Work) → AreHosts hosts → map (λ k. k.host) ks ≡ filter (has_parts o) hosts → acked_among (over tries ks) hosts ≡ without o hosts + acked_works ks
counts o tries [] [] rise of = omega arith
counts o tries [] (k ∷ ks) rise of = cc
counts o tries (h ∷ hs) ks rise of = by (has_parts o h) ks of (λ js e. counts o tries hs js rise.1 e)
  where
    Rest : Type 0
    Rest = (js : List Work) → map (λ k. k.host) js ≡ filter (has_parts o) hs → acked_among (over tries js) hs ≡ without o hs + acked_works js

    above : (js : List Work) → map (λ k. k.host) js ≡ filter (has_parts o) hs → AllByRecursion (λ g. h < g) (map (λ k. k.host) js)
    above js e = subst (λ (gs : List ℕ). AllByRecursion (λ g. h < g) gs) (sym e) (above-filter h (has_parts o) hs rise.0)

    own : (k : Work) (js : List Work) → k.host ≡ h → map (λ k. k.host) js ≡ filter (has_parts o) hs → Rest
        → (if acked_of (over tries (k ∷ js)) h then 1 else 0) + acked_among (over tries (k ∷ js)) hs ≡ (0 + without o hs) + ((if is_acked k then 1 else 0) + acked_works js)
    own k js one e rests =
        let up : AllByRecursion (λ g. k.host < g) (map (λ k. k.host) js) = subst (λ n. AllByRecursion (λ g. n < g) (map (λ k. k.host) js)) (sym one) (above js e) in
        let below : AllByRecursion (λ g. k.host < g) hs = subst (λ n. AllByRecursion (λ g. n < g) hs) (sym one) rise.0 in
        let tells : acked_of (over tries (k ∷ js)) h ≡ is_acked k = ap (acked_of (over tries (k ∷ js))) (sym one) ∙ own-tells tries k js up in
        let rest : acked_among (over tries (k ∷ js)) hs ≡ without o hs + acked_works js = others-same tries k js hs below ∙ rests js e in
        let sum : (if is_acked k then 1 else 0) + (without o hs + acked_works js) ≡ (0 + without o hs) + ((if is_acked k then 1 else 0) + acked_works js) = omega arith in
        (λ i. (if tells i then 1 else 0) + rest i) ∙ sum

    by : (b : Bool) (ks : List Work) → map (λ k. k.host) ks ≡ (if b then h ∷ filter (has_parts o) hs else filter (has_parts o) hs) → Rest
        → (if acked_of (over tries ks) h then 1 else 0) + acked_among (over tries ks) hs ≡ ((if b then 0 else 1) + without o hs) + acked_works ks
    by true [] e rests = cc
    by true (k ∷ js) e rests =
        let one : k.host ≡ h = cc in
        let more : map (λ k. k.host) js ≡ filter (has_parts o) hs = cc in
        own k js one more rests
    by false ks e rests =
        let all : acked_of (over tries ks) h ≡ true = none-of tries h ks (above ks e) in
        let rest : acked_among (over tries ks) hs ≡ without o hs + acked_works ks = rests ks e in
        let sum : 1 + (without o hs + acked_works ks) ≡ (1 + without o hs) + acked_works ks = omega arith in
        (λ i. (if all i then 1 else 0) + rest i) ∙ sum

-- one host more is counted
pub counted-on : (i : Installation) (hosts : List ℕ) (at acked after : ℕ) → at < length hosts → acked + acked_among i (drop at hosts) ≡ acked_among i hosts → after ≡ acked + (if acked_of i (get_or hosts at 0) then 1 else 0)
    → after + acked_among i (drop (at + 1) hosts) ≡ acked_among i hosts
counted-on i hosts at acked after low before more =
    let here : acked_among i (drop at hosts) ≡ (if acked_of i (get_or hosts at 0) then 1 else 0) + acked_among i (drop (at + 1) hosts) = ap (acked_among i) (drop_more hosts at 0 low) in
    omega (arith, here, before, more)

pub one-few : (b : Bool) → (if b then 1 else 0) ≤ 1
one-few true = omega arith
one-few false = omega arith

-- where no part is awaited any more, the installation has come to its end
pub served-all : (a : Adoption) (tries : ℕ) (hosts : List ℕ) (first now : WorldState) (i : Installation) → IsServing a tries hosts first now i → i.tries ≡ tries → AreHosts hosts → map (λ k. k.host) i.works ≡ filter (has_parts (Some a)) hosts
    → list_all (is_done i.tries) i.works ≡ true → came_to (log.hosts a tries hosts first) ≡ (acked_among i hosts, now)
served-all a tries hosts first now i s same rise of done =
    let n : ℕ = without (Some a) hosts in
    let ended : all_left a.mapper tries i.works now ≡ still (acked_works i.works) now =
    ap (λ m. all_left a.mapper m i.works now) (sym same) ∙ all-done a.mapper i.tries i.works now done in
    ap came_to s.all ∙ ap (λ (l : Log ℕ). (n + l.value, l.world)) ended ∙ ap (λ (m : ℕ). (m, now)) (sym (counts (Some a) i.tries hosts i.works rise of))
