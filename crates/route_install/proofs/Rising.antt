-- Entries by rising host: the first for a host is any of it.
use Rattle.std.proofs.Common.{◌≡◌, ◌<◌, ◌≤◌, ◌+◌, ℕ, ℤ, zero, suc, List, [], ◌∷◌, ◌++◌, Bool, true, false, drop, drop-cons, length, nat_eq, nat_lt, get_or, Option, Some, None, option_map, refl, ap, sym, ◌∙◌, subst, arith, if◌then◌else◌}
use Rattle.std.specs.Prelude.{slice_get, find, is_some, option_and_then, IfSome}
use Rattle.std.proofs.lemmas.Bool.Decides.{nat_tests}
use Rattle.std.proofs.lemmas.Option.{same_Some, slice_get_read}
use Rattle.world_defs.specs.Mapping.{RouteEntry}
use Rattle.route_install.specs.Collecting.{Numbered, joined_all}
use Rattle.route_install.specs.Finding.{IsEntryOf, rises_from, are_rising}

-- an entry stands at a place of a list
abbrev StandsIn : RouteEntry → List RouteEntry → Type 0
StandsIn e es = (k : ℕ) × (slice_get es k ≡ Some e)

front : (e : RouteEntry) (es fs : List RouteEntry) (k : ℕ) → slice_get es k ≡ Some e → slice_get (es ++ fs) k ≡ Some e
front e [] fs k h = cc
front e (x ∷ es) fs zero h = h
front e (x ∷ es) fs (suc k) h = front e es fs k h

behind : (e : RouteEntry) (es fs : List RouteEntry) → StandsIn e fs → StandsIn e (es ++ fs)
behind e [] fs s = s
behind e (x ∷ es) fs s = let r = behind e es fs s in (suc r.0, r.1)

-- an entry of one of the parts is an entry of theirs
pub entry-of : (e : RouteEntry) (q : Numbered) (ps : List Numbered) (p k : ℕ) → slice_get ps p ≡ Some q → slice_get q.1 k ≡ Some e → IsEntryOf ps e
entry-of e q [] p k h there = cc
entry-of e q (x ∷ ps) zero k h there = (k, front e x.1 (joined_all ps) k (ap (λ (o : Option Numbered). at o) h ∙ there))
  where
    at : Option Numbered → Option RouteEntry
    at None = None
    at (Some n) = slice_get n.1 k
entry-of e q (x ∷ ps) (suc p) k h there = behind e x.1 (joined_all ps) (entry-of e q ps p k h there)

-- what stands at a place, where a look there finds something
found-at : {T A : Type 0} (now : T → A) (r : Option T) (x : T) (ps : List A) (p : ℕ) → r ≡ Some x → is_some r ≡ nat_lt p (length ps) → IfSome r (λ y. now y ≡ get_or ps p (now y)) → slice_get ps p ≡ Some (now x)
found-at now None x ps p is within same = cc
found-at now (Some y) x ps p is within same =
    let low : p < length ps = grind (arith, nat_tests) in
    slice_get_read ps (length ps) p (now y) refl low same ∙ ap (λ (o : Option _). option_map now o) is

-- what a look at a place of a part finds is an entry of the parts
pub looked : {S T : Type 0} (part : S → Numbered) (entry : T → RouteEntry) (ps : List Numbered) (p k : ℕ) (q : Option S) (x : S) (r : Option T)
    → q ≡ Some x → is_some q ≡ nat_lt p (length ps) → IfSome q (λ y. part y ≡ get_or ps p (part y))
    → is_some r ≡ nat_lt k (length (part x).1) → IfSome r (λ y. entry y ≡ get_or (part x).1 k (entry y))
    → IfSome r (λ y. IsEntryOf ps (entry y))
looked part entry ps p k q x None is within same inside one = tt
looked part entry ps p k q x (Some y) is within same inside one =
    entry-of (entry y) (part x) ps p k (found-at part q x ps p is within same) (found-at entry (Some y) y (part x).1 k refl inside one)

-- where hosts rise from a least one on, an entry is of no lesser host, and the first for its host
first-of : (e : RouteEntry) (n m : ℕ) (es : List RouteEntry) (k : ℕ) → rises_from n es ≡ Some m → slice_get es k ≡ Some e → (n ≤ e.to) × (find (λ f. nat_eq f.to e.to) es ≡ Some e)
first-of e n m [] k up there = cc
first-of e n m (x ∷ es) k up there = by (nat_lt x.to n) refl (first-of e (x.to + 1) m es) k up there
  where
    by : (b : Bool) → nat_lt x.to n ≡ b
        → ((j : ℕ) → rises_from (x.to + 1) es ≡ Some m → slice_get es j ≡ Some e → (x.to + 1 ≤ e.to) × (find (λ f. nat_eq f.to e.to) es ≡ Some e))
        → (k : ℕ) → (if b then None else rises_from (x.to + 1) es) ≡ Some m → slice_get (x ∷ es) k ≡ Some e
        → (n ≤ e.to) × (find (λ f. nat_eq f.to e.to) (x ∷ es) ≡ Some e)
    by true low rest k up there = cc
    by false low rest zero up there =
        let one : x.to ≡ e.to = ap (λ (f : RouteEntry). f.to) (same_Some x e there) in
        let test : nat_eq x.to e.to ≡ true = grind (arith, nat_tests) in
        let least : n ≤ e.to = grind (arith, nat_tests) in
        (least, ap (λ b. if b then Some x else find (λ f. nat_eq f.to e.to) es) test ∙ there)
    by false low rest (suc k) up there =
        let more = rest k up there in
        let above : x.to + 1 ≤ e.to = more.0 in
        let test : nat_eq x.to e.to ≡ false = grind (arith, nat_tests) in
        let least : n ≤ e.to = grind (arith, nat_tests) in
        (least, ap (λ b. if b then Some x else find (λ f. nat_eq f.to e.to) es) test ∙ more.1)

-- where the hosts of parts rise, an entry of theirs is the first for its host
pub first-risen : (e : RouteEntry) (to : ℕ) (ps : List Numbered) → are_rising (joined_all ps) ≡ true → IsEntryOf ps e → e.to ≡ to → find (λ f. nat_eq f.to to) (joined_all ps) ≡ Some e
first-risen e to ps up there same = by (rises_from 0 (joined_all ps)) refl up
  where
    by : (o : Option ℕ) → rises_from 0 (joined_all ps) ≡ o → is_some o ≡ true → find (λ f. nat_eq f.to to) (joined_all ps) ≡ Some e
    by None is up = cc
    by (Some m) is up = subst (λ t. find (λ f. nat_eq f.to t) (joined_all ps) ≡ Some e) same (first-of e 0 m (joined_all ps) there.0 is there.1).1

-- hosts of entries end to end rise where those of the first rise, and those after from there
pub rises-append : (n : ℕ) (es fs : List RouteEntry) → rises_from n (es ++ fs) ≡ option_and_then (λ m. rises_from m fs) (rises_from n es)
rises-append n [] fs = refl
rises-append n (x ∷ es) fs = by (nat_lt x.to n) (rises-append (x.to + 1) es fs)
  where
    by : (b : Bool) → rises_from (x.to + 1) (es ++ fs) ≡ option_and_then (λ m. rises_from m fs) (rises_from (x.to + 1) es) → (if b then None else rises_from (x.to + 1) (es ++ fs)) ≡ option_and_then (λ m. rises_from m fs) (if b then None else rises_from (x.to + 1) es)
    by true rest = refl
    by false rest = rest

-- the hosts of the parts from one on, after those of that one
pub rises-at : (n : ℕ) (i : ℕ) (p : Numbered) (ps : List Numbered) → i < length ps → p ≡ get_or ps i p → rises_from n (joined_all (drop i ps)) ≡ option_and_then (λ m. rises_from m (joined_all (drop (i + 1) ps))) (rises_from n p.1)
rises-at n i p ps l e =
    let split : drop i ps ≡ p ∷ drop (suc i) ps = drop-cons ps i p l ∙ ap (λ q. q ∷ drop (suc i) ps) (sym e) in
    let one : suc i ≡ i + 1 = omega arith in
    ap (λ l. rises_from n (joined_all l)) split
    ∙ rises-append n p.1 (joined_all (drop (suc i) ps))
    ∙ ap (λ k. option_and_then (λ m. rises_from m (joined_all (drop k ps))) (rises_from n p.1)) one

-- the same of what may be found, and of the test that was made
pub all-risen : {T : Type 0} (entry : T → RouteEntry) (to : ℕ) (ps : List Numbered) (r : Option T) → are_rising (joined_all ps) ≡ true
    → IfSome r (λ e. IsEntryOf ps (entry e)) → IfSome r (λ e. (entry e).to ≡ to)
    → IfSome r (λ e. find (λ f. nat_eq f.to to) (joined_all ps) ≡ Some (entry e))
all-risen entry to ps None up there same = tt
all-risen entry to ps (Some e) up there same = first-risen (entry e) to ps up there same

-- what is found is the first, with its route
pub first-route : (e : RouteEntry) (w : List ℤ) (to : ℕ) (es : List RouteEntry) → find (λ f. nat_eq f.to to) es ≡ Some e → w ≡ e.walk → Some w ≡ option_map (λ f. f.walk) (find (λ f. nat_eq f.to to) es)
first-route e w to es is walk = ap Some walk ∙ sym (ap (option_map (λ (f : RouteEntry). f.walk)) is)
