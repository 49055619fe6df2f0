-- The number of walks is that of a list that has each of them once.
use Rattle.std.proofs.Common.{◌≡◌, ◌≢◌, ◌≤◌, ◌+◌, ℕ, zero, suc, List, [], ◌∷◌, ◌++◌, map, length, Bool, true, false, not, ◌&&◌, ◌||◌, Option, Some, None, sym, ◌∙◌, subst, ap, true≢false, refl, arith, ◌⊎◌, inl, inr, length-append}
use Rattle.std.specs.Prelude.{ℤ, pos}
use Rattle.std.specs.Ordering.{int_eq}
use Rattle.std.specs.Cmp.{IsEquivalence}
use Rattle.std.specs.List.{AllByRecursion, IsDistinct, list_any, list_all}
use Rattle.std.proofs.lemmas.Bool.{false≢true, and_parts, or_cases}
use Rattle.std.proofs.lemmas.Bool.Decides.{Decides-int_eq}
use Rattle.std.proofs.lemmas.Map.Made.{length-le_from_is_member}
use Rattle.std.proofs.lemmas.List.{length-map}
use Rattle.net_defs.specs.declared.vertex.Vertex.{Vertex}
use Rattle.net_defs.specs.declared.vertex.Vertex.TheVariants.{Host, Switch}
use Rattle.net_defs.specs.declared.vertex.End.{End}
use Rattle.net_defs.specs.declared.place.Place.TheVariants.{Nothing}
use Rattle.net_defs.specs.Network.{Network, Apart, far}
use Rattle.net_defs.specs.Route.{place_at, place_at_vertex, entered_after, turned, host_port}
use Rattle.net_defs.specs.Turn.{is_turn, same_turns}
use Rattle.net_defs.proofs.Distinct.{all-weaker}
use Rattle.journal_defs.specs.Counting.{total}
use Rattle.journal_defs.specs.Walks.{IsOnward, onward_turns}
use Rattle.journal_defs.specs.Part.{walks_from}
use Rattle.journal_defs.specs.WalkLaws.{IsCounted, WalksAreCounted, WalksAreFew, most_turns}
use Rattle.net_defs.proofs.Turns.{same_turns-true, same_turns-refl, same_turns-false}
use Rattle.journal_defs.proofs.Order.{or-left, or-right}
use Rattle.journal_defs.proofs.Growing.{onward-pass}
use Rattle.journal_defs.proofs.Members.{IsMember, member-left, member-right, member-map, all-member, all-from-members, all-join, all-map, member-place, apart-join, apart-map}

-- the walks that begin with one of these turns and go on as a function says
abbrev by_turns : (ℤ → List (List ℤ)) → List ℤ → List (List ℤ)
by_turns on [] = []
by_turns on (t ∷ ts) = map (λ w. t ∷ w) (on t) ++ by_turns on ts

-- all walks that the number counts
abbrev walks_of : Network → ℕ → Option End → List (List ℤ)
walks_of n m None = []
walks_of n zero (Some e) = [] ∷ []
walks_of n (suc m) (Some e) = [] ∷ by_turns (λ t. walks_of n m (turned n (Some e) t)) onward_turns

turns-length : (on : ℤ → List (List ℤ)) (count : ℤ → ℕ) (ts : List ℤ) → ((t : ℤ) → length (on t) ≡ count t) → length (by_turns on ts) ≡ total (map count ts)
turns-length on count [] same = refl
turns-length on count (t ∷ ts) same =
    let rest = turns-length on count ts same in
    let here = same t in
    let first = length-map (on t) (λ w. t ∷ w) in
    length-append (map (λ w. t ∷ w) (on t)) (by_turns on ts) ∙ (let e : length (map (λ w. t ∷ w) (on t)) + length (by_turns on ts) ≡ count t + total (map count ts) = omega arith in e)

walks-length : (n : Network) (m : ℕ) (entered : Option End) → length (walks_of n m entered) ≡ walks_from n m entered
walks-length n m None = refl
walks-length n zero (Some e) = refl
walks-length n (suc m) (Some e) =
    let rest = turns-length (λ t. walks_of n m (turned n (Some e) t)) (λ t. walks_from n m (turned n (Some e) t)) onward_turns (λ t. walks-length n m (turned n (Some e) t)) in
    by (length (by_turns (λ t. walks_of n m (turned n (Some e) t)) onward_turns)) (total (map (λ t. walks_from n m (turned n (Some e) t)) onward_turns)) rest
  where
    by : (a b : ℕ) → a ≡ b → suc a ≡ 1 + b
    by a b p = omega arith

-- a walk from an end: as the law says of a walk from a host
record Goes (n : Network) (m : ℕ) (entered : Option End) (w : List ℤ) : Type 0 where
  pub onward : AllByRecursion IsOnward w
  pub few : length w ≤ m
  pub found : place_at (entered_after n entered w) ≢ Nothing

there : (e : End) → place_at (Some e) ≢ Nothing
there e p = by e.v p
  where
    by : (v : Vertex) → place_at_vertex v e.p ≢ Nothing
    by (Host h) q = cc
    by (Switch s) q = cc

pub stuck : (n : Network) (w : List ℤ) → entered_after n None w ≡ None
stuck n [] = refl
stuck n (t ∷ w) = stuck n w

-- tests of the 30 turns
pub onward-member : (t : ℤ) → IsOnward t → IsMember t onward_turns
onward-member t on = listed t onward_turns (onward-pass (λ s. list_any (int_eq s) onward_turns) t refl on)
  where
    listed : (s : ℤ) (ts : List ℤ) → list_any (int_eq s) ts ≡ true → IsMember s ts
    listed s [] e = false≢true e
    listed s (x ∷ xs) e = by (or_cases (int_eq s x) (list_any (int_eq s) xs) e) (listed s xs)
      where
        by : (int_eq s x ≡ true) ⊎ (list_any (int_eq s) xs ≡ true) → (list_any (int_eq s) xs ≡ true → IsMember s xs) → (s ≡ x) ⊎ IsMember s xs
        by (inl p) rest = inl ((Decides-int_eq s x).0 p)
        by (inr p) rest = inr (rest p)

abbrev is_other : ℤ → Bool
is_other t = is_turn t && not (int_eq t (pos 0))

pub all-onward : AllByRecursion IsOnward onward_turns
all-onward = by onward_turns refl
  where
    by : (ts : List ℤ) → list_all is_other ts ≡ true → AllByRecursion IsOnward ts
    by [] e = tt
    by (t ∷ ts) e =
        let two = and_parts (is_other t) (list_all is_other ts) e in
        let parts = and_parts (is_turn t) (not (int_eq t (pos 0))) two.0 in
        ((parts.0, (λ z. true≢false (sym parts.1 ∙ ap (λ s. not (int_eq s (pos 0))) z))), by ts two.1)

abbrev are_apart : List ℤ → Bool
are_apart [] = true
are_apart (t ∷ ts) = not (list_any (int_eq t) ts) && are_apart ts

turns_apart : Apart onward_turns
turns_apart = by onward_turns refl
  where
    new : (t : ℤ) (ts : List ℤ) → not (list_any (int_eq t) ts) ≡ true → AllByRecursion (λ s. t ≢ s) ts
    new t [] e = tt
    new t (s ∷ ts) e = step (int_eq t s) refl e (new t ts)
      where
        step : (b : Bool) → int_eq t s ≡ b → not (b || list_any (int_eq t) ts) ≡ true → (not (list_any (int_eq t) ts) ≡ true → AllByRecursion (λ s. t ≢ s) ts) → AllByRecursion (λ s. t ≢ s) (s ∷ ts)
        step true p f rest = absurd (false≢true f)
        step false p f rest = ((λ z. true≢false (sym ((Decides-int_eq t s).1 z) ∙ p)), rest f)

    by : (ts : List ℤ) → are_apart ts ≡ true → Apart ts
    by [] e = tt
    by (t ∷ ts) e = let two = and_parts (not (list_any (int_eq t) ts)) (are_apart ts) e in (new t ts two.0, by ts two.1)

-- each of the list goes on
each-turn : (P : List ℤ → Type 0) (on : ℤ → List (List ℤ)) (ts : List ℤ) → ((t : ℤ) → IsMember t ts → AllByRecursion (λ w. P (t ∷ w)) (on t)) → AllByRecursion P (by_turns on ts)
each-turn P on [] f = tt
each-turn P on (t ∷ ts) f = all-join P (map (λ w. t ∷ w) (on t)) (by_turns on ts) (all-map P (λ w. t ∷ w) (on t) (f t (inl refl))) (each-turn P on ts (λ s m. f s (inr m)))

each-goes : (n : Network) (m : ℕ) (entered : Option End) → AllByRecursion (Goes n m entered) (walks_of n m entered)
each-goes n m None = tt
each-goes n zero (Some e) = (record { onward = tt; few = omega arith; found = there e }, tt)
each-goes n (suc m) (Some e) = (
  record { onward = tt; few = omega arith; found = there e },
  each-turn (Goes n (suc m) (Some e)) (λ t. walks_of n m (turned n (Some e) t)) onward_turns (λ t i. all-weaker (Goes n m (turned n (Some e) t)) (λ w. Goes n (suc m) (Some e) (t ∷ w)) (walks_of n m (turned n (Some e) t)) (longer t (all-member IsOnward t onward_turns all-onward i)) (each-goes n m (turned n (Some e) t))),
)
  where
    longer : (t : ℤ) → IsOnward t → (w : List ℤ) → Goes n m (turned n (Some e) t) w → Goes n (suc m) (Some e) (t ∷ w)
    longer t on w g = record { onward = (on, g.onward); few = (let l = g.few in omega arith); found = g.found }

-- and each that goes on is in the list
turn-listed : (on : ℤ → List (List ℤ)) (t : ℤ) (w : List ℤ) (ts : List ℤ) → IsMember t ts → IsMember w (on t) → IsMember (t ∷ w) (by_turns on ts)
turn-listed on t w [] i m = absurd i
turn-listed on t w (s ∷ ts) (inl e) m =
    member-left (t ∷ w) (map (λ w. s ∷ w) (on s)) (by_turns on ts) (subst (λ r. IsMember (t ∷ w) (map (λ w. r ∷ w) (on r))) e (member-map (λ w. t ∷ w) w (on t) m))
turn-listed on t w (s ∷ ts) (inr i) m = member-right (t ∷ w) (map (λ w. s ∷ w) (on s)) (by_turns on ts) (turn-listed on t w ts i m)

goes-listed : (n : Network) (m : ℕ) (entered : Option End) (w : List ℤ) → Goes n m entered w → IsMember w (walks_of n m entered)
goes-listed n m None w g = absurd (g.found (ap place_at (stuck n w)))
goes-listed n zero (Some e) [] g = inl refl
goes-listed n (suc m) (Some e) [] g = inl refl
goes-listed n zero (Some e) (t ∷ w) g = let l = g.few in absurd (omega arith)
goes-listed n (suc m) (Some e) (t ∷ w) g =
    inr (turn-listed (λ s. walks_of n m (turned n (Some e) s)) t w onward_turns (onward-member t g.onward.0) (goes-listed n m (turned n (Some e) t) w (record { onward = g.onward.1; few = (let l = g.few in omega arith); found = g.found })))

-- no walk stands twice
begins-with : (t : ℤ) (on : ℤ → List (List ℤ)) (ts : List ℤ) (w : List ℤ) → AllByRecursion (λ s. t ≢ s) ts → AllByRecursion (λ v. t ∷ w ≢ v) (by_turns on ts)
begins-with t on [] w d = tt
begins-with t on (s ∷ ts) w d = all-join (λ v. t ∷ w ≢ v) (map (λ v. s ∷ v) (on s)) (by_turns on ts) (all-map (λ v. t ∷ w ≢ v) (λ v. s ∷ v) (on s) (all-from-members (λ v. t ∷ w ≢ s ∷ v) (on s) (λ v m e. d.0 (let one : t ≡ s = cc in one)))) (begins-with t on ts w d.1)

turns-once : (on : ℤ → List (List ℤ)) (ts : List ℤ) → Apart ts → ((t : ℤ) → Apart (on t)) → Apart (by_turns on ts)
turns-once on [] a each = tt
turns-once on (t ∷ ts) a each =
    apart-join (map (λ w. t ∷ w) (on t)) (by_turns on ts) (apart-map (λ w. t ∷ w) (on t) (λ v w d e. d (let one : v ≡ w = cc in one)) (each t)) (turns-once on ts a.1 each) (all-map (λ v. AllByRecursion (λ w. v ≢ w) (by_turns on ts)) (λ w. t ∷ w) (on t) (all-from-members (λ w. AllByRecursion (λ v. t ∷ w ≢ v) (by_turns on ts)) (on t) (λ w m. begins-with t on ts w a.0)))

none-empty : (on : ℤ → List (List ℤ)) (ts : List ℤ) → AllByRecursion (λ v. [] ≢ v) (by_turns on ts)
none-empty on ts = each-turn (λ v. [] ≢ v) on ts (λ t m. all-from-members (λ w. [] ≢ t ∷ w) (on t) (λ w k e. cc))

walks-once : (n : Network) (m : ℕ) (entered : Option End) → Apart (walks_of n m entered)
walks-once n m None = tt
walks-once n zero (Some e) = (tt, tt)
walks-once n (suc m) (Some e) = (none-empty (λ t. walks_of n m (turned n (Some e) t)) onward_turns, turns-once (λ t. walks_of n m (turned n (Some e) t)) onward_turns turns_apart (λ t. walks-once n m (turned n (Some e) t)))

-- the law
counted-goes : (n : Network) (host m : ℕ) (w : List ℤ) → IsCounted n host m w → Goes n m (far n (host_port host)) w
counted-goes n host m w c = record { onward = c.onward; few = c.few; found = c.found }

goes-counted : (n : Network) (host m : ℕ) (w : List ℤ) → Goes n m (far n (host_port host)) w → IsCounted n host m w
goes-counted n host m w g = record { onward = g.onward; few = g.few; found = g.found }

pub walks_are_counted : WalksAreCounted
walks_are_counted n host =
    let m = most_turns n host in
    let first = far n (host_port host) in (
      walks_of n m first,
      record {
        once = walks-once n m first;
        each = all-weaker (Goes n m first) (IsCounted n host m) (walks_of n m first) (goes-counted n host m) (each-goes n m first);
        whole = λ w c. member-place w (walks_of n m first) (goes-listed n m first w (counted-goes n host m w c));
      },
      walks-length n m first,
    )

-- different walks are no more than those of the list
turns-equiv : IsEquivalence same_turns
turns-equiv = record { refl = same_turns-refl; symm = both_ways; congr = λ v w x e. ap (λ u. same_turns u x) (same_turns-true v w e) }
  where
    other : (v w : List ℤ) → same_turns v w ≡ true → same_turns w v ≡ true
    other v w e = ap (λ u. same_turns u v) (sym (same_turns-true v w e)) ∙ same_turns-refl v

    both_ways : (v w : List ℤ) → same_turns v w ≡ same_turns w v
    both_ways v w = by (same_turns v w) (same_turns w v) refl refl
      where
        by : (s t : Bool) → same_turns v w ≡ s → same_turns w v ≡ t → s ≡ t
        by true t p q = sym (other v w p) ∙ q
        by false true p q = sym p ∙ other w v q
        by false false p q = refl

member-any : (w : List ℤ) (ws : List (List ℤ)) → IsMember w ws → list_any (same_turns w) ws ≡ true
member-any w [] m = absurd m
member-any w (v ∷ vs) (inl e) = or-left (same_turns w v) (list_any (same_turns w) vs) (ap (same_turns w) (sym e) ∙ same_turns-refl w)
member-any w (v ∷ vs) (inr m) = or-right (same_turns w v) (list_any (same_turns w) vs) (member-any w vs m)

any-member : (w : List ℤ) (ws : List (List ℤ)) → list_any (same_turns w) ws ≡ true → IsMember w ws
any-member w [] e = false≢true e
any-member w (v ∷ vs) e = by (or_cases (same_turns w v) (list_any (same_turns w) vs) e) (any-member w vs)
  where
    by : (same_turns w v ≡ true) ⊎ (list_any (same_turns w) vs ≡ true) → (list_any (same_turns w) vs ≡ true → IsMember w vs) → (w ≡ v) ⊎ IsMember w vs
    by (inl p) rest = inl (same_turns-true w v p)
    by (inr p) rest = inr (rest p)

distinct : (ws : List (List ℤ)) → Apart ws → IsDistinct same_turns ws
unfolding IsDistinct
distinct [] a = tt
distinct (w ∷ ws) a = (all-weaker (λ v. w ≢ v) (λ v. same_turns w v ≡ false) ws (λ v d. same_turns-false w v d) a.0, distinct ws a.1)

pub walks_are_few : WalksAreFew
walks_are_few n host ws apart each =
    let m = most_turns n host in
    let first = far n (host_port host) in
    let most : length ws ≤ length (walks_of n m first) = length-le_from_is_member turns-equiv ws (walks_of n m first) (distinct ws apart) (λ w e. member-any w (walks_of n m first) (goes-listed n m first w (counted-goes n host m w (all-member (IsCounted n host m) w ws each (any-member w ws e))))) in
    let same = walks-length n m first in
    omega arith
