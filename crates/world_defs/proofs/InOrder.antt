-- Limbo as an ordered map keeps it.
use Rattle.std.proofs.Common.{◌≡◌, ◌<◌, ◌≤◌, ℕ, Bool, true, false, List, [], ◌∷◌, ◌++◌, nat_eq, nat_lt, nat_le, Option, Some, None, IsSome, option_map, refl, ap, subst, ◌∙◌, arith, if◌then◌else◌}
use Rattle.std.specs.Ordering.{nat_cmp, match_ordering, is_eq}
use Rattle.std.specs.declared.cmp.Ordering.TheVariants.{Less, Equal, Greater}
use Rattle.std.specs.List.{AllByRecursion, find}
use Rattle.std.specs.Map.{lookup, remove_entry}
use Rattle.std.specs.BTreeMap.{insert_entry, is_at}
use Rattle.std.proofs.lemmas.Bool.Decides.{nat_tests}
use Rattle.net_defs.proofs.Distinct.{all-weaker}
use Rattle.world_defs.specs.Links.{Caught, LinkState}
use Rattle.world_defs.specs.Fault.{caught_as, next_limbo}
use Rattle.world_defs.specs.Shape.{Rise}

above : (a b : ℕ) → b < a → nat_cmp a b ≡ Greater
above a b h =
    let no : nat_lt a b ≡ false = grind (arith, nat_tests) in
    let differ : nat_eq a b ≡ false = grind (arith, nat_tests) in
    rw (no, differ) refl

same_test : (a b : ℕ) → is_at (nat_cmp a) b ≡ nat_eq a b
same_test a b = by (nat_lt a b) (nat_eq a b) refl refl
  where
    by : (t u : Bool) → nat_lt a b ≡ t → nat_eq a b ≡ u → is_eq (if t then Less else if u then Equal else Greater) ≡ u
    by true true p q = absurd (grind (arith, nat_tests))
    by true false p q = refl
    by false true p q = refl
    by false false p q = refl

pub insert-last : (limbo : List (ℕ × Caught)) (serial : ℕ) (caught : Caught) → AllByRecursion (λ e. e.0 < serial) limbo → insert_entry nat_cmp limbo serial caught ≡ limbo ++ (serial, caught) ∷ []
insert-last [] serial caught low = refl
insert-last (e ∷ limbo) serial caught low =
    ap (λ o. match_ordering o ((serial, caught) ∷ e ∷ limbo) ((e.0, caught) ∷ limbo) (e ∷ insert_entry nat_cmp limbo serial caught)) (above serial e.0 low.0)
    ∙ ap (λ l. e ∷ l) (insert-last limbo serial caught low.1)

pub lookup-order : (limbo : List (ℕ × Caught)) (serial : ℕ) → lookup (is_at (nat_cmp serial)) limbo ≡ lookup (nat_eq serial) limbo
lookup-order limbo serial = λ i. lookup (λ k. same_test serial k i) limbo

pub remove-order : (limbo : List (ℕ × Caught)) (serial : ℕ) → remove_entry (is_at (nat_cmp serial)) limbo ≡ remove_entry (nat_eq serial) limbo
remove-order limbo serial = λ i. remove_entry (λ k. same_test serial k i) limbo

-- the first serial that isn't below a number
abbrev first_from : ℕ → List (ℕ × Caught) → Option ℕ
first_from from es = option_map (λ e. e.0) (find (λ e. nat_le from e.0) es)

-- What the first has: it isn't below, it is there, and it is least.
abbrev IsFirst : ℕ → ℕ → List (ℕ × Caught) → Type 0
IsFirst from serial es = (from ≤ serial) × IsSome (lookup (nat_eq serial) es) × AllByRecursion (λ e. from ≤ e.0 → serial ≤ e.0) es

there_after : (e : ℕ × Caught) (es : List (ℕ × Caught)) (serial : ℕ) → IsSome (lookup (nat_eq serial) es) → IsSome (lookup (nat_eq serial) (e ∷ es))
there_after e es serial is = by (nat_eq serial e.0)
  where
    by : (t : Bool) → IsSome (if t then Some e.1 else lookup (nat_eq serial) es)
    by true = refl
    by false = is

there_first : (e : ℕ × Caught) (es : List (ℕ × Caught)) → IsSome (lookup (nat_eq e.0) (e ∷ es))
there_first e es = let same : nat_eq e.0 e.0 ≡ true = grind (arith, nat_tests) in rw same refl

first-least : (from serial : ℕ) (es : List (ℕ × Caught)) → Rise es → first_from from es ≡ Some serial → IsFirst from serial es
first-least from serial [] rise is = cc
first-least from serial (e ∷ es) rise is = by (nat_le from e.0) refl is (first-least from serial es rise.1)
  where
    by : (t : Bool) → nat_le from e.0 ≡ t → option_map (λ d. d.0) (if t then Some e else find (λ d. nat_le from d.0) es) ≡ Some serial → (first_from from es ≡ Some serial → IsFirst from serial es) → IsFirst from serial (e ∷ es)
    by true t is rest =
        let same : e.0 ≡ serial = cc in
        let low : from ≤ e.0 = grind (arith, nat_tests) in
        let later : AllByRecursion (λ d. from ≤ d.0 → e.0 ≤ d.0) es = all-weaker (λ d. e.0 < d.0) (λ d. from ≤ d.0 → e.0 ≤ d.0) es (λ d h j. omega arith) rise.0 in
        subst (λ n. IsFirst from n (e ∷ es)) same (low, there_first e es, ((λ j. omega arith), later))
    by false t is rest =
        let r = rest is in
        let high : e.0 < from = grind (arith, nat_tests) in
        (r.0, there_after e es serial r.1, ((λ j. absurd (omega arith)), r.2))

first-none : (from : ℕ) (es : List (ℕ × Caught)) → first_from from es ≡ None → AllByRecursion (λ e. e.0 < from) es
first-none from [] is = tt
first-none from (e ∷ es) is = by (nat_le from e.0) refl is (first-none from es)
  where
    by : (t : Bool) → nat_le from e.0 ≡ t → option_map (λ d. d.0) (if t then Some e else find (λ d. nat_le from d.0) es) ≡ None → (first_from from es ≡ None → AllByRecursion (λ d. d.0 < from) es) → AllByRecursion (λ d. d.0 < from) (e ∷ es)
    by true t is rest = cc
    by false t is rest = (grind (arith, nat_tests), rest is)

pub next_limbo-least : (s : LinkState) (from serial : ℕ) → Rise s.limbo → next_limbo s from ≡ Some serial → (from ≤ serial) × IsSome (caught_as s serial) × AllByRecursion (λ e. from ≤ e.0 → serial ≤ e.0) s.limbo
next_limbo-least s from serial rise is = first-least from serial s.limbo rise is

pub next_limbo-none : (s : LinkState) (from : ℕ) → next_limbo s from ≡ None → AllByRecursion (λ e. e.0 < from) s.limbo
next_limbo-none s from is = first-none from s.limbo is
