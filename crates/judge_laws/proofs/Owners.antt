-- Tokens that stand once: those that the port hasn't are with the client, and no others.
use Rattle.std.proofs.Common.{◌≡◌, ◌≢◌, ◌<◌, ◌||◌, ℕ, Bool, true, false, List, [], ◌∷◌, ◌++◌, nat_eq, Option, Some, None, is_none, refl, sym, ap, ◌∙◌, subst, true≢false, arith, if◌then◌else◌}
use Rattle.std.specs.List.{AllByRecursion}
use Rattle.std.proofs.lemmas.Bool.Decides.{Decides-eqb}
use Rattle.net_defs.specs.Network.{Apart}
use Rattle.gm_defs.specs.declared.token.TokenPlace.{TokenPlace}
use Rattle.gm_defs.specs.declared.token.TokenPlace.TheVariants.{Event}
use Rattle.gm_defs.specs.Token.{has_number}
use Rattle.map_laws.proofs.Pigeons.{few-below}
use Rattle.world_defs.specs.Sound.{IsEachOnce}

-- a number of two lists
pub number-join : (xs ys : List ℕ) (t : ℕ) → has_number (xs ++ ys) t ≡ (has_number xs t || has_number ys t)
number-join [] ys t = refl
number-join (x ∷ xs) ys t = by (nat_eq t x) (number-join xs ys t)
  where
    by : (b : Bool) → has_number (xs ++ ys) t ≡ (has_number xs t || has_number ys t) → (b || has_number (xs ++ ys) t) ≡ ((b || has_number xs t) || has_number ys t)
    by true e = refl
    by false e = e

-- a number that isn't listed differs from all
none-apart : (t : ℕ) (xs : List ℕ) → has_number xs t ≡ false → AllByRecursion (λ y. t ≢ y) xs
none-apart t [] e = tt
none-apart t (x ∷ xs) e = by (nat_eq t x) refl e (none-apart t xs)
  where
    by : (b : Bool) → nat_eq t x ≡ b → (b || has_number xs t) ≡ false → (has_number xs t ≡ false → AllByRecursion (λ y. t ≢ y) xs) → AllByRecursion (λ y. t ≢ y) (x ∷ xs)
    by true p f rest = absurd (true≢false f)
    by false p f rest = (λ same. true≢false (sym ((Decides-eqb t x).1 same) ∙ p), rest f)

apart-none : (t : ℕ) (xs : List ℕ) → AllByRecursion (λ y. y ≢ t) xs → has_number xs t ≡ false
apart-none t [] all = refl
apart-none t (x ∷ xs) all = by (nat_eq t x) refl (apart-none t xs all.1)
  where
    by : (b : Bool) → nat_eq t x ≡ b → has_number xs t ≡ false → (b || has_number xs t) ≡ false
    by true p rest = absurd (all.0 (sym ((Decides-eqb t x).0 p)))
    by false p rest = rest

-- what holds of all of a list holds of each
pub number-holds : (P : ℕ → Type 0) (t : ℕ) (xs : List ℕ) → AllByRecursion P xs → has_number xs t ≡ true → P t
number-holds P t [] all e = absurd (true≢false (sym e))
number-holds P t (x ∷ xs) all e = by (nat_eq t x) refl e (number-holds P t xs all.1)
  where
    by : (b : Bool) → nat_eq t x ≡ b → (b || has_number xs t) ≡ true → (has_number xs t ≡ true → P t) → P t
    by true p f rest = subst P (sym ((Decides-eqb t x).0 p)) all.0
    by false p f rest = rest f

back-of : (P : ℕ → Type 0) (xs ys : List ℕ) → AllByRecursion P (xs ++ ys) → AllByRecursion P ys
back-of P [] ys all = all
back-of P (x ∷ xs) ys all = back-of P xs ys all.1

-- no number is in both parts of a list that has each once
differ-front : (t : ℕ) (zs ys : List ℕ) → Apart (zs ++ ys) → has_number ys t ≡ true → AllByRecursion (λ y. y ≢ t) zs
differ-front t [] ys apart e = tt
differ-front t (z ∷ zs) ys apart e = (number-holds (λ y. z ≢ y) t ys (back-of (λ y. z ≢ y) zs ys apart.0) e, differ-front t zs ys apart.1 e)

pub other-part : (t : ℕ) (xs ys : List ℕ) → Apart (xs ++ ys) → has_number ys t ≡ true → has_number xs t ≡ false
other-part t xs ys apart e = apart-none t xs (differ-front t xs ys apart e)

-- a list that has each number below a count once has all of them
pub has-each : (count t : ℕ) (ts : List ℕ) → IsEachOnce count ts → t < count → has_number ts t ≡ true
has-each count t ts once low = by (has_number ts t) refl
  where
    by : (b : Bool) → has_number ts t ≡ b → b ≡ true
    by true e = refl
    by false e =
        let few = few-below count (t ∷ ts) (none-apart t ts e, once.once) (low, once.below) in
        let whole = once.all in
        absurd (omega arith)

-- where a token stands, by whether it waits with the port
abbrev pub place_by : TokenPlace → Bool → Bool → Option TokenPlace
place_by first waits event = if waits then Some first else if event then Some Event else None

place-client : (first : TokenPlace) (held waits event : Bool) → (held || (waits || event)) ≡ true → ((waits || event) ≡ true → held ≡ false) → is_none (place_by first waits event) ≡ held
place-client first held true event some other = sym (other refl)
place-client first held false true some other = sym (other refl)
place-client first true false false some other = refl
place-client first false false false some other = absurd (true≢false (sym some))

-- a token below the count is with the client exactly where the port doesn't hold it
pub placed-right : (count t : ℕ) (first : TokenPlace) (held waits event : List ℕ) → IsEachOnce count (held ++ (waits ++ event)) → t < count
    → is_none (place_by first (has_number waits t) (has_number event t)) ≡ has_number held t
placed-right count t first held waits event once low =
    let all = sym (number-join held (waits ++ event) t ∙ ap (λ b. has_number held t || b) (number-join waits event t)) ∙ has-each count t (held ++ (waits ++ event)) once low in
    place-client first (has_number held t) (has_number waits t) (has_number event t) all (λ e. other-part t held (waits ++ event) once.once (number-join waits event t ∙ e))
