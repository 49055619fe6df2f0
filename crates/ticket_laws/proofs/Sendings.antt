-- The send under a token in a queue, once a send joined the queue or left it.
use Rattle.std.proofs.Common.{◌≡◌, ◌≢◌, ℕ, zero, suc, Bool, true, false, List, [], ◌∷◌, map, nat_eq, nat_lt, Option, Some, None, refl, sym, ap, ◌∙◌, subst, arith, if◌then◌else◌}
use Rattle.std.specs.Prelude.{find, slice_get}
use Rattle.std.specs.List.{AllByRecursion}
use Rattle.std.proofs.lemmas.Bool.Decides.{nat_tests}
use Rattle.net_defs.specs.Network.{Apart}
use Rattle.gm_defs.specs.Token.{Sending, PortState}
use Rattle.gm_defs.specs.Port.{without_first, with_send, send_of, ended_by, finished}

-- the send under a token
abbrev pub under : ℕ → List Sending → Option Sending
under t xs = find (λ s. nat_eq s.token t) xs

abbrev pub tokens : List Sending → List ℕ
tokens xs = map (λ s. s.token) xs

is-same : (a b : ℕ) → a ≡ b → nat_eq a b ≡ true
is-same a b e = grind (arith, nat_tests)

is-other : (a b : ℕ) → a ≢ b → nat_eq a b ≡ false
is-other a b e = by (nat_eq a b) refl
  where
    by : (t : Bool) → nat_eq a b ≡ t → nat_eq a b ≡ false
    by true t = absurd (e (grind (arith, nat_tests)))
    by false t = t

under-here : (t : ℕ) (x : Sending) (xs : List Sending) → x.token ≡ t → under t (x ∷ xs) ≡ Some x
under-here t x xs e = ap (λ b. if b then Some x else under t xs) (is-same x.token t e)

under-past : (t : ℕ) (x : Sending) (xs : List Sending) → x.token ≢ t → under t (x ∷ xs) ≡ under t xs
under-past t x xs e = ap (λ b. if b then Some x else under t xs) (is-other x.token t e)

pub under-none : (t : ℕ) (xs : List Sending) → AllByRecursion (λ y. t ≢ y) (tokens xs) → under t xs ≡ None
under-none t [] all = refl
under-none t (x ∷ xs) all = under-past t x xs (λ e. all.0 (sym e)) ∙ under-none t xs all.1

-- some send stands under the token of each
pub under-some : (xs : List Sending) (i : ℕ) (s : Sending) → slice_get xs i ≡ Some s → (y : Sending) × (under s.token xs ≡ Some y)
under-some [] i s e = cc
under-some (x ∷ xs) zero s e = let same : x ≡ s = cc in (x, under-here s.token x xs (ap (λ z. z.token) same))
under-some (x ∷ xs) (suc i) s e = by (nat_eq x.token s.token) refl (under-some xs i s e)
  where
    by : (b : Bool) → nat_eq x.token s.token ≡ b → (y : Sending) × (under s.token xs ≡ Some y) → (y : Sending) × (under s.token (x ∷ xs) ≡ Some y)
    by true b rest = (x, under-here s.token x xs (grind (arith, nat_tests)))
    by false b rest = let other : x.token ≢ s.token = λ d. absurd (grind (arith, nat_tests)) in (rest.0, under-past s.token x xs other ∙ rest.1)

-- one leaves
abbrev without : ℕ → List Sending → List Sending
without t xs = without_first (λ x. nat_eq x.token t) xs

without-here : (t : ℕ) (x : Sending) (xs : List Sending) → x.token ≡ t → without t (x ∷ xs) ≡ xs
without-here t x xs e = ap (λ b. if b then xs else x ∷ without t xs) (is-same x.token t e)

without-past : (t : ℕ) (x : Sending) (xs : List Sending) → x.token ≢ t → without t (x ∷ xs) ≡ x ∷ without t xs
without-past t x xs e = ap (λ b. if b then xs else x ∷ without t xs) (is-other x.token t e)

pub under-left : (t u : ℕ) (xs : List Sending) → u ≢ t → under u (without t xs) ≡ under u xs
under-left t u [] other = refl
under-left t u (x ∷ xs) other = by (nat_eq x.token t) (nat_eq x.token u) refl refl (under-left t u xs other)
  where
    by : (a b : Bool) → nat_eq x.token t ≡ a → nat_eq x.token u ≡ b → under u (without t xs) ≡ under u xs → under u (without t (x ∷ xs)) ≡ under u (x ∷ xs)
    by true b e f rest =
        let same : x.token ≡ t = grind (arith, nat_tests) in
        let past : x.token ≢ u = λ d. other (sym d ∙ same) in
        ap (under u) (without-here t x xs same) ∙ sym (under-past u x xs past)
    by false true e f rest =
        let apart : x.token ≢ t = λ d. absurd (grind (arith, nat_tests)) in
        let here : x.token ≡ u = grind (arith, nat_tests) in
        ap (under u) (without-past t x xs apart) ∙ (under-here u x (without t xs) here ∙ sym (under-here u x xs here))
    by false false e f rest =
        let apart : x.token ≢ t = λ d. absurd (grind (arith, nat_tests)) in
        let past : x.token ≢ u = λ d. absurd (grind (arith, nat_tests)) in
        ap (under u) (without-past t x xs apart) ∙ (under-past u x (without t xs) past ∙ (rest ∙ sym (under-past u x xs past)))

pub under-gone : (t : ℕ) (xs : List Sending) → Apart (tokens xs) → under t (without t xs) ≡ None
under-gone t [] apart = refl
under-gone t (x ∷ xs) apart = by (nat_eq x.token t) refl (under-gone t xs apart.1)
  where
    by : (b : Bool) → nat_eq x.token t ≡ b → under t (without t xs) ≡ None → under t (without t (x ∷ xs)) ≡ None
    by true e rest =
        let same : x.token ≡ t = grind (arith, nat_tests) in
        ap (under t) (without-here t x xs same) ∙ under-none t xs (subst (λ z. AllByRecursion (λ y. z ≢ y) (tokens xs)) same apart.0)
    by false e rest =
        let past : x.token ≢ t = λ d. absurd (grind (arith, nat_tests)) in
        ap (under t) (without-past t x xs past) ∙ (under-past t x (without t xs) past ∙ rest)

all-left : (P : ℕ → Type 0) (t : ℕ) (xs : List Sending) → AllByRecursion P (tokens xs) → AllByRecursion P (tokens (without t xs))
all-left P t [] all = tt
all-left P t (x ∷ xs) all = by (nat_eq x.token t) (all-left P t xs all.1)
  where
    by : (b : Bool) → AllByRecursion P (tokens (without t xs)) → AllByRecursion P (tokens (if b then xs else x ∷ without t xs))
    by true rest = all.1
    by false rest = (all.0, rest)

pub apart-left : (t : ℕ) (xs : List Sending) → Apart (tokens xs) → Apart (tokens (without t xs))
apart-left t [] apart = tt
apart-left t (x ∷ xs) apart = by (nat_eq x.token t) (apart-left t xs apart.1)
  where
    by : (b : Bool) → Apart (tokens (without t xs)) → Apart (tokens (if b then xs else x ∷ without t xs))
    by true rest = apart.1
    by false rest = (all-left (λ y. x.token ≢ y) t xs apart.0, rest)

-- one joins
pub under-joined : (s : Sending) (u : ℕ) (xs : List Sending) → u ≢ s.token → under u (with_send s xs) ≡ under u xs
under-joined s u [] other = under-past u s [] (λ e. other (sym e))
under-joined s u (x ∷ xs) other = by (nat_lt s.token x.token) (under-joined s u xs other)
  where
    by : (b : Bool) → under u (with_send s xs) ≡ under u xs → under u (if b then s ∷ x ∷ xs else x ∷ with_send s xs) ≡ under u (x ∷ xs)
    by true rest = under-past u s (x ∷ xs) (λ e. other (sym e))
    by false rest = ap (λ o. if nat_eq x.token u then Some x else o) rest

pub under-new : (s : Sending) (xs : List Sending) → under s.token xs ≡ None → under s.token (with_send s xs) ≡ Some s
under-new s [] none = under-here s.token s [] refl
under-new s (x ∷ xs) none = by (nat_eq x.token s.token) refl (under-new s xs)
  where
    with : Bool → List Sending
    with b = if b then s ∷ x ∷ xs else x ∷ with_send s xs

    by : (b : Bool) → nat_eq x.token s.token ≡ b → (under s.token xs ≡ None → under s.token (with_send s xs) ≡ Some s) → under s.token (with_send s (x ∷ xs)) ≡ Some s
    by true e rest =
        let same : x.token ≡ s.token = grind (arith, nat_tests) in
        let bad : Some x ≡ None = sym (under-here s.token x xs same) ∙ none in
        cc
    by false e rest =
        let past : x.token ≢ s.token = λ d. absurd (grind (arith, nat_tests)) in
        let then_none : under s.token xs ≡ None = sym (under-past s.token x xs past) ∙ none in
        either (nat_lt s.token x.token) (under-past s.token x (with_send s xs) past ∙ rest then_none)
      where
        either : (c : Bool) → under s.token (x ∷ with_send s xs) ≡ Some s → under s.token (with c) ≡ Some s
        either true d = under-here s.token s (x ∷ xs) refl
        either false d = d

-- the queue of a port of which a send is finished
pub finished-queue : (p : PortState) (t : ℕ) (s : Sending) → send_of p t ≡ Some s → (finished p t).queue ≡ without t p.queue
finished-queue p t s e = ap (λ o. (ended_by p t o).queue) e

-- a token under which nothing stands isn't there
none-apart : (t : ℕ) (xs : List Sending) → under t xs ≡ None → AllByRecursion (λ y. t ≢ y) (tokens xs)
none-apart t [] e = tt
none-apart t (x ∷ xs) e = by (nat_eq x.token t) refl (none-apart t xs)
  where
    by : (b : Bool) → nat_eq x.token t ≡ b → (under t xs ≡ None → AllByRecursion (λ y. t ≢ y) (tokens xs)) → AllByRecursion (λ y. t ≢ y) (tokens (x ∷ xs))
    by true d rest =
        let same : x.token ≡ t = grind (arith, nat_tests) in
        let bad : Some x ≡ None = sym (under-here t x xs same) ∙ e in
        cc
    by false d rest =
        let past : x.token ≢ t = λ f. absurd (grind (arith, nat_tests)) in
        ((λ f. past (sym f)), rest (sym (under-past t x xs past) ∙ e))

all-joined : (P : ℕ → Type 0) (s : Sending) (xs : List Sending) → P s.token → AllByRecursion P (tokens xs) → AllByRecursion P (tokens (with_send s xs))
all-joined P s [] here all = (here, tt)
all-joined P s (x ∷ xs) here all = by (nat_lt s.token x.token) (all-joined P s xs here all.1)
  where
    by : (b : Bool) → AllByRecursion P (tokens (with_send s xs)) → AllByRecursion P (tokens (if b then s ∷ x ∷ xs else x ∷ with_send s xs))
    by true rest = (here, all)
    by false rest = (all.0, rest)

pub apart-joined : (s : Sending) (xs : List Sending) → Apart (tokens xs) → under s.token xs ≡ None → Apart (tokens (with_send s xs))
apart-joined s [] apart none = (tt, tt)
apart-joined s (x ∷ xs) apart none = by (nat_lt s.token x.token) (apart-joined s xs apart.1)
  where
    others : AllByRecursion (λ y. s.token ≢ y) (tokens (x ∷ xs))
    others = none-apart s.token (x ∷ xs) none

    past : x.token ≢ s.token
    past = λ f. others.0 (sym f)

    by : (b : Bool) → (under s.token xs ≡ None → Apart (tokens (with_send s xs))) → Apart (tokens (if b then s ∷ x ∷ xs else x ∷ with_send s xs))
    by true rest = (others, apart)
    by false rest = (all-joined (λ y. x.token ≢ y) s xs past apart.0, rest (sym (under-past s.token x xs past) ∙ none))
