-- A list with one element more, wherever that stands: the numbers of the list stand there once each, or do not, whatever the place.
use Rattle.std.proofs.Common.{◌≡◌, ◌≢◌, ◌<◌, ◌≤◌, ◌+◌, ℕ, zero, suc, List, [], ◌∷◌, ◌++◌, length, refl, sym, ◌∙◌, ap, arith}
use Rattle.std.specs.List.{AllByRecursion, range_with_len}
use Rattle.net_defs.specs.Network.{Apart}
use Rattle.world_defs.specs.Sound.{IsEachOnce}

-- the first list is the second with a number more, at some place
pub data Into (t : ℕ) : List ℕ → List ℕ → Type 0 where
  here : {rest : List ℕ} → Into t (t ∷ rest) rest
  behind : {x : ℕ} {more rest : List ℕ} → Into t more rest → Into t (x ∷ more) (x ∷ rest)

pub into-left : {t : ℕ} (xs ys zs : List ℕ) → Into t xs ys → Into t (xs ++ zs) (ys ++ zs)
into-left xs ys zs here = here
into-left xs ys zs (behind {x} {more} {rest} i) = behind (into-left more rest zs i)

pub into-right : {t : ℕ} (zs xs ys : List ℕ) → Into t xs ys → Into t (zs ++ xs) (zs ++ ys)
into-right [] xs ys i = i
into-right (z ∷ zs) xs ys i = behind (into-right zs xs ys i)

pub into-end : (t : ℕ) (xs : List ℕ) → Into t (xs ++ t ∷ []) xs
into-end t [] = here
into-end t (x ∷ xs) = behind (into-end t xs)

-- what holds of each
all-in : {t : ℕ} (P : ℕ → Type 0) (xs ys : List ℕ) → Into t xs ys → AllByRecursion P xs → P t × AllByRecursion P ys
all-in P xs ys here all = all
all-in P xs ys (behind {x} {more} {rest} i) all = let r = all-in P more rest i all.1 in (r.0, (all.0, r.1))

all-out : {t : ℕ} (P : ℕ → Type 0) (xs ys : List ℕ) → Into t xs ys → P t → AllByRecursion P ys → AllByRecursion P xs
all-out P xs ys here p all = (p, all)
all-out P xs ys (behind {x} {more} {rest} i) p all = (all.0, all-out P more rest i p all.1)

length-in : {t : ℕ} (xs ys : List ℕ) → Into t xs ys → length xs ≡ suc (length ys)
length-in xs ys here = refl
length-in xs ys (behind {x} {more} {rest} i) = ap suc (length-in more rest i)

apart-in : {t : ℕ} (xs ys : List ℕ) → Into t xs ys → Apart xs → AllByRecursion (λ y. t ≢ y) ys × Apart ys
apart-in xs ys here a = a
apart-in {t} xs ys (behind {x} {more} {rest} i) a =
    let first = all-in (λ y. x ≢ y) more rest i a.0 in
    let r = apart-in more rest i a.1 in
    let other : t ≢ x = λ e. first.0 (sym e) in
    ((other, r.0), (first.1, r.1))

apart-out : {t : ℕ} (xs ys : List ℕ) → Into t xs ys → AllByRecursion (λ y. t ≢ y) ys → Apart ys → Apart xs
apart-out xs ys here n a = (n, a)
apart-out {t} xs ys (behind {x} {more} {rest} i) n a =
    let other : x ≢ t = λ e. n.0 (sym e) in
    (all-out (λ y. x ≢ y) more rest i other a.0, apart-out more rest i n.1 a.1)

-- a number that goes from one place to another
pub once-moved : (count t : ℕ) (xs ys rest : List ℕ) → Into t xs rest → Into t ys rest → IsEachOnce count xs → IsEachOnce count ys
once-moved count t xs ys rest i j is =
    let apart = apart-in xs rest i is.once in
    let below = all-in (λ k. k < count) xs rest i is.below in
    record {
      once = apart-out ys rest j apart.0 apart.1;
      below = all-out (λ k. k < count) ys rest j below.0 below.1;
      all = length-in ys rest j ∙ (sym (length-in xs rest i) ∙ is.all);
    }

-- the numbers from one on
above : (a b n : ℕ) → a < b → AllByRecursion (λ y. a ≢ y) (range_with_len b n ++ [])
above a b zero low = tt
above a b (suc n) low = ((λ e. absurd (omega (arith, e, low))), above a (b + 1) n (omega (arith, low)))

range-apart : (a n : ℕ) → Apart (range_with_len a n ++ [])
range-apart a zero = tt
range-apart a (suc n) = (above a (a + 1) n (omega arith), range-apart (a + 1) n)

range-below : (a n top : ℕ) → a + n ≤ top → AllByRecursion (λ t. t < top) (range_with_len a n ++ [])
range-below a zero top low = tt
range-below a (suc n) top low = (omega (arith, low), range-below (a + 1) n top (omega (arith, low)))

range-long : (a n : ℕ) → length (range_with_len a n ++ []) ≡ n
range-long a zero = refl
range-long a (suc n) = ap suc (range-long (a + 1) n)

pub once-new : (n : ℕ) → IsEachOnce n (range_with_len 0 n ++ [])
once-new n = record { once = range-apart 0 n; below = range-below 0 n n (omega arith); all = range-long 0 n }
