-- Bytes that count up.
use Rattle.std.proofs.Common.{◌≡◌, ◌≤◌, ℕ, zero, suc, ◌+◌, ◌*◌, ◌%◌, List, [], ◌∷◌, ◌++◌, map, length, take, drop, replicate, refl, sym, ap, subst, ◌∙◌, arith, length-take-le}
use Rattle.std.specs.List.{range_with_len, flat_map}
use Rattle.std.proofs.lemmas.List.{length-drop, length-append, length-map}
use Rattle.std.proofs.lemmas.List.FromFn.{length-range_with_len}
use Rattle.gm_defs.specs.Blob.{counted}

-- the first byte is this, and each is one more than the one before it, modulo 256
abbrev CountsUp : ℕ → List ℕ → Type 0
CountsUp due [] = Unit {0}
CountsUp due (b ∷ bs) = (b ≡ due % 256) × CountsUp (due + 1) bs

-- only the remainder of the first counts
same-remainder : (a b : ℕ) (bs : List ℕ) → a % 256 ≡ b % 256 → CountsUp a bs → CountsUp b bs
same-remainder a b [] e h = h
same-remainder a b (x ∷ bs) e h =
    let next : (a + 1) % 256 ≡ (b + 1) % 256 = omega (arith, e) in
    (h.0 ∙ e, same-remainder (a + 1) (b + 1) bs next h.1)

joined : (first : ℕ) (xs ys : List ℕ) → CountsUp first xs → CountsUp (first + length xs) ys → CountsUp first (xs ++ ys)
joined first [] ys h k = let none : first + 0 ≡ first = omega arith in subst (λ n. CountsUp n ys) none k
joined first (x ∷ xs) ys h k =
    let next : first + suc (length xs) ≡ first + 1 + length xs = omega arith in
    (h.0, joined (first + 1) xs ys h.1 (subst (λ n. CountsUp n ys) next k))

dropped : (first n : ℕ) (xs : List ℕ) → CountsUp first xs → CountsUp (first + n) (drop n xs)
dropped first zero xs h = let none : first ≡ first + 0 = omega arith in subst (λ n. CountsUp n xs) none h
dropped first (suc n) [] h = h
dropped first (suc n) (x ∷ xs) h =
    let next : first + 1 + n ≡ first + suc n = omega arith in
    subst (λ k. CountsUp k (drop n xs)) next (dropped (first + 1) n xs h.1)

taken : (first n : ℕ) (xs : List ℕ) → CountsUp first xs → CountsUp first (take n xs)
taken first zero xs h = tt
taken first (suc n) [] h = h
taken first (suc n) (x ∷ xs) h = (h.0, taken (first + 1) n xs h.1)

-- bytes that count up from a place are those of its numbers
are-bytes : (first at : ℕ) (bs : List ℕ) → CountsUp (first + at) bs → bs ≡ map (λ i. (first + i) % 256) (range_with_len at (length bs))
are-bytes first at [] h = refl
are-bytes first at (b ∷ bs) h =
    let next : first + at + 1 ≡ first + (at + 1) = omega arith in
    let rest : bs ≡ map (λ i. (first + i) % 256) (range_with_len (at + 1) (length bs)) =
    are-bytes first (at + 1) bs (subst (λ n. CountsUp n bs) next h.1) in
    ap (λ x. x ∷ bs) h.0 ∙ ap (λ x. (first + at) % 256 ∷ x) rest

bytes-count : (first at n : ℕ) → CountsUp (first + at) (map (λ i. (first + i) % 256) (range_with_len at n))
bytes-count first at zero = tt
bytes-count first at (suc n) =
    let next : first + (at + 1) ≡ first + at + 1 = omega arith in
    (refl, subst (λ k. CountsUp k (map (λ i. (first + i) % 256) (range_with_len (at + 1) n))) next (bytes-count first (at + 1) n))

is-counted : (first : ℕ) (bs : List ℕ) → CountsUp first bs → bs ≡ counted first (length bs)
is-counted first bs h = let none : first ≡ first + 0 = omega arith in are-bytes first 0 bs (subst (λ n. CountsUp n bs) none h)

counts : (first len : ℕ) → CountsUp first (counted first len)
counts first len = let none : first + 0 ≡ first = omega arith in subst (λ n. CountsUp n (counted first len)) none (bytes-count first 0 len)

pub counted-length : (first len : ℕ) → length (counted first len) ≡ len
counted-length first len = length-map (range_with_len 0 len) (λ i. (first + i) % 256) ∙ length-range_with_len 0 len

-- so many bytes that count up are those that are counted
so-many : (first n : ℕ) (bs : List ℕ) → CountsUp first bs → length bs ≡ n → bs ≡ counted first n
so-many first n bs h e = is-counted first bs h ∙ ap (counted first) e

pub take-counted : (first n len : ℕ) → n ≤ len → take n (counted first len) ≡ counted first n
take-counted first n len low =
    let there : n ≤ length (counted first len) = let e = counted-length first len in omega (arith, low, e) in
    so-many first n (take n (counted first len)) (taken first n (counted first len) (counts first len)) (length-take-le n (counted first len) there)

-- bytes that count on from where others end
pub counted-++ : (first len due n : ℕ) → due ≡ (first + len) % 256 → counted first len ++ counted due n ≡ counted first (len + n)
counted-++ first len due n is =
    let lens = counted-length first len in
    let on : due % 256 ≡ (first + length (counted first len)) % 256 = omega (arith, is, lens) in
    let both : CountsUp first (counted first len ++ counted due n) =
    joined first (counted first len) (counted due n) (counts first len)
    (same-remainder due (first + length (counted first len)) (counted due n) on (counts due n)) in
    let rests = counted-length due n in
    let all = length-append (counted first len) (counted due n) in
    let long : length (counted first len ++ counted due n) ≡ len + n = omega (arith, all, lens, rests) in
    so-many first (len + n) (counted first len ++ counted due n) both long

-- rounds of 256 bytes count up
rounds-count : (n : ℕ) (row : List ℕ) → CountsUp 0 row → length row ≡ 256 → CountsUp 0 (flat_map (λ x. x) (replicate n row))
rounds-count zero row h e = tt
rounds-count (suc n) row h e =
    let again : 0 % 256 ≡ (0 + length row) % 256 = omega (arith, e) in
    joined 0 row (flat_map (λ x. x) (replicate n row)) h
    (same-remainder 0 (0 + length row) (flat_map (λ x. x) (replicate n row)) again (rounds-count n row h e))

rounds-length : (n : ℕ) (row : List ℕ) → length row ≡ 256 → length (flat_map (λ x. x) (replicate n row)) ≡ n * 256
rounds-length zero row e = refl
rounds-length (suc n) row e =
    let rest = rounds-length n row e in
    let all = length-append row (flat_map (λ x. x) (replicate n row)) in
    omega (arith, all, e, rest)

-- a part of the rounds is what is counted from its first place
pub part-of-rounds : (first len : ℕ) → first + len ≤ 65792 → take len (drop first (flat_map (λ x. x) (replicate 257 (counted 0 256)))) ≡ counted first len
part-of-rounds first len fits = by 257 (counted 0 256) (counts 0 256) (counted-length 0 256) fits
  where
    by : (n : ℕ) (row : List ℕ) → CountsUp 0 row → length row ≡ 256 → first + len ≤ n * 256
        → take len (drop first (flat_map (λ x. x) (replicate n row))) ≡ counted first len
    by n row up e low =
        let all : List ℕ = flat_map (λ x. x) (replicate n row) in
        let long = rounds-length n row e in
        let rest = length-drop first all in
        let there : len ≤ length (drop first all) = omega (arith, rest, low, long) in
        let place : 0 + first ≡ first = omega arith in
        let from : CountsUp first (drop first all) = subst (λ k. CountsUp k (drop first all)) place (dropped 0 first all (rounds-count n row up e)) in
        so-many first len (take len (drop first all)) (taken first len (drop first all) from) (length-take-le len (drop first all) there)

-- none count up from any byte
pub none_counted : (a b len : ℕ) → len ≡ 0 → counted a len ≡ counted b len
none_counted a b len none = ap (counted a) none ∙ ap (counted b) (sym none)
