-- What stands at a place of a table, and how many rows there are.
use Rattle.std.proofs.Common.{◌≡◌, ◌≢◌, ◌<◌, ◌≤◌, ◌⊎◌, inl, inr, ℕ, zero, suc, ◌+◌, ◌*◌, ◌/◌, ◌%◌, List, [], ◌∷◌, Bool, true, false, nat_eq, nat_lt, length, get_or, set, Option, Some, None, ℤ, if◌then◌else◌, refl, ap, sym, ◌∙◌, true≢false, arith}
use Rattle.std.proofs.lemmas.Bool.Decides.{Decides-eqb, nat_tests}
use Rattle.std.proofs.Math.ListN.{length-set}
use Rattle.std.proofs.lemmas.List.{get_or_past}
use Rattle.std.proofs.lemmas.List.FromFn.{length-map-range_with_len, get_or-map-range_with_len}
use Rattle.port_align.specs.declared.end.NodePort.{NodePort}
use Rattle.port_align.specs.declared.table.Known.{Known}
use Rattle.port_align.specs.declared.table.Known.TheVariants.{Nothing, One, Row}
use Rattle.port_align.specs.Ends.{one_at, known_at, look, entry, dense, rows_of, row_count, IsOutside}

-- numbers are one or differ
pub nat-cases : (m n : ℕ) → (m ≡ n) ⊎ (m ≢ n)
nat-cases m n = by (nat_eq m n) refl
  where
    by : (b : Bool) → nat_eq m n ≡ b → (m ≡ n) ⊎ (m ≢ n)
    by true e = inl ((Decides-eqb m n).0 e)
    by false e = inr (λ s. true≢false (sym ((Decides-eqb m n).1 s) ∙ e))

pub eq-same : (m : ℕ) → nat_eq m m ≡ true
eq-same m = (Decides-eqb m m).1 refl

pub eq-other : (m n : ℕ) → m ≢ n → nat_eq m n ≡ false
eq-other m n d = by (nat_eq m n) refl
  where
    by : (b : Bool) → nat_eq m n ≡ b → nat_eq m n ≡ false
    by true e = absurd (d ((Decides-eqb m n).0 e))
    by false e = e

pub below-or : (m n : ℕ) → (m < n) ⊎ (n ≤ m)
below-or m n = by (nat_lt m n) refl
  where
    by : (b : Bool) → nat_lt m n ≡ b → (m < n) ⊎ (n ≤ m)
    by true e = inl (grind (arith, nat_tests))
    by false e = inr (grind (arith, nat_tests))

-- the number and the place of a place among all
pub part-number : (n i : ℕ) → i < 31 → (31 * n + i) / 31 ≡ n
part-number n i l = omega arith

pub part-place : (n i : ℕ) → i < 31 → (31 * n + i) % 31 ≡ i
part-place n i l = omega arith

pub entry-at : (ks : List Known) (rows : List (Option NodePort)) (n i : ℕ) → i < 31 → entry ks rows (31 * n + i) ≡ look rows (known_at ks n) i
entry-at ks rows n i l = ap (λ m. look rows (known_at ks m) ((31 * n + i) % 31)) (part-number n i l) ∙ ap (λ j. look rows (known_at ks n) j) (part-place n i l)

pub length-dense : (ks : List Known) (rows : List (Option NodePort)) → length (dense ks rows) ≡ 31 * length ks
length-dense ks rows = length-map-range_with_len (entry ks rows) 0 (31 * length ks)

-- what stands at any place
pub at-dense : (ks : List Known) (rows : List (Option NodePort)) (k : ℕ) → get_or (dense ks rows) k None ≡ entry ks rows k
at-dense ks rows k = by (below-or k (31 * length ks))
  where
    by : (k < 31 * length ks) ⊎ (31 * length ks ≤ k) → get_or (dense ks rows) k None ≡ entry ks rows k
    by (inl l) = get_or-map-range_with_len (entry ks rows) 0 (31 * length ks) k k None l (omega arith)
    by (inr out) =
        let len = length-dense ks rows in
        let past : length ks ≤ k / 31 = omega (arith, out) in
        get_or_past (dense ks rows) k None (omega (arith, out, len)) ∙ sym (ap (λ x. look rows x (k % 31)) (get_or_past ks (k / 31) Nothing past))

-- how many rows there are with another thing known of one number
pub count-set : (ks : List Known) (n : ℕ) (a : Known) → n < length ks → row_count (set ks n a) + rows_of (get_or ks n Nothing) ≡ row_count ks + rows_of a
count-set [] n a l = absurd (omega (arith, l))
count-set (k ∷ ks) zero a l = omega arith
count-set (k ∷ ks) (suc n) a l = let r = count-set ks n a (omega (arith, l)) in omega (arith, r)

-- a number without a row leaves room for one
pub rows-few : (ks : List Known) → row_count ks ≤ length ks
rows-few [] = omega arith
rows-few (Nothing ∷ ks) = let f = rows-few ks in omega (arith, f)
rows-few (One p q m ∷ ks) = let f = rows-few ks in omega (arith, f)
rows-few (Row r ∷ ks) = let f = rows-few ks in omega (arith, f)

pub row-room : (ks : List Known) (n p : ℕ) (e : NodePort) → n < length ks → get_or ks n Nothing ≡ one_at p e → row_count ks + 1 ≤ length ks
row-room ks n p e l is =
    let c = count-set ks n (Row 0) l in
    let z : rows_of (get_or ks n Nothing) ≡ 0 = ap rows_of is in
    let f = rows-few (set ks n (Row 0)) in
    let s = length-set ks n (Row 0) in
    omega (arith, c, z, f, s)

-- what stands at a place of a number
pub number-place : (ks : List Known) (rows : List (Option NodePort)) (n i : ℕ) → i < 31 → get_or (dense ks rows) (31 * n + i) None ≡ look rows (known_at ks n) i
number-place ks rows n i l = at-dense ks rows (31 * n + i) ∙ entry-at ks rows n i l

-- nothing stands outside of the span of what is known
pub outside-one : (rows : List (Option NodePort)) (p : ℕ) (q : ℤ) (n i : ℕ) → IsOutside p (p + 1) i → look rows (One p q n) i ≡ None
outside-one rows p q n i (inl l) = ap (λ b. if b then Some (record { node = n; port = q }) else None) (eq-other p i (λ e. absurd (omega (arith, l, e))))
outside-one rows p q n i (inr l) = ap (λ b. if b then Some (record { node = n; port = q }) else None) (eq-other p i (λ e. absurd (omega (arith, l, e))))

pub outside-row : (rows : List (Option NodePort)) (r i : ℕ) → i < 31 → IsOutside 0 31 i → look rows (Row r) i ≡ None
outside-row rows r i l (inl out) = absurd (omega (arith, out))
outside-row rows r i l (inr out) = absurd (omega (arith, l, out))
