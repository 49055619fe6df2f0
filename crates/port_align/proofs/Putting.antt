-- What a write changes of the ends that are kept beside their numbers and in rows.
use Rattle.std.proofs.Common.{◌≡◌, ◌≢◌, ◌<◌, ◌≤◌, ◌⊎◌, inl, inr, ℕ, zero, suc, ◌+◌, ◌*◌, ◌/◌, ◌%◌, List, [], ◌∷◌, ◌++◌, Bool, true, false, length, get_or, set, Option, Some, None, refl, ap, sym, ◌∙◌, subst, true≢false, arith, get_or-set_other, get_or-set_same, if◌then◌else◌}
use Rattle.std.proofs.Math.ListN.{length-set}
use Rattle.std.proofs.lemmas.List.{ext_get_or, get_or_past}
use Rattle.port_align.specs.declared.end.NodePort.{NodePort}
use Rattle.port_align.specs.declared.table.Known.{Known}
use Rattle.port_align.specs.declared.table.Known.TheVariants.{Nothing, One, Row}
use Rattle.port_align.specs.Ends.{AreRowsOf, PutsAt, AddsRow, known_at, one_at, look, alone, entry, dense, rows_of, row_count}
use Rattle.port_align.proofs.Reading.{nat-cases, eq-same, eq-other, entry-at, length-dense, at-dense, count-set}

-- a number without a row
abbrev pub IsShort : Known → Type 0
IsShort known = (r : ℕ) → known ≢ Row r

abbrev is_row : Known → Bool
is_row Nothing = false
is_row (One p q n) = false
is_row (Row r) = true

abbrev is_one : Known → Bool
is_one Nothing = false
is_one (One p q n) = true
is_one (Row r) = false

abbrev place : Known → ℕ
place Nothing = 0
place (One p q n) = p
place (Row r) = r

short-count : (k : Known) → IsShort k → rows_of k ≡ 0
short-count Nothing s = refl
short-count (One p q n) s = refl
short-count (Row r) s = absurd (s r refl)

pub nothing-short : (k : Known) → k ≡ Nothing → IsShort k
nothing-short k is = λ r e. true≢false (sym (ap is_row e) ∙ ap is_row is)

pub one-short : (k : Known) (p : ℕ) (e : NodePort) → k ≡ one_at p e → IsShort k
one-short k p e is = λ r same. true≢false (sym (ap is_row same) ∙ ap is_row is)

alone-short : (i : ℕ) (v : Option NodePort) → IsShort (alone i v)
alone-short i None = λ r e. true≢false (sym (ap is_row e))
alone-short i (Some x) = λ r e. true≢false (sym (ap is_row e))

alone-turn : (i : ℕ) (v : Option NodePort) → i < 31 → (p : ℕ) (e : NodePort) → alone i v ≡ one_at p e → p < 31
alone-turn i None l p e same = absurd (true≢false (ap is_one (sym same)))
alone-turn i (Some x) l p e same = subst (λ q. q < 31) (ap place same) l

alone-here : (rows : List (Option NodePort)) (i : ℕ) (v : Option NodePort) → look rows (alone i v) i ≡ v
alone-here rows i None = refl
alone-here rows i (Some e) = ap (λ b. if b then Some e else None) (eq-same i)

alone-beside : (rows : List (Option NodePort)) (i : ℕ) (v : Option NodePort) (k : ℕ) → i ≢ k → look rows (alone i v) k ≡ None
alone-beside rows i None k d = refl
alone-beside rows i (Some e) k d = ap (λ b. if b then Some e else None) (eq-other i k d)

one-here : (rows : List (Option NodePort)) (k : Known) (i : ℕ) (e : NodePort) → k ≡ one_at i e → look rows k i ≡ Some e
one-here rows k i e is = ap (λ x. look rows x i) is ∙ ap (λ b. if b then Some e else None) (eq-same i)

pub one-beside : (rows : List (Option NodePort)) (known : Known) (i : ℕ) (e : NodePort) (k : ℕ) → known ≡ one_at i e → i ≢ k → look rows known k ≡ None
one-beside rows known i e k is d = ap (λ x. look rows x k) is ∙ ap (λ b. if b then Some e else None) (eq-other i k d)

pub nothing-known : (rows : List (Option NodePort)) (known : Known) (k : ℕ) → known ≡ Nothing → look rows known k ≡ None
nothing-known rows known k is = ap (λ x. look rows x k) is

known-set : (ks : List Known) (n : ℕ) (a : Known) → n < length ks → known_at (set ks n a) n ≡ a
known-set ks n a l = get_or-set_same ks n a Nothing l

known-other : (ks : List Known) (n m : ℕ) (a : Known) → n ≢ m → known_at (set ks n a) m ≡ known_at ks m
known-other ks n m a d = get_or-set_other ks n m a Nothing (λ e. d (sym e))

-- one end alone, or none, where there was at most one
module _ (ks : List Known) (rows : List (Option NodePort)) (n : ℕ) (a : Known) (sound : AreRowsOf ks rows) (below : n < length ks) (was : IsShort (known_at ks n)) (short : IsShort a) (turn : (p : ℕ) (e : NodePort) → a ≡ one_at p e → p < 31) where
  short-same : (m : ℕ) → n ≡ m → known_at (set ks n a) m ≡ a
  short-same m e = ap (known_at (set ks n a)) (sym e) ∙ known-set ks n a below

  short-row : (m r : ℕ) → known_at (set ks n a) m ≡ Row r → known_at ks m ≡ Row r
  short-row m r e = by (nat-cases n m)
    where
      by : (n ≡ m) ⊎ (n ≢ m) → known_at ks m ≡ Row r
      by (inl s) = absurd (short r (sym (short-same m s) ∙ e))
      by (inr d) = sym (known-other ks n m a d) ∙ e

  short-one : (m p : ℕ) (e : NodePort) → known_at (set ks n a) m ≡ one_at p e → p < 31
  short-one m p e is = by (nat-cases n m)
    where
      by : (n ≡ m) ⊎ (n ≢ m) → p < 31
      by (inl s) = turn p e (sym (short-same m s) ∙ is)
      by (inr d) = sound.turns m p e (sym (known-other ks n m a d) ∙ is)

  short-sound : AreRowsOf (set ks n a) rows
  short-sound = record {
    counted = (let c = count-set ks n a below in let x = short-count (known_at ks n) was in let y = short-count a short in let s = sound.counted in omega (arith, c, x, y, s));
    inside = λ m r e. sound.inside m r (short-row m r e);
    turns = short-one;
    apart = λ m k r e f. sound.apart m k r (short-row m r e) (short-row k r f);
  }

pub puts-alone : (ks : List Known) (rows : List (Option NodePort)) (n i : ℕ) (v : Option NodePort) → AreRowsOf ks rows → n < length ks → i < 31 → IsShort (known_at ks n) → ((k : ℕ) → i ≢ k → look rows (known_at ks n) k ≡ None) → PutsAt n i v ks rows (set ks n (alone i v)) rows
puts-alone ks rows n i v sound below turn was bare = record {
  same = length-set ks n (alone i v);
  sound = short-sound ks rows n (alone i v) sound below was (alone-short i v) (alone-turn i v turn);
  here = ap (λ x. look rows x i) (known-set ks n (alone i v) below) ∙ alone-here rows i v;
  beside = λ k l d. ap (λ x. look rows x k) (known-set ks n (alone i v) below) ∙ alone-beside rows i v k d ∙ sym (bare k d);
  other = λ m k l d. ap (λ x. look rows x k) (known-other ks n m (alone i v) d);
}

-- an end in a row
module _ (ks : List Known) (rows : List (Option NodePort)) (n i r : ℕ) (v : Option NodePort) (sound : AreRowsOf ks rows) (turn : i < 31) (is : known_at ks n ≡ Row r) where
  news : List (Option NodePort)
  news = set rows (31 * r + i) v

  row-there : 31 * r + i < length rows
  row-there = let x = sound.inside n r is in omega (arith, x, turn)

  row-other : (known : Known) (k : ℕ) → k < 31 → ((s : ℕ) → known ≡ Row s → s ≢ r) → look (set rows (31 * r + i) v) known k ≡ look rows known k
  row-other Nothing k l d = refl
  row-other (One p q o) k l d = refl
  row-other (Row s) k l d = get_or-set_other rows (31 * r + i) (31 * s + k) v None (λ e. d s refl (omega (arith, e, l, turn)))

  pub puts-row : PutsAt n i v ks rows ks (set rows (31 * r + i) v)
  puts-row = record {
    same = refl;
    sound = record {
      counted = length-set rows (31 * r + i) v ∙ sound.counted;
      inside = λ m s e. (let x = sound.inside m s e in let y = length-set rows (31 * r + i) v in omega (arith, x, y));
      turns = sound.turns;
      apart = sound.apart;
    };
    here = ap (λ x. look (set rows (31 * r + i) v) x i) is ∙ get_or-set_same rows (31 * r + i) v None row-there;
    beside = λ k l d. ap (λ x. look (set rows (31 * r + i) v) x k) is ∙ get_or-set_other rows (31 * r + i) (31 * r + k) v None (λ e. d (omega (arith, e))) ∙ sym (ap (λ x. look rows x k) is);
    other = λ m k l d. row-other (known_at ks m) k l (λ s e same. d (sound.apart n m r is (e ∙ ap Row same)));
  }

-- a second end, for which a row is made
module _ (ks : List Known) (rows : List (Option NodePort)) (n i p row : ℕ) (v : Option NodePort) (e : NodePort) (news : List (Option NodePort)) (sound : AreRowsOf ks rows) (below : n < length ks) (turn : i < 31) (first : p < 31) (two : p ≢ i) (is : known_at ks n ≡ one_at p e) (adds : AddsRow p i (Some e) v rows news row) where
  made : known_at (set ks n (Row row)) n ≡ Row row
  made = known-set ks n (Row row) below

  row-same : (m : ℕ) → n ≡ m → known_at (set ks n (Row row)) m ≡ Row row
  row-same m s = ap (known_at (set ks n (Row row))) (sym s) ∙ made

  old-row : (m r : ℕ) → n ≢ m → known_at (set ks n (Row row)) m ≡ Row r → known_at ks m ≡ Row r
  old-row m r d k = sym (known-other ks n m (Row row) d) ∙ k

  new-row : (m r : ℕ) → n ≡ m → known_at (set ks n (Row row)) m ≡ Row r → row ≡ r
  new-row m r s k = ap place (sym (row-same m s) ∙ k)

  old-below : (m r : ℕ) → known_at ks m ≡ Row r → r < row
  old-below m r k = let x = sound.inside m r k in let y = adds.last in omega (arith, x, y)

  made-inside : (m r : ℕ) → known_at (set ks n (Row row)) m ≡ Row r → 31 * r + 31 ≤ length news
  made-inside m r k = by (nat-cases n m)
    where
      by : (n ≡ m) ⊎ (n ≢ m) → 31 * r + 31 ≤ length news
      by (inl s) = let x = new-row m r s k in let y = adds.last in let z = adds.more in omega (arith, x, y, z)
      by (inr d) = let x = sound.inside m r (old-row m r d k) in let z = adds.more in omega (arith, x, z)

  made-turns : (m q : ℕ) (f : NodePort) → known_at (set ks n (Row row)) m ≡ one_at q f → q < 31
  made-turns m q f k = by (nat-cases n m)
    where
      by : (n ≡ m) ⊎ (n ≢ m) → q < 31
      by (inl s) = absurd (true≢false (ap is_row (sym (row-same m s) ∙ k)))
      by (inr d) = sound.turns m q f (sym (known-other ks n m (Row row) d) ∙ k)

  made-apart : (m o r : ℕ) → known_at (set ks n (Row row)) m ≡ Row r → known_at (set ks n (Row row)) o ≡ Row r → m ≡ o
  made-apart m o r j k = by (nat-cases n m) (nat-cases n o)
    where
      by : (n ≡ m) ⊎ (n ≢ m) → (n ≡ o) ⊎ (n ≢ o) → m ≡ o
      by (inl s) (inl t) = sym s ∙ t
      by (inl s) (inr d) = let x = new-row m r s j in let y = old-below o r (old-row o r d k) in absurd (omega (arith, x, y))
      by (inr d) (inl t) = let x = new-row o r t k in let y = old-below m r (old-row m r d j) in absurd (omega (arith, x, y))
      by (inr d) (inr f) = sound.apart m o r (old-row m r d j) (old-row o r f k)

  made-beside : (k : ℕ) → i ≢ k → get_or news (31 * row + k) None ≡ look rows (known_at ks n) k
  made-beside k d = by (nat-cases p k)
    where
      by : (p ≡ k) ⊎ (p ≢ k) → get_or news (31 * row + k) None ≡ look rows (known_at ks n) k
      by (inl s) = subst (λ (q : ℕ). get_or news (31 * row + q) None ≡ look rows (known_at ks n) q) s (adds.first_end ∙ sym (one-here rows (known_at ks n) p e is))
      by (inr f) =
          let past : length rows ≤ 31 * row + k = (let y = adds.last in omega (arith, y)) in
          adds.other (31 * row + k) (λ x. f (omega (arith, x))) (λ x. d (omega (arith, x))) ∙ get_or_past rows (31 * row + k) None past ∙ sym (one-beside rows (known_at ks n) p e k is f)

  made-other : (known : Known) (k : ℕ) → k < 31 → ((s : ℕ) → known ≡ Row s → s < row) → look news known k ≡ look rows known k
  made-other Nothing k l d = refl
  made-other (One q f o) k l d = refl
  made-other (Row s) k l d = let b = d s refl in adds.other (31 * s + k) (λ x. omega (arith, x, b, l)) (λ x. omega (arith, x, b, l))

  pub puts-second : PutsAt n i v ks rows (set ks n (Row row)) news
  puts-second = record {
    same = length-set ks n (Row row);
    sound = record {
      counted = (let c = count-set ks n (Row row) below in let z : rows_of (known_at ks n) ≡ 0 = ap rows_of is in let s = sound.counted in let m = adds.more in omega (arith, c, z, s, m));
      inside = made-inside;
      turns = made-turns;
      apart = made-apart;
    };
    here = ap (λ x. look news x i) made ∙ adds.second_end;
    beside = λ k l d. ap (λ x. look news x k) made ∙ made-beside k d;
    other = λ m k l d. ap (λ x. look news x k) (known-other ks n m (Row row) d) ∙ made-other (known_at ks m) k l (old-below m);
  }

-- a write at one place of a number is a write at that place of all
module _ (ks : List Known) (rows : List (Option NodePort)) (new : List Known) (news : List (Option NodePort)) (n i : ℕ) (v : Option NodePort) (puts : PutsAt n i v ks rows new news) (below : n < length ks) (turn : i < 31) where
  put-other : (m : ℕ) → 31 * n + i ≢ m → entry new news m ≡ entry ks rows m
  put-other m d = by (nat-cases n (m / 31))
    where
      by : (n ≡ m / 31) ⊎ (n ≢ m / 31) → entry new news m ≡ entry ks rows m
      by (inl s) =
          let apart : i ≢ m % 31 = λ e. d (omega (arith, s, e)) in
          subst (λ (x : ℕ). look news (known_at new x) (m % 31) ≡ look rows (known_at ks x) (m % 31)) s (puts.beside (m % 31) (omega arith) apart)
      by (inr f) = puts.other (m / 31) (m % 31) (omega arith) f

  pub dense-put : dense new news ≡ set (dense ks rows) (31 * n + i) v
  dense-put = ext_get_or None (dense new news) (set (dense ks rows) (31 * n + i) v) long each
    where
      long : length (dense new news) ≡ length (set (dense ks rows) (31 * n + i) v)
      long = length-dense new news ∙ ap (λ c. 31 * c) puts.same ∙ sym (length-set (dense ks rows) (31 * n + i) v ∙ length-dense ks rows)

      each : (m : ℕ) → m < length (dense new news) → get_or (dense new news) m None ≡ get_or (set (dense ks rows) (31 * n + i) v) m None
      each m l = by (nat-cases (31 * n + i) m)
        where
          by : (31 * n + i ≡ m) ⊎ (31 * n + i ≢ m) → get_or (dense new news) m None ≡ get_or (set (dense ks rows) (31 * n + i) v) m None
          by (inl s) =
              let there : 31 * n + i < length (dense ks rows) = (let x = length-dense ks rows in omega (arith, x, below, turn)) in
              subst (λ (x : ℕ). get_or (dense new news) x None ≡ get_or (set (dense ks rows) (31 * n + i) v) x None) s
              (at-dense new news (31 * n + i) ∙ entry-at new news n i turn ∙ puts.here ∙ sym (get_or-set_same (dense ks rows) (31 * n + i) v None there))
          by (inr d) = at-dense new news m ∙ put-other m d ∙ sym (at-dense ks rows m) ∙ sym (get_or-set_other (dense ks rows) (31 * n + i) m v None (λ e. d (sym e)))

-- numbers more of which nothing is known
pub row-count-append : (ks more : List Known) → row_count (ks ++ more) ≡ row_count ks + row_count more
row-count-append [] more = omega arith
row-count-append (k ∷ ks) more = let r = row-count-append ks more in omega (arith, r)

pub sound-longer : (ks new : List Known) (rows : List (Option NodePort)) → AreRowsOf ks rows → row_count new ≡ row_count ks → ((m : ℕ) → known_at new m ≡ known_at ks m) → AreRowsOf new rows
sound-longer ks new rows sound count same = record {
  counted = sound.counted ∙ ap (λ c. 31 * c) (sym count);
  inside = λ n r e. sound.inside n r (sym (same n) ∙ e);
  turns = λ n p x e. sound.turns n p x (sym (same n) ∙ e);
  apart = λ m n r e f. sound.apart m n r (sym (same m) ∙ e) (sym (same n) ∙ f);
}

pub dense-longer : (ks new : List Known) (rows : List (Option NodePort)) → ((m : ℕ) → known_at new m ≡ known_at ks m) → (k : ℕ) → get_or (dense new rows) k None ≡ get_or (dense ks rows) k None
dense-longer ks new rows same k = at-dense new rows k ∙ ap (λ x. look rows x (k % 31)) (same (k / 31)) ∙ sym (at-dense ks rows k)

-- a list with one default more has the same items
pub known-push : (ks : List Known) (m : ℕ) → known_at (ks ++ Nothing ∷ []) m ≡ known_at ks m
known-push [] zero = refl
known-push [] (suc m) = refl
known-push (k ∷ ks) zero = refl
known-push (k ∷ ks) (suc m) = known-push ks m
