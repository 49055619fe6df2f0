-- Chains of walks: how a walk is looked for, and how one is added.
use Rattle.std.proofs.Common.{◌≡◌, ◌≢◌, ◌<◌, ◌≤◌, ◌+◌, ◌-◌, ◌%◌, ◌⊎◌, inl, inr, ℕ, zero, suc, List, [], ◌∷◌, ◌++◌, Bool, true, false, not, length, replicate, set, take, Some, refl, ap, sym, ◌∙◌, subst, true≢false, arith, if◌then◌else◌}
use Rattle.std.specs.Prelude.{ℤ, nat_eq, slice_get, slice_index_or}
use Rattle.std.proofs.lemmas.Bool.{cases_order}
use Rattle.std.proofs.lemmas.Bool.Decides.{Decides-eqb}
use Rattle.std.proofs.lemmas.List.{length-set, length-append, length-replicate, take_more}
use Rattle.std.proofs.lemmas.Nat.{mod_below}
use Rattle.std.proofs.lemmas.Option.{slice_get_within, get_or_from_slice_get}
use Rattle.net_defs.specs.Turn.{same_turns}
use Rattle.net_defs.proofs.Turns.{same_turns-true, same_turns-refl}
use Rattle.probe.specs.Keeping.{has_walk}
use Rattle.probe.specs.Chained.{hash_of, bucket_of, bucket_at, latest_below, IsChained, IsInChain, IsOther}

-- the item at a place of a list with one more at its end, or with one replaced
pub item-left : {X : Type 0} (xs : List X) (x : X) (k : ℕ) → k < length xs → slice_get (xs ++ x ∷ []) k ≡ slice_get xs k
item-left [] x k l = absurd (omega arith)
item-left (y ∷ ys) x zero l = refl
item-left (y ∷ ys) x (suc k) l = item-left ys x k (omega arith)

pub item-last : {X : Type 0} (xs : List X) (x : X) → slice_get (xs ++ x ∷ []) (length xs) ≡ Some x
item-last [] x = refl
item-last (y ∷ ys) x = item-last ys x

item-set : {X : Type 0} (xs : List X) (k : ℕ) (x : X) → k < length xs → slice_get (set xs k x) k ≡ Some x
item-set [] k x l = absurd (omega arith)
item-set (y ∷ ys) zero x l = refl
item-set (y ∷ ys) (suc k) x l = item-set ys k x (omega arith)

item-other : {X : Type 0} (xs : List X) (k n : ℕ) (x : X) → n ≢ k → slice_get (set xs k x) n ≡ slice_get xs n
item-other [] k n x apart = refl
item-other (y ∷ ys) zero zero x apart = absurd (apart refl)
item-other (y ∷ ys) zero (suc n) x apart = refl
item-other (y ∷ ys) (suc k) zero x apart = refl
item-other (y ∷ ys) (suc k) (suc n) x apart = item-other ys k n x (λ e. apart (ap suc e))

index-left : (ws : List (List ℤ)) (w : List ℤ) (k : ℕ) → k < length ws → slice_index_or (ws ++ w ∷ []) k [] ≡ slice_index_or ws k []
index-left [] w k l = absurd (omega arith)
index-left (v ∷ ws) w zero l = refl
index-left (v ∷ ws) w (suc k) l = index-left ws w k (omega arith)

index-last : (ws : List (List ℤ)) (w : List ℤ) → slice_index_or (ws ++ w ∷ []) (length ws) [] ≡ w
index-last [] w = refl
index-last (v ∷ ws) w = index-last ws w

same-number : (n m : ℕ) → n ≡ m → nat_eq n m ≡ true
same-number n m e = (Decides-eqb n m).1 e

-- the latest is no later than the walks that are looked at
latest-low : (buckets : ℕ) (walks : List (List ℤ)) (bucket n : ℕ) → latest_below buckets walks bucket n ≤ n
latest-low buckets walks bucket zero = omega arith
latest-low buckets walks bucket (suc at) = by (nat_eq (bucket_at buckets walks at) bucket) (latest-low buckets walks bucket at)
  where
    by : (b : Bool) → latest_below buckets walks bucket at ≤ at → (if b then suc at else latest_below buckets walks bucket at) ≤ suc at
    by true l = omega arith
    by false l = omega arith

-- where a walk stands neither at a place nor after it
passed-on : (walks : List (List ℤ)) (turns : List ℤ) (at : ℕ) → slice_get walks at ≢ Some turns → ((k : ℕ) → suc at ≤ k → slice_get walks k ≢ Some turns) → (k : ℕ) → at ≤ k → slice_get walks k ≢ Some turns
passed-on walks turns at here behind k low = by (cases_order at k)
  where
    by : (at ≡ k) ⊎ ((at < k) ⊎ (k < at)) → slice_get walks k ≢ Some turns
    by (inl same) = subst (λ n. slice_get walks n ≢ Some turns) same here
    by (inr (inl less)) = behind k (omega arith)
    by (inr (inr more)) = absurd (omega arith)

-- the latest of the first walks of a bucket is where a walk of that bucket is looked for
pub in-chain : (buckets : ℕ) (walks : List (List ℤ)) (turns : List ℤ) (n : ℕ) → n ≤ length walks → ((at : ℕ) → n ≤ at → slice_get walks at ≢ Some turns) → IsInChain buckets walks turns (latest_below buckets walks (bucket_of buckets turns) n)
in-chain buckets walks turns zero l passed = record { within = l; own = refl; passed = passed }
in-chain buckets walks turns (suc at) l passed = by (nat_eq (bucket_at buckets walks at) (bucket_of buckets turns)) refl (in-chain buckets walks turns at (omega arith))
  where
    by : (b : Bool) → nat_eq (bucket_at buckets walks at) (bucket_of buckets turns) ≡ b → (((k : ℕ) → at ≤ k → slice_get walks k ≢ Some turns) → IsInChain buckets walks turns (latest_below buckets walks (bucket_of buckets turns) at)) → IsInChain buckets walks turns (if b then suc at else latest_below buckets walks (bucket_of buckets turns) at)
    by true e rest = record { within = l; own = ap (λ b. if b then suc at else latest_below buckets walks (bucket_of buckets turns) at) e; passed = passed }
    by false e rest = rest (passed-on walks turns at (λ is. true≢false (sym (same-number (bucket_at buckets walks at) (bucket_of buckets turns) (ap (bucket_of buckets) (get_or_from_slice_get walks at turns [] is))) ∙ e)) passed)

-- a place of a chain is one of its bucket
own-bucket : (buckets : ℕ) (walks : List (List ℤ)) (bucket at : ℕ) → latest_below buckets walks bucket (suc at) ≡ suc at → bucket_at buckets walks at ≡ bucket
own-bucket buckets walks bucket at own = by (nat_eq (bucket_at buckets walks at) bucket) refl own
  where
    by : (b : Bool) → nat_eq (bucket_at buckets walks at) bucket ≡ b → (if b then suc at else latest_below buckets walks bucket at) ≡ suc at → bucket_at buckets walks at ≡ bucket
    by true e own = (Decides-eqb (bucket_at buckets walks at) bucket).0 e
    by false e own = absurd (let o : latest_below buckets walks bucket at ≡ suc at = own in let l = latest-low buckets walks bucket at in omega arith)

-- the walk before another is the next that is looked at
pub next-in-chain : (walks : List (List ℤ)) (latest before : List ℕ) (turns : List ℤ) (place next : ℕ) → IsChained walks latest before → IsInChain (length latest) walks turns place → IsOther walks place turns → next ≡ slice_index_or before (place - 1) next → IsInChain (length latest) walks turns next × (next < place)
next-in-chain walks latest before turns place next chained c o is =
    let at = o.at in
    let one : place ≡ suc at = o.place_at ∙ (let s : o.at + 1 ≡ suc o.at = omega arith in s) in
    let here : place - 1 ≡ at = omega arith in
    let own : latest_below (length latest) walks (bucket_of (length latest) turns) (suc at) ≡ suc at = subst (λ n. latest_below (length latest) walks (bucket_of (length latest) turns) n ≡ n) one c.own in
    let bucket = own-bucket (length latest) walks (bucket_of (length latest) turns) at own in
    let got : slice_index_or before at next ≡ latest_below (length latest) walks (bucket_of (length latest) turns) at =
    get_or_from_slice_get before at (latest_below (length latest) walks (bucket_at (length latest) walks at) at) next (chained.walk_before at o.there)
    ∙ ap (λ b. latest_below (length latest) walks b at) bucket in
    let value : next ≡ latest_below (length latest) walks (bucket_of (length latest) turns) at = is ∙ ap (λ k. slice_index_or before k next) here ∙ got in
    let low = latest-low (length latest) walks (bucket_of (length latest) turns) at in
    (subst (IsInChain (length latest) walks turns) (sym value) (in-chain (length latest) walks turns at (let t = o.there in omega arith) (passed-on walks turns at o.other (λ k l. c.passed k (omega arith)))), omega arith)

-- the search begins at the latest walk of the bucket
pub chain-start : (walks : List (List ℤ)) (latest before : List ℕ) (turns : List ℤ) (bucket next : ℕ) → IsChained walks latest before → bucket ≡ bucket_of (length latest) turns → bucket < length latest → next ≡ slice_index_or latest bucket next → IsInChain (length latest) walks turns next
chain-start walks latest before turns bucket next c own low is =
    let got : slice_index_or latest bucket next ≡ latest_below (length latest) walks bucket (length walks) = get_or_from_slice_get latest bucket (latest_below (length latest) walks bucket (length walks)) next (c.latest_walk bucket low) in
    let value : next ≡ latest_below (length latest) walks (bucket_of (length latest) turns) (length walks) = is ∙ got ∙ ap (λ b. latest_below (length latest) walks b (length walks)) own in
    subst (IsInChain (length latest) walks turns) (sym value) (in-chain (length latest) walks turns (length walks) (omega arith) past)
  where
    past : (at : ℕ) → length walks ≤ at → slice_get walks at ≢ Some turns
    past at low is = absurd (let l = slice_get_within walks at turns is in omega arith)

-- so it begins in the bucket of the walk's hash
pub hash-start : (walks : List (List ℤ)) (latest before : List ℕ) (turns : List ℤ) (hash buckets next : ℕ) → IsChained walks latest before → hash ≡ hash_of 0 turns → buckets ≡ length latest → 0 < buckets → next ≡ slice_index_or latest (hash % buckets) next → IsInChain (length latest) walks turns next
hash-start walks latest before turns hash buckets next c own long some is =
    chain-start walks latest before turns (hash % buckets) next c (λ i. own i % long i) (subst (λ n. hash % buckets < n) long (mod_below hash buckets some)) is

-- where all buckets are empty no walk is chained
empty-bucket : (n k : ℕ) → k < n → slice_get {X = ℕ} (replicate n 0) k ≡ Some 0
empty-bucket zero k l = absurd (omega arith)
empty-bucket (suc n) zero l = refl
empty-bucket (suc n) (suc k) l = empty-bucket n k (omega arith)

pub chained-none : (latest before : List ℕ) (n : ℕ) → latest ≡ replicate n 0 → before ≡ [] → IsChained [] latest before
chained-none latest before n is none = record {
  counted = ap length none;
  latest_walk = λ bucket l. ap (λ (xs : List ℕ). slice_get xs bucket) is ∙ empty-bucket n bucket (let long : length latest ≡ n = ap length is ∙ length-replicate n 0 in omega arith);
  walk_before = λ at l. absurd (omega arith);
}

-- where there is no bucket there is no walk
pub none-chained : (walks : List (List ℤ)) (turns : List ℤ) → length walks ≤ 0 → has_walk walks turns ≡ false
none-chained [] turns few = refl
none-chained (w ∷ walks) turns few = absurd (omega arith)

-- the walk at a place, counted from 1, is another, or this one
not-true : (b : Bool) → not b ≡ true → b ≡ false
not-true true e = absurd (true≢false (sym e))
not-true false e = refl

not-false : (b : Bool) → not b ≡ false → b ≡ true
not-false true e = refl
not-false false e = absurd (true≢false e)

pub other-is : (walks : List (List ℤ)) (place : ℕ) (turns w : List ℤ) (b : Bool) → 0 < place → slice_get walks (place - 1) ≡ Some w → b ≡ same_turns w turns → not b ≡ true → IsOther walks place turns
other-is walks place turns w b some e same differ = record {
  at = place - 1;
  place_at = omega arith;
  there = slice_get_within walks (place - 1) w e;
  other = λ is. unlike (sym e ∙ is);
}
  where
    unlike : Some w ≡ Some turns → ⊥
    unlike both = let one : w ≡ turns = cc in true≢false (sym (subst (λ v. same_turns w v ≡ true) one (same_turns-refl w)) ∙ sym same ∙ not-true b differ)

pub this-is : (walks : List (List ℤ)) (place at : ℕ) (turns w : List ℤ) (b : Bool) → slice_get walks (place - 1) ≡ Some w → b ≡ same_turns w turns → not b ≡ false → place ≡ at + 1 → slice_get walks at ≡ Some turns
this-is walks place at turns w b e same this is =
    let k : at ≡ place - 1 = omega arith in
    ap (slice_get walks) k ∙ e ∙ ap Some (same_turns-true w turns (sym same ∙ not-false b this))

-- one walk more changes nothing below it
latest-kept : (buckets : ℕ) (walks : List (List ℤ)) (w : List ℤ) (bucket n : ℕ) → n ≤ length walks → latest_below buckets (walks ++ w ∷ []) bucket n ≡ latest_below buckets walks bucket n
latest-kept buckets walks w bucket zero l = refl
latest-kept buckets walks w bucket (suc at) l =
    let bucket-kept : bucket_at buckets (walks ++ w ∷ []) at ≡ bucket_at buckets walks at = ap (bucket_of buckets) (index-left walks w at (omega arith)) in
    let rest = latest-kept buckets walks w bucket at (omega arith) in
    λ i. if nat_eq (bucket-kept i) bucket then suc at else rest i

-- chains with one walk more
pub chained-push : (walks : List (List ℤ)) (latest before : List ℕ) (w : List ℤ) (bucket : ℕ) → IsChained walks latest before → bucket ≡ bucket_of (length latest) w → bucket < length latest → IsChained (walks ++ w ∷ []) (set latest bucket (length before + 1)) (before ++ slice_index_or latest bucket 0 ∷ [])
chained-push walks latest before w bucket c is low = record {
  counted = length-append before (slice_index_or latest bucket 0 ∷ []) ∙ ap (λ n. n + 1) c.counted ∙ sym (length-append walks (w ∷ []));
  latest_walk = latest-now;
  walk_before = before-now;
}
  where
    long : length (set latest bucket (length before + 1)) ≡ length latest
    long = length-set latest bucket (length before + 1)

    more : length (walks ++ w ∷ []) ≡ suc (length walks)
    more = length-append walks (w ∷ []) ∙ (let s : length walks + 1 ≡ suc (length walks) = omega arith in s)

    own : bucket_at (length latest) (walks ++ w ∷ []) (length walks) ≡ bucket
    own = ap (bucket_of (length latest)) (index-last walks w) ∙ sym is

    at_bucket : (k : ℕ) → k < length latest → (bucket ≡ k) ⊎ ((bucket < k) ⊎ (k < bucket)) → slice_get (set latest bucket (length before + 1)) k ≡ Some (latest_below (length latest) (walks ++ w ∷ []) k (suc (length walks)))
    at_bucket k l (inl same) =
        ap (slice_get (set latest bucket (length before + 1))) (sym same)
        ∙ item-set latest bucket (length before + 1) low
        ∙ ap Some (let n = c.counted in let s : length before + 1 ≡ suc (length walks) = omega arith in s ∙ ap (λ b. if b then suc (length walks) else latest_below (length latest) (walks ++ w ∷ []) k (length walks)) (sym (same-number (bucket_at (length latest) (walks ++ w ∷ []) (length walks)) k (own ∙ same))))
    at_bucket k l (inr differ) =
        let not_own : k ≢ bucket = (λ e. apart e differ) in
        item-other latest bucket k (length before + 1) not_own
        ∙ c.latest_walk k l
        ∙ ap Some (sym (latest-kept (length latest) walks w k (length walks) (omega arith)) ∙ ap (λ b. if b then suc (length walks) else latest_below (length latest) (walks ++ w ∷ []) k (length walks)) (sym (other k not_own)))
      where
        apart : k ≡ bucket → (bucket < k) ⊎ (k < bucket) → ⊥
        apart e (inl a) = absurd (omega arith)
        apart e (inr a) = absurd (omega arith)

        other : (k : ℕ) → k ≢ bucket → nat_eq (bucket_at (length latest) (walks ++ w ∷ []) (length walks)) k ≡ false
        other k differs = by (nat_eq (bucket_at (length latest) (walks ++ w ∷ []) (length walks)) k) refl
          where
            by : (b : Bool) → nat_eq (bucket_at (length latest) (walks ++ w ∷ []) (length walks)) k ≡ b → b ≡ false
            by true e = absurd (differs (sym ((Decides-eqb (bucket_at (length latest) (walks ++ w ∷ []) (length walks)) k).0 e) ∙ own))
            by false e = refl

    latest-now : (k : ℕ) → k < length (set latest bucket (length before + 1)) → slice_get (set latest bucket (length before + 1)) k ≡ Some (latest_below (length (set latest bucket (length before + 1))) (walks ++ w ∷ []) k (length (walks ++ w ∷ [])))
    latest-now k l = at_bucket k (let n = long in omega arith) (cases_order bucket k) ∙ ap (λ n. Some (latest_below n (walks ++ w ∷ []) k (suc (length walks)))) (sym long) ∙ ap (λ n. Some (latest_below (length (set latest bucket (length before + 1))) (walks ++ w ∷ []) k n)) (sym more)

    before-now : (at : ℕ) → at < length (walks ++ w ∷ []) → slice_get (before ++ slice_index_or latest bucket 0 ∷ []) at ≡ Some (latest_below (length (set latest bucket (length before + 1))) (walks ++ w ∷ []) (bucket_at (length (set latest bucket (length before + 1))) (walks ++ w ∷ []) at) at)
    before-now at l = by (cases_order at (length walks)) ∙ ap (λ n. Some (latest_below n (walks ++ w ∷ []) (bucket_at n (walks ++ w ∷ []) at) at)) (sym long)
      where
        by : (at ≡ length walks) ⊎ ((at < length walks) ⊎ (length walks < at)) → slice_get (before ++ slice_index_or latest bucket 0 ∷ []) at ≡ Some (latest_below (length latest) (walks ++ w ∷ []) (bucket_at (length latest) (walks ++ w ∷ []) at) at)
        by (inl same) =
            ap (slice_get (before ++ slice_index_or latest bucket 0 ∷ [])) (same ∙ sym c.counted)
            ∙ item-last before (slice_index_or latest bucket 0)
            ∙ ap Some (get_or_from_slice_get latest bucket (latest_below (length latest) walks bucket (length walks)) 0 (c.latest_walk bucket low)
            ∙ sym (latest-kept (length latest) walks w bucket (length walks) (omega arith))
            ∙ ap (λ b. latest_below (length latest) (walks ++ w ∷ []) b (length walks)) (sym own)
            ∙ ap (λ n. latest_below (length latest) (walks ++ w ∷ []) (bucket_at (length latest) (walks ++ w ∷ []) n) n) (sym same))
        by (inr (inl less)) =
            item-left before (slice_index_or latest bucket 0) at (let n = c.counted in omega arith)
            ∙ c.walk_before at less
            ∙ ap Some (sym (latest-kept (length latest) walks w (bucket_at (length latest) walks at) at (omega arith)) ∙ ap (λ b. latest_below (length latest) (walks ++ w ∷ []) (bucket_of (length latest) b) at) (sym (index-left walks w at less)))
        by (inr (inr past)) = absurd (let m = more in omega arith)

-- chains with one walk more, whose hash is known
pub chained-added : (walks : List (List ℤ)) (w : List ℤ) (hash : ℕ) (latest before new_latest new_before : List ℕ) → IsChained walks latest before → hash ≡ hash_of 0 w → 0 < length latest → new_latest ≡ set latest (hash % length latest) (length before + 1) → new_before ≡ before ++ slice_index_or latest (hash % length latest) 0 ∷ [] → IsChained (walks ++ w ∷ []) new_latest new_before
chained-added walks w hash latest before new_latest new_before c is some l b =
    subst (λ ls. IsChained (walks ++ w ∷ []) ls new_before) (sym l)
    (subst (λ bs. IsChained (walks ++ w ∷ []) (set latest (hash % length latest) (length before + 1)) bs) (sym b)
    (chained-push walks latest before w (hash % length latest) c (ap (λ h. h % length latest) is) (mod_below hash (length latest) some)))

-- chains of the first walks, with the next
pub chained-next : (walks : List (List ℤ)) (at : ℕ) (w : List ℤ) (hash : ℕ) (latest before new_latest new_before : List ℕ) → IsChained (take at walks) latest before → slice_get walks at ≡ Some w → hash ≡ hash_of 0 w → 0 < length latest → new_latest ≡ set latest (hash % length latest) (length before + 1) → new_before ≡ before ++ slice_index_or latest (hash % length latest) 0 ∷ [] → IsChained (take (at + 1) walks) new_latest new_before
chained-next walks at w hash latest before new_latest new_before c there is some l b =
    let more : take (at + 1) walks ≡ take at walks ++ w ∷ [] = take_more walks at [] (slice_get_within walks at w there) ∙ ap (λ x. take at walks ++ x ∷ []) (get_or_from_slice_get walks at w [] there) in
    subst (λ ws. IsChained ws new_latest new_before) (sym more) (chained-added (take at walks) w hash latest before new_latest new_before c is some l b)
