-- How many turns of a node are asked, as a journal grows.
use Rattle.std.proofs.Common.{◌≡◌, ◌≢◌, ◌≤◌, ◌⊎◌, inl, inr, ℕ, suc, ◌+◌, List, [], ◌∷◌, ◌++◌, Bool, true, false, not, ◌&&◌, ◌||◌, length, refl, ap, sym, ◌∙◌, subst, true≢false, arith, if◌then◌else◌}
use Rattle.std.specs.Prelude.{ℤ}
use Rattle.std.specs.List.{AllByRecursion, list_all, list_any}
use Rattle.std.specs.Ordering.{int_eq}
use Rattle.std.proofs.lemmas.Bool.{and_from, and_parts, false≢true}
use Rattle.std.proofs.lemmas.Bool.Decides.{Decides-int_eq}
use Rattle.net_defs.specs.Network.{Apart}
use Rattle.journal_defs.specs.declared.entry.Entry.{Entry}
use Rattle.journal_defs.specs.Growth.{IsExpanded}
use Rattle.journal_defs.specs.Tree.{is_asked}
use Rattle.journal_defs.specs.Walks.{IsOnward, onward_turns}
use Rattle.journal_defs.proofs.Counted.{all-onward, onward-member}
use Rattle.journal_defs.proofs.Growing.{expanded-by}
use Rattle.journal_defs.proofs.Members.{IsMember}
use Rattle.map_laws.proofs.Keeping.{asked-kept, asked-last, asked-push, keeps-append}
use Rattle.replicate_merge.specs.Asked.{asked_among, asked_turns}
use Rattle.replicate_merge.proofs.Telling.{last-turn}

abbrev one_if : Bool → ℕ
one_if b = if b then 1 else 0

few : (j : List Entry) (w ts : List ℤ) → asked_among j w ts ≤ length ts
few j w [] = omega arith
few j w (t ∷ ts) = by (is_asked j (w ++ t ∷ [])) (few j w ts)
  where
    by : (b : Bool) → asked_among j w ts ≤ length ts → one_if b + asked_among j w ts ≤ suc (length ts)
    by true l = omega arith
    by false l = omega arith

-- where as many are asked as there are, all are
count-all : (j : List Entry) (w ts : List ℤ) → asked_among j w ts ≡ length ts → list_all (λ t. is_asked j (w ++ t ∷ [])) ts ≡ true
count-all j w [] e = refl
count-all j w (t ∷ ts) e = by (is_asked j (w ++ t ∷ [])) refl e (few j w ts) (count-all j w ts)
  where
    by : (b : Bool) → is_asked j (w ++ t ∷ []) ≡ b → one_if b + asked_among j w ts ≡ suc (length ts) → asked_among j w ts ≤ length ts → (asked_among j w ts ≡ length ts → list_all (λ t. is_asked j (w ++ t ∷ [])) ts ≡ true) → (is_asked j (w ++ t ∷ []) && list_all (λ t. is_asked j (w ++ t ∷ [])) ts) ≡ true
    by true p f l rest = and_from (is_asked j (w ++ t ∷ [])) (list_all (λ t. is_asked j (w ++ t ∷ [])) ts) p (rest (omega arith))
    by false p f l rest = absurd (omega arith)

all-count : (j : List Entry) (w ts : List ℤ) → AllByRecursion IsOnward ts → IsExpanded j w → asked_among j w ts ≡ length ts
all-count j w [] all x = refl
all-count j w (t ∷ ts) all x = (λ i. one_if (x.asked t all.0 i) + asked_among j w ts) ∙ ap (λ n. 1 + n) (all-count j w ts all.1 x) ∙ (let s : 1 + length ts ≡ suc (length ts) = omega arith in s)

-- a node is expanded exactly where 30 of its turns are asked
pub thirty-expanded : (j : List Entry) (w : List ℤ) → asked_turns j w ≡ 30 → IsExpanded j w
thirty-expanded j w e = expanded-by j w (count-all j w onward_turns e)

pub expanded-thirty : (j : List Entry) (w : List ℤ) → IsExpanded j w → asked_turns j w ≡ 30
expanded-thirty j w x = all-count j w onward_turns all-onward x

pub at-most-thirty : (j : List Entry) (w : List ℤ) → asked_turns j w ≤ 30
at-most-thirty j w = few j w onward_turns

-- what was asked before the last entry
asked-before : (j : List Entry) (e : Entry) (w : List ℤ) → e.walk ≢ w → is_asked (j ++ e ∷ []) w ≡ is_asked j w
asked-before j e w d = by (is_asked j w) (is_asked (j ++ e ∷ []) w) refl refl
  where
    by : (b c : Bool) → is_asked j w ≡ b → is_asked (j ++ e ∷ []) w ≡ c → is_asked (j ++ e ∷ []) w ≡ is_asked j w
    by true c p q = asked-kept j (j ++ e ∷ []) (keeps-append j (e ∷ [])) w p ∙ sym p
    by false false p q = q ∙ sym p
    by false true p q = absurd (none (asked-push j e w q))
      where
        none : (is_asked j w ≡ true) ⊎ (e.walk ≡ w) → ⊥
        none (inl r) = true≢false (sym r ∙ p)
        none (inr s) = d s

-- the turns that aren't the last entry's count as before
count-same : (j : List Entry) (e : Entry) (w ts : List ℤ) → AllByRecursion (λ t. e.walk ≢ w ++ t ∷ []) ts → asked_among (j ++ e ∷ []) w ts ≡ asked_among j w ts
count-same j e w [] all = refl
count-same j e w (t ∷ ts) all = (λ i. one_if (asked-before j e (w ++ t ∷ []) all.0 i) + count-same j e w ts all.1 i)

-- of other walks
pub count-other : (j : List Entry) (e : Entry) (w : List ℤ) → ((t : ℤ) → e.walk ≢ w ++ t ∷ []) → asked_turns (j ++ e ∷ []) w ≡ asked_turns j w
count-other j e w d = count-same j e w onward_turns (by onward_turns)
  where
    by : (ts : List ℤ) → AllByRecursion (λ t. e.walk ≢ w ++ t ∷ []) ts
    by [] = tt
    by (t ∷ ts) = (d t, by ts)

-- turn 0 isn't counted
pub count-zero : (j : List Entry) (e : Entry) (v w : List ℤ) (s : ℤ) → e.walk ≡ v ++ s ∷ [] → ¬ IsOnward s → asked_turns (j ++ e ∷ []) w ≡ asked_turns j w
count-zero j e v w s is never = count-same j e w onward_turns (by onward_turns all-onward)
  where
    by : (ts : List ℤ) → AllByRecursion IsOnward ts → AllByRecursion (λ t. e.walk ≢ w ++ t ∷ []) ts
    by [] all = tt
    by (t ∷ ts) all = ((λ q. never (subst (λ x. IsOnward x) (sym (last-turn v w s t (sym is ∙ q)).1) all.0)), by ts all.1)

abbrev are_apart : List ℤ → Bool
are_apart [] = true
are_apart (t ∷ ts) = not (list_any (int_eq t) ts) && are_apart ts

turns_apart : Apart onward_turns
turns_apart = by onward_turns refl
  where
    new : (t : ℤ) (ts : List ℤ) → not (list_any (int_eq t) ts) ≡ true → AllByRecursion (λ s. t ≢ s) ts
    new t [] e = tt
    new t (s ∷ ts) e = step (int_eq t s) refl e (new t ts)
      where
        step : (b : Bool) → int_eq t s ≡ b → not (b || list_any (int_eq t) ts) ≡ true → (not (list_any (int_eq t) ts) ≡ true → AllByRecursion (λ s. t ≢ s) ts) → AllByRecursion (λ s. t ≢ s) (s ∷ ts)
        step true p f rest = absurd (false≢true f)
        step false p f rest = ((λ z. true≢false (sym ((Decides-int_eq t s).1 z) ∙ p)), rest f)

    by : (ts : List ℤ) → are_apart ts ≡ true → Apart ts
    by [] e = tt
    by (t ∷ ts) e = let two = and_parts (not (list_any (int_eq t) ts)) (are_apart ts) e in (new t ts two.0, by ts two.1)

-- one turn more of the node in front of the last entry
count-more : (j : List Entry) (e : Entry) (w : List ℤ) (s : ℤ) (ts : List ℤ) → e.walk ≡ w ++ s ∷ [] → is_asked j e.walk ≡ false → Apart ts → IsMember s ts → asked_among (j ++ e ∷ []) w ts ≡ asked_among j w ts + 1
count-more j e w s [] is fresh apart m = absurd m
count-more j e w s (t ∷ ts) is fresh apart (inl here) =
    let now : is_asked (j ++ e ∷ []) (w ++ t ∷ []) ≡ true = ap (is_asked (j ++ e ∷ [])) (sym (is ∙ ap (λ x. w ++ x ∷ []) here)) ∙ asked-last j e in
    let before : is_asked j (w ++ t ∷ []) ≡ false = ap (is_asked j) (sym (is ∙ ap (λ x. w ++ x ∷ []) here)) ∙ fresh in
    let rest : asked_among (j ++ e ∷ []) w ts ≡ asked_among j w ts = count-same j e w ts (others ts apart.0) in
    (λ i. one_if (now i) + rest i) ∙ (let r : 1 + asked_among j w ts ≡ (0 + asked_among j w ts) + 1 = omega arith in r) ∙ (λ i. (one_if (sym before i) + asked_among j w ts) + 1)
  where
    others : (us : List ℤ) → AllByRecursion (λ u. t ≢ u) us → AllByRecursion (λ u. e.walk ≢ w ++ u ∷ []) us
    others [] all = tt
    others (u ∷ us) all = ((λ q. all.0 (sym here ∙ (last-turn w w s u (sym is ∙ q)).1)), others us all.1)
count-more j e w s (t ∷ ts) is fresh apart (inr later) =
    let same : is_asked (j ++ e ∷ []) (w ++ t ∷ []) ≡ is_asked j (w ++ t ∷ []) = asked-before j e (w ++ t ∷ []) (λ q. differs ts apart.0 later ((last-turn w w s t (sym is ∙ q)).1)) in
    let rest = count-more j e w s ts is fresh apart.1 later in
    (λ i. one_if (same i) + rest i) ∙ (let r : one_if (is_asked j (w ++ t ∷ [])) + (asked_among j w ts + 1) ≡ (one_if (is_asked j (w ++ t ∷ [])) + asked_among j w ts) + 1 = omega arith in r)
  where
    differs : (us : List ℤ) → AllByRecursion (λ u. t ≢ u) us → IsMember s us → s ≢ t
    differs [] all m q = m
    differs (u ∷ us) all (inl p) q = all.0 (sym q ∙ p)
    differs (u ∷ us) all (inr n) q = differs us all.1 n q

pub count-next : (j : List Entry) (e : Entry) (w : List ℤ) (s : ℤ) → e.walk ≡ w ++ s ∷ [] → is_asked j e.walk ≡ false → IsOnward s → asked_turns (j ++ e ∷ []) w ≡ asked_turns j w + 1
count-next j e w s is fresh on = count-more j e w s onward_turns is fresh turns_apart (onward-member s on)
