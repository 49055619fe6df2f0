-- Heads, names and marks in memory after one class was joined to another.
use Rattle.std.proofs.Common.{◌≡◌, ◌≢◌, ◌<◌, ◌≤◌, ◌⊎◌, inl, inr, ℕ, zero, suc, ◌-◌, List, [], ◌∷◌, Bool, length, take, set, get_or, Some, refl, ap, sym, ◌∙◌, arith, get_or-set_other, get_or-set_same}
use Rattle.std.specs.Prelude.{ℤ, pos, slice_get}
use Rattle.std.proofs.Math.ListN.{length-set}
use Rattle.std.proofs.lemmas.Bool.{cases_eq}
use Rattle.journal_defs.specs.Tree.{Node}
use Rattle.replicate_merge.specs.declared.heads.Head.{Head}
use Rattle.replicate_merge.specs.Heads.{head_at}
use Rattle.replicate_merge.specs.HeadSteps.{JoinsHead, JoinsHeads, DropsNumber}
use Rattle.replicate_merge.specs.HeadSteps.JoinsHead.{under_old, under_kept}

pub get-take : {X : Type 0} (xs : List X) (k n : ℕ) → n < k → slice_get (take k xs) n ≡ slice_get xs n
get-take xs zero n l = absurd (omega arith)
get-take [] (suc k) n l = refl
get-take (x ∷ xs) (suc k) zero l = refl
get-take (x ∷ xs) (suc k) (suc n) l = get-take xs k n (omega arith)

pub get-set : {X : Type 0} (xs : List X) (k : ℕ) (v : X) → k < length xs → slice_get (set xs k v) k ≡ Some v
get-set [] k v l = absurd (omega arith)
get-set (x ∷ xs) zero v l = refl
get-set (x ∷ xs) (suc k) v l = get-set xs k v (omega arith)

pub get-other : {X : Type 0} (xs : List X) (k n : ℕ) (v : X) → n ≢ k → slice_get (set xs k v) n ≡ slice_get xs n
get-other [] k n v d = refl
get-other (x ∷ xs) zero zero v d = absurd (d refl)
get-other (x ∷ xs) zero (suc n) v d = refl
get-other (x ∷ xs) (suc k) zero v d = refl
get-other (x ∷ xs) (suc k) (suc n) v d = get-other xs k n v (λ e. d (ap (λ m. suc m) e))

pub count-take : {X : Type 0} (xs : List X) (k : ℕ) → k ≤ length xs → length (take k xs) ≡ k
count-take xs zero l = refl
count-take [] (suc k) l = absurd (omega arith)
count-take (x ∷ xs) (suc k) l = ap (λ n. suc n) (count-take xs k (omega arith))

-- an item that is there, whatever stands for one that isn't
pub any-default : {X : Type 0} (xs : List X) (k : ℕ) (d e : X) → k < length xs → get_or xs k d ≡ get_or xs k e
any-default [] k d e l = absurd (omega arith)
any-default (x ∷ xs) zero d e l = refl
any-default (x ∷ xs) (suc k) d e l = any-default xs k d e (omega arith)

abbrev pub no_head : Head
no_head = record { number = 0; least = 0; base = pos 0; count = 0 }

-- heads, and names by number, after a join
pub heads-after : (ns : List Node) (from to : ℕ) (by : ℤ) (hs new : List Head) (kept : Head) (names after : List ℕ) (marks marked : List Bool) → to < length hs → (head_at hs from).number < length names → ((k n : ℕ) → slice_get names k ≡ Some n → n < length hs) → JoinsHead ns (head_at hs from) (head_at hs to) kept by → (d : DropsNumber (head_at hs from).number (set hs to kept) new names after marks marked) → JoinsHeads ns from to by hs new names after d.last
heads-after ns from to by hs new kept names after marks marked inside number within joins d = record {
  count = (let c = count in omega arith);
  last_is = ap (slice_get names) count ∙ d.last_is;
  joined = at_to joins;
  other = λ n e. least_same n (cases_eq n d.last) ∙ ap (λ (x : Head). x.least) (mid_other n e);
  other_base = λ n e. base_same n (cases_eq n d.last) ∙ ap (λ (x : Head). x.base) (mid_other n e);
  renumbered = ap (λ (x : Head). x.number) here;
  number = λ n e. ap (λ (x : Head). x.number) (apart n e) ∙ number_mid n (cases_eq n to) joins;
  taken = λ l. ap (λ ms. slice_get ms (head_at hs from).number) d.names_are ∙ get-take (set names (head_at hs from).number d.last) (length names - 1) (head_at hs from).number (let c = count in omega arith) ∙ get-set names (head_at hs from).number d.last number;
  stays = λ class l e. ap (λ ms. slice_get ms class) d.names_are ∙ get-take (set names (head_at hs from).number d.last) (length names - 1) class (let c = count in omega arith) ∙ get-other names (head_at hs from).number class d.last e;
}
  where
    mid : List Head
    mid = set hs to kept

    written : Head
    written = record (head_at (set hs to kept) d.last) { number = (head_at hs from).number }

    count : length after ≡ length names - 1
    count = ap length d.names_are ∙ count-take (set names (head_at hs from).number d.last) (length names - 1) (let c = length-set names (head_at hs from).number d.last in omega arith)

    last_inside : d.last < length (set hs to kept)
    last_inside = let l = within (length names - 1) d.last d.last_is in let c = length-set hs to kept in omega arith

    here : head_at new d.last ≡ record (head_at (set hs to kept) d.last) { number = (head_at hs from).number }
    here = ap (λ (l : List Head). head_at l d.last) d.heads_are ∙ get_or-set_same (set hs to kept) d.last (record (head_at (set hs to kept) d.last) { number = (head_at hs from).number }) no_head last_inside

    apart : (n : ℕ) → n ≢ d.last → head_at new n ≡ head_at (set hs to kept) n
    apart n e = ap (λ (l : List Head). head_at l n) d.heads_are ∙ get_or-set_other (set hs to kept) d.last n (record (head_at (set hs to kept) d.last) { number = (head_at hs from).number }) no_head e

    mid_to : head_at (set hs to kept) to ≡ kept
    mid_to = get_or-set_same hs to kept no_head inside

    mid_other : (n : ℕ) → n ≢ to → head_at (set hs to kept) n ≡ head_at hs n
    mid_other n e = get_or-set_other hs to n kept no_head e

    least_same : (n : ℕ) → (n ≡ d.last) ⊎ (n ≢ d.last) → (head_at new n).least ≡ (head_at (set hs to kept) n).least
    least_same n (inl e) = ap (λ k. (head_at new k).least) e ∙ ap (λ (x : Head). x.least) here ∙ ap (λ k. (head_at (set hs to kept) k).least) (sym e)
    least_same n (inr e) = ap (λ (x : Head). x.least) (apart n e)

    base_same : (n : ℕ) → (n ≡ d.last) ⊎ (n ≢ d.last) → (head_at new n).base ≡ (head_at (set hs to kept) n).base
    base_same n (inl e) = ap (λ k. (head_at new k).base) e ∙ ap (λ (x : Head). x.base) here ∙ ap (λ k. (head_at (set hs to kept) k).base) (sym e)
    base_same n (inr e) = ap (λ (x : Head). x.base) (apart n e)

    number_mid : (n : ℕ) → (n ≡ to) ⊎ (n ≢ to) → JoinsHead ns (head_at hs from) (head_at hs to) kept by → (head_at (set hs to kept) n).number ≡ (head_at hs n).number
    number_mid n (inr e) x = ap (λ (x : Head). x.number) (mid_other n e)
    number_mid n (inl e) (under_old b m l o) = ap (λ k. (head_at (set hs to kept) k).number) e ∙ ap (λ (x : Head). x.number) mid_to ∙ m ∙ ap (λ k. (head_at hs k).number) (sym e)
    number_mid n (inl e) (under_kept b m l o) = ap (λ k. (head_at (set hs to kept) k).number) e ∙ ap (λ (x : Head). x.number) mid_to ∙ m ∙ ap (λ k. (head_at hs k).number) (sym e)

    at_to : JoinsHead ns (head_at hs from) (head_at hs to) kept by → JoinsHead ns (head_at hs from) (head_at hs to) (record (head_at new to) { number = (head_at hs to).number }) by
    at_to (under_old b m l o) = under_old b refl (least_same to (cases_eq to d.last) ∙ ap (λ (x : Head). x.least) mid_to ∙ l) (base_same to (cases_eq to d.last) ∙ ap (λ (x : Head). x.base) mid_to ∙ o)
    at_to (under_kept b m l o) = under_kept b refl (least_same to (cases_eq to d.last) ∙ ap (λ (x : Head). x.least) mid_to ∙ l) (base_same to (cases_eq to d.last) ∙ ap (λ (x : Head). x.base) mid_to ∙ o)
