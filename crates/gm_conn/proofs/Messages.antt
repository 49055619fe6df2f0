-- Lists by their places, and the messages that descriptors stand for.
use Rattle.std.proofs.Common.{◌≡◌, ◌<◌, ◌+◌, ℕ, zero, suc, List, [], ◌∷◌, ◌++◌, length, take, drop, Some, None, refl, sym, ap, ◌∙◌, subst, arith}
use Rattle.std.specs.Prelude.{slice_get}
use Rattle.std.specs.List.{AllByRecursion}
use Rattle.std.proofs.lemmas.List.{length-replicate}
use Rattle.std.proofs.lemmas.Option.{same_Some, none-some}
use Rattle.gm_defs.specs.Fragment.{piece_count}
use Rattle.gm_conn.specs.declared.desc.Desc.{Desc}
use Rattle.gm_conn.specs.Halves.{message_of}

-- what holds of each element holds of one
pub all-at : {X : Type 0} (P : X → Type 0) (xs : List X) (k : ℕ) (x : X) → AllByRecursion P xs → slice_get xs k ≡ Some x → P x
all-at P [] k x all e = absurd (none-some x e)
all-at P (y ∷ xs) zero x all e = subst P (same_Some y x e) all.0
all-at P (y ∷ xs) (suc k) x all e = all-at P xs k x all.1 e

-- an element within a list
pub within : {X : Type 0} (xs : List X) (k : ℕ) → k < length xs → (x : X) × (slice_get xs k ≡ Some x)
within [] k h = absurd (omega arith)
within (x ∷ xs) zero h = (x, refl)
within (x ∷ xs) (suc k) h = within xs k (omega arith)

-- one element more
pub take-next : {X : Type 0} (xs : List X) (k : ℕ) (x : X) → slice_get xs k ≡ Some x → take (k + 1) xs ≡ take k xs ++ x ∷ []
take-next [] k x e = absurd (none-some x e)
take-next (y ∷ xs) zero x e = ap (λ z. z ∷ []) (same_Some y x e)
take-next (y ∷ xs) (suc k) x e =
    let more : suc k + 1 ≡ suc (k + 1) = omega arith in
    ap (λ n. take n (y ∷ xs)) more ∙ ap (λ l. y ∷ l) (take-next xs k x e)

-- and what is left from there on
pub drop-at : {X : Type 0} (xs : List X) (k : ℕ) (x : X) → slice_get xs k ≡ Some x → drop k xs ≡ x ∷ drop (k + 1) xs
drop-at [] k x e = absurd (none-some x e)
drop-at (y ∷ xs) zero x e = ap (λ z. z ∷ xs) (same_Some y x e)
drop-at (y ∷ xs) (suc k) x e =
    let more : suc (k + 1) ≡ suc k + 1 = omega arith in
    drop-at xs k x e ∙ ap (λ n. x ∷ drop n (y ∷ xs)) more

pub drop-past : {X : Type 0} (xs : List X) (k : ℕ) → slice_get xs k ≡ None → drop k xs ≡ []
drop-past [] zero e = refl
drop-past [] (suc k) e = refl
drop-past (y ∷ xs) zero e = absurd (none-some y (sym e))
drop-past (y ∷ xs) (suc k) e = drop-past xs k e

-- how long the message of a descriptor is, and how many fragments it has
pub long-of : (d : Desc) → length (message_of d).body ≡ d.total
long-of d = length-replicate {A = ℕ} d.total 0

pub pieces-of : (d : Desc) → piece_count (length (message_of d).body) ≡ piece_count d.total
pieces-of d = ap piece_count (long-of d)
