-- Lists in which no element stands twice, and what holds of each element.
use Rattle.std.proofs.Common.{◌≡◌, ◌≢◌, ℕ, List, [], ◌∷◌, ◌++◌, Bool, true, false, ◌||◌, sym, ◌∙◌, true≢false, refl}
use Rattle.std.specs.List.{AllByRecursion, list_any}
use Rattle.std.specs.Prelude.{bytes_eq}
use Rattle.std.proofs.lemmas.Slice.Eq.{bytes_eq-Decides}
use Rattle.net_defs.specs.Network.{Apart}

-- what holds of each element of two lists, and of one between them
pub all-insert : {X : Type 0} (P : X → Type 0) (xs ys : List X) (x : X) → AllByRecursion P (xs ++ ys) → P x → AllByRecursion P ((xs ++ x ∷ []) ++ ys)
all-insert P [] ys x all here = (here, all)
all-insert P (w ∷ xs) ys x all here = (all.0, all-insert P xs ys x all.1 here)

-- what holds of each element, by what it implies
pub all-weaker : {X : Type 0} (P Q : X → Type 0) (xs : List X) → ((x : X) → P x → Q x) → AllByRecursion P xs → AllByRecursion Q xs
all-weaker P Q [] f all = tt
all-weaker P Q (x ∷ xs) f all = (f x all.0, all-weaker P Q xs f all.1)

pub all-push : {X : Type 0} (P : X → Type 0) (xs : List X) (x : X) → AllByRecursion P xs → P x → AllByRecursion P (xs ++ x ∷ [])
all-push P [] x all here = (here, tt)
all-push P (w ∷ xs) x all here = (all.0, all-push P xs x all.1 here)

-- elements that were apart stay so with a new one between them
pub apart-insert : {X : Type 0} (xs ys : List X) (x : X) → Apart (xs ++ ys) → AllByRecursion (λ y. x ≢ y) (xs ++ ys) → Apart ((xs ++ x ∷ []) ++ ys)
apart-insert [] ys x apart new = (new, apart)
apart-insert (w ∷ xs) ys x apart new =
    (all-insert (λ y. w ≢ y) xs ys x apart.0 (λ e. new.0 (sym e)), apart-insert xs ys x apart.1 new.1)

pub apart-push : {X : Type 0} (xs : List X) (x : X) → Apart xs → AllByRecursion (λ y. x ≢ y) xs → Apart (xs ++ x ∷ [])
apart-push [] x apart new = (tt, tt)
apart-push (w ∷ xs) x apart new = (all-push (λ y. w ≢ y) xs x apart.0 (λ e. new.0 (sym e)), apart-push xs x apart.1 new.1)

-- a name that is none of the names differs from each
pub new_name : (name : List ℕ) (all : List (List ℕ)) → list_any (bytes_eq name) all ≡ false → AllByRecursion (λ y. name ≢ y) all
new_name name [] e = tt
new_name name (w ∷ ws) e = by (bytes_eq name w) refl e (new_name name ws)
  where
    by : (b : Bool) → bytes_eq name w ≡ b → (b || list_any (bytes_eq name) ws) ≡ false → (list_any (bytes_eq name) ws ≡ false → AllByRecursion (λ y. name ≢ y) ws) → AllByRecursion (λ y. name ≢ y) (w ∷ ws)
    by true t f rest = absurd (true≢false f)
    by false t f rest = ((λ same. true≢false (sym ((bytes_eq-Decides name w).1 same) ∙ t)), rest f)
