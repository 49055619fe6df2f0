-- Searches through a list: what holds of each element, or one of which something else holds.
use Rattle.std.proofs.Common.{◌≡◌, List, [], ◌∷◌, sym, subst, refl, ◌⊎◌, inl, inr}
use Rattle.journal_defs.proofs.Members.{IsMember}

abbrev pub Each : {X : Type 0} → (X → Type 0) → List X → Type 0
Each P xs = (x : _) → IsMember x xs → P x

-- an element of a list of which something holds
pub record Among {X : Type 0} (xs : List X) (Q : X → Type 0) : Type 0 where
  pub item : X
  pub member : IsMember item xs
  pub holds : Q item

each-more : {X : Type 0} (P : X → Type 0) (x : X) (xs : List X) → P x → Each P xs → Each P (x ∷ xs)
each-more P x xs here rest y (inl e) = subst P (sym e) here
each-more P x xs here rest y (inr m) = rest y m

pub look : {X : Type 0} (P Q : X → Type 0) (xs : List X) → ((x : X) → IsMember x xs → P x ⊎ Q x) → Each P xs ⊎ Among xs Q
look P Q [] f = inl (λ x m. absurd m)
look P Q (x ∷ xs) f = by (f x (inl refl)) (look P Q xs (λ y m. f y (inr m)))
  where
    by : P x ⊎ Q x → Each P xs ⊎ Among xs Q → Each P (x ∷ xs) ⊎ Among (x ∷ xs) Q
    by (inr q) r = inr (record { item = x; member = inl refl; holds = q })
    by (inl p) (inr a) = inr (record { item = a.item; member = inr a.member; holds = a.holds })
    by (inl p) (inl all) = inl (each-more P x xs p all)

-- an order in which a search can look for the least
pub record IsOrder {X : Type 0} (Below : X → X → Type 0) : Type 0 where
  pub never : (x : X) → ¬ Below x x
  pub through : (x y z : X) → Below x y → Below y z → Below x z
  pub either : (x y : X) → Below x y ⊎ ¬ Below x y

-- the least element of which something holds: of those below it something else does
pub record Least {X : Type 0} (Below : X → X → Type 0) (xs : List X) (P Q : X → Type 0) : Type 0 where
  pub item : X
  pub member : IsMember item xs
  pub holds : Q item
  pub lesser : (y : X) → IsMember y xs → Below y item → P y

module _ {X : Type 0} (Below : X → X → Type 0) (order : IsOrder Below) (P Q : X → Type 0) where
  least-new : (x : X) (xs : List X) → Q x → ((y : X) → IsMember y xs → Below y x → P y) → Least Below (x ∷ xs) P Q
  least-new x xs q rest = record { item = x; member = inl refl; holds = q; lesser = λ y m b. by y m b }
    where
      by : (y : X) → (y ≡ x) ⊎ IsMember y xs → Below y x → P y
      by y (inl e) b = absurd (order.never x (subst (λ z. Below z x) e b))
      by y (inr m) b = rest y m b

  least-old : (x : X) (xs : List X) (l : Least Below xs P Q) → (Below x l.item → P x) → Least Below (x ∷ xs) P Q
  least-old x xs l here = record { item = l.item; member = inr l.member; holds = l.holds; lesser = λ y m b. by y m b }
    where
      by : (y : X) → (y ≡ x) ⊎ IsMember y xs → Below y l.item → P y
      by y (inl e) b = subst P (sym e) (here (subst (λ z. Below z l.item) e b))
      by y (inr m) b = l.lesser y m b

  pub least : (xs : List X) → ((x : X) → IsMember x xs → P x ⊎ Q x) → Each P xs ⊎ Least Below xs P Q
  least [] f = inl (λ x m. absurd m)
  least (x ∷ xs) f = by (f x (inl refl)) (least xs (λ y m. f y (inr m)))
    where
      split : Q x → (l : Least Below xs P Q) → Below x l.item ⊎ ¬ Below x l.item → Least Below (x ∷ xs) P Q
      split q l (inl b) = least-new x xs q (λ y m c. l.lesser y m (order.through y x l.item c b))
      split q l (inr b) = least-old x xs l (λ c. absurd (b c))

      by : P x ⊎ Q x → Each P xs ⊎ Least Below xs P Q → Each P (x ∷ xs) ⊎ Least Below (x ∷ xs) P Q
      by (inl p) (inl all) = inl (each-more P x xs p all)
      by (inl p) (inr l) = inr (least-old x xs l (λ b. p))
      by (inr q) (inl all) = inr (least-new x xs q (λ y m b. all y m))
      by (inr q) (inr l) = inr (split q l (order.either x l.item))
