-- The switches of the first vertices of a map, by number.
use Rattle.std.proofs.Common.{◌≡◌, ◌<◌, ◌≤◌, ◌+◌, ◌⊎◌, inl, inr, ℕ, zero, suc, List, [], ◌∷◌, ◌++◌, true, false, length, take, Option, Some, None, refl, ap, sym, ◌∙◌, subst, add-one, arith}
use Rattle.std.specs.Prelude.{slice_get}
use Rattle.journal_defs.specs.Counting.{numbers_below}
use Rattle.journal_defs.proofs.Members.{length-numbers}
use Rattle.map_defs.specs.declared.vertex.MapVertex.{MapVertex}
use Rattle.map_defs.specs.declared.vertex.MapVertex.TheVariants.{Host, Switch}
use Rattle.map_defs.specs.NetMap.{NetMap, IsMap, switches_of, switch_at}
use Rattle.map_canon.specs.Declaring.{IsSwitchIndex}
use Rattle.fab_judge.specs.Shown.{with_place}
use Rattle.map_canon.proofs.Indexed.{index-none, index-host, index-switch}

at-take : {X : Type 0} (xs : List X) (i : ℕ) (x : X) → slice_get xs i ≡ Some x → take (suc i) xs ≡ take i xs ++ x ∷ []
at-take [] i x e = cc
at-take (y ∷ ys) zero x e = let same : y ≡ x = cc in ap (λ z. z ∷ []) same
at-take (y ∷ ys) (suc i) x e = ap (λ zs. y ∷ zs) (at-take ys i x e)

taken-length : {X : Type 0} (xs : List X) (i : ℕ) (x : X) → slice_get xs i ≡ Some x → length (take i xs) ≡ i
taken-length [] i x e = cc
taken-length (y ∷ ys) zero x e = refl
taken-length (y ∷ ys) (suc i) x e = let h = taken-length ys i x e in omega arith

pub whole-take : {X : Type 0} (xs : List X) (i : ℕ) → length xs ≤ i → take i xs ≡ xs
whole-take [] zero h = refl
whole-take [] (suc i) h = refl
whole-take (x ∷ xs) zero h = absurd (omega arith)
whole-take (x ∷ xs) (suc i) h = ap (λ zs. x ∷ zs) (whole-take xs i (omega arith))

get-push : (xs : List ℕ) (x k t : ℕ) → slice_get (xs ++ x ∷ []) k ≡ Some t → (slice_get xs k ≡ Some t) ⊎ ((k ≡ length xs) × (t ≡ x))
get-push [] x zero t e = let same : t ≡ x = cc in inr (refl, same)
get-push [] x (suc k) t e = cc
get-push (y ∷ ys) x zero t e = inl e
get-push (y ∷ ys) x (suc k) t e = by (get-push ys x k t e)
  where
    by : (slice_get ys k ≡ Some t) ⊎ ((k ≡ length ys) × (t ≡ x)) → (slice_get ys k ≡ Some t) ⊎ ((suc k ≡ length (y ∷ ys)) × (t ≡ x))
    by (inl h) = inl h
    by (inr h) = let longer = h.0 in inr (omega arith, h.1)

number-at : (n k t : ℕ) → slice_get (numbers_below n) k ≡ Some t → t ≡ k
number-at zero k t e = cc
number-at (suc n) k t e = by (get-push (numbers_below n) n k t e) (number-at n k t)
  where
    by : (slice_get (numbers_below n) k ≡ Some t) ⊎ ((k ≡ length (numbers_below n)) × (t ≡ n)) → (slice_get (numbers_below n) k ≡ Some t → t ≡ k) → t ≡ k
    by (inl h) before = before h
    by (inr h) before = h.1 ∙ sym (h.0 ∙ length-numbers n)

switch-number : (vs : List MapVertex) (i t : ℕ) → slice_get vs i ≡ Some (Switch t) → slice_get (switches_of vs) (length (switches_of (take i vs))) ≡ Some t
switch-number [] i t e = cc
switch-number (Host h ∷ vs) zero t e = cc
switch-number (Host h ∷ vs) (suc i) t e = switch-number vs i t e
switch-number (Switch s ∷ vs) zero t e = let same : s ≡ t = cc in ap (λ k. Some k) same
switch-number (Switch s ∷ vs) (suc i) t e = switch-number vs i t e

-- no vertex
pub none-indexed : (vs : List MapVertex) (sw : List ℕ) → sw ≡ [] → IsSwitchIndex (take 0 vs) sw
none-indexed vs sw e = subst (IsSwitchIndex []) (sym e) index-none

-- a vertex more
switch-indexed : (m : NetMap) (i : ℕ) (x : MapVertex) (sw now : List ℕ) → IsMap m → slice_get m.vertices i ≡ Some x → switch_at (Some x) ≡ true → now ≡ sw ++ i ∷ []
    → IsSwitchIndex (take i m.vertices) sw → IsSwitchIndex (take (i + 1) m.vertices) now
switch-indexed m i (Host h) sw now is e s p index = cc
switch-indexed m i (Switch t) sw now is e s p index =
    let vs = m.vertices in
    let place = length (switches_of (take i vs)) in
    let same : t ≡ place = number-at (length (switches_of vs)) place t (ap (λ l. slice_get l place) (sym is.switches_numbered) ∙ switch-number vs i t e) in
    let list : take (i + 1) vs ≡ take i vs ++ Switch place ∷ [] = ap (λ k. take k vs) (add-one i) ∙ at-take vs i (Switch t) e ∙ ap (λ k. take i vs ++ Switch k ∷ []) same in
    let made : now ≡ sw ++ length (take i vs) ∷ [] = p ∙ ap (λ k. sw ++ k ∷ []) (sym (taken-length vs i (Switch t) e)) in
    subst (λ us. IsSwitchIndex us now) (sym list) (subst (IsSwitchIndex (take i vs ++ Switch place ∷ [])) (sym made) (index-switch (take i vs) sw index))

host-indexed : (m : NetMap) (i : ℕ) (x : MapVertex) (sw : List ℕ) → slice_get m.vertices i ≡ Some x → switch_at (Some x) ≡ false
    → IsSwitchIndex (take i m.vertices) sw → IsSwitchIndex (take (i + 1) m.vertices) sw
host-indexed m i (Switch t) sw e s index = cc
host-indexed m i (Host h) sw e s index =
    let vs = m.vertices in
    let list : take (i + 1) vs ≡ take i vs ++ Host h ∷ [] = ap (λ k. take k vs) (add-one i) ∙ at-take vs i (Host h) e in
    subst (λ us. IsSwitchIndex us sw) (sym list) (index-host (take i vs) sw h index)

get-some : {X : Type 0} (xs : List X) (i : ℕ) → i < length xs → slice_get xs i ≡ None → ⊥
get-some [] i h e = absurd (omega arith)
get-some (x ∷ xs) zero h e = cc
get-some (x ∷ xs) (suc i) h e = get-some xs i (omega arith) e

pub vertex-indexed : (m : NetMap) (i : ℕ) (x : Option MapVertex) (sw now : List ℕ) → IsMap m → i < length m.vertices → x ≡ slice_get m.vertices i → now ≡ with_place x i sw
    → IsSwitchIndex (take i m.vertices) sw → IsSwitchIndex (take (i + 1) m.vertices) now
vertex-indexed m i None sw now is h e p index = absurd (get-some m.vertices i h (sym e))
vertex-indexed m i (Some (Host k)) sw now is h e p index = subst (IsSwitchIndex (take (i + 1) m.vertices)) (sym p) (host-indexed m i (Host k) sw (sym e) refl index)
vertex-indexed m i (Some (Switch t)) sw now is h e p index = switch-indexed m i (Switch t) sw now is (sym e) refl p index
