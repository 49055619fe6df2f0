-- The ways that were added are all ways of a journal, and no others.
use Rattle.std.proofs.Common.{◌≡◌, ◌≢◌, ◌<◌, ◌⊎◌, inl, inr, ℕ, zero, suc, ◌+◌, List, [], ◌∷◌, ◌++◌, Bool, true, false, ◌||◌, length, map, ◌-◌, Option, Some, None, get_or, refl, ap, sym, ◌∙◌, subst, true≢false, arith}
use Rattle.std.specs.Prelude.{ℤ, slice_get}
use Rattle.std.proofs.lemmas.Option.{slice_get_within, slice_get-map, get_or_from_slice_get}
use Rattle.net_defs.specs.Turn.{same_turns}
use Rattle.journal_defs.specs.Tree.{Node, node_below}
use Rattle.journal_defs.specs.Tree.Node.{Mapper, Reached}
use Rattle.net_defs.proofs.Turns.{same_turns-refl}
use Rattle.probe.specs.Keeping.{has_walk}
use Rattle.replicate_merge.specs.Ways.{Has, node_at}
use Rattle.replicate_merge.specs.Nodes.{nodes_of}
use Rattle.replicate_merge.specs.declared.way.Way.{Way}

-- a way of two lists of ways is one of either
has-left : (xs ys : List Way) (k : ℕ) (w : Way) → slice_get xs k ≡ Some w → slice_get (xs ++ ys) k ≡ Some w
has-left [] ys k w e = cc
has-left (x ∷ xs) ys zero w e = e
has-left (x ∷ xs) ys (suc k) w e = has-left xs ys k w e

pub keeps : (xs ys : List Way) (w : Way) → Has xs w → Has (xs ++ ys) w
keeps xs ys w h = record { place = h.place; there = has-left xs ys h.place w h.there }

pub adds : (xs ys : List Way) (w : Way) → Has ys w → Has (xs ++ ys) w
adds [] ys w h = h
adds (x ∷ xs) ys w h = let r = adds xs ys w h in record { place = suc r.place; there = r.there }

parts : (xs ys : List Way) (k : ℕ) (w : Way) → slice_get (xs ++ ys) k ≡ Some w → Has xs w ⊎ Has ys w
parts [] ys k w e = inr (record { place = k; there = e })
parts (x ∷ xs) ys zero w e = inl (record { place = 0; there = e })
parts (x ∷ xs) ys (suc k) w e = by (parts xs ys k w e)
  where
    by : Has xs w ⊎ Has ys w → Has (x ∷ xs) w ⊎ Has ys w
    by (inl h) = inl (record { place = suc h.place; there = h.there })
    by (inr h) = inr h

pub either : (xs ys : List Way) (w : Way) → Has (xs ++ ys) w → Has xs w ⊎ Has ys w
either xs ys w h = parts xs ys h.place w h.there

pub one-of : (a w : Way) → Has (a ∷ []) w → w ≡ a
one-of a w h = by h.place h.there
  where
    by : (k : ℕ) → slice_get (a ∷ []) k ≡ Some w → w ≡ a
    by zero e = cc
    by (suc k) e = cc

pub two-of : (a b w : Way) → Has (a ∷ b ∷ []) w → (w ≡ a) ⊎ (w ≡ b)
two-of a b w h = by h.place h.there
  where
    by : (k : ℕ) → slice_get (a ∷ b ∷ []) k ≡ Some w → (w ≡ a) ⊎ (w ≡ b)
    by zero e = inl (let r : w ≡ a = cc in r)
    by (suc zero) e = inr (let r : w ≡ b = cc in r)
    by (suc (suc k)) e = cc

pub no-way : (w : Way) → Has [] w → ⊥
no-way w h = let e = h.there in cc

pub first-of : (a b : Way) → Has (a ∷ b ∷ []) a
first-of a b = record { place = 0; there = refl }

pub second-of : (a b : Way) → Has (a ∷ b ∷ []) b
second-of a b = record { place = 1; there = refl }

-- one node more than walks
pub count-nodes : (walks : List (List ℤ)) → length (nodes_of walks) ≡ suc (length walks)
count-nodes walks = ap (λ n. suc n) (by walks)
  where
    by : (vs : List (List ℤ)) → length (map Reached vs) ≡ length vs
    by [] = refl
    by (v ∷ vs) = ap (λ n. suc n) (by vs)

-- the node of a walk
pub walk-node : (walks : List (List ℤ)) (at : ℕ) (w : List ℤ) → slice_get walks at ≡ Some w → (at + 1 < length (nodes_of walks)) × (node_at (nodes_of walks) (at + 1) ≡ Reached w)
walk-node walks at w e = (below, is)
  where
    got : slice_get (map Reached walks) at ≡ Some (Reached w)
    got = slice_get-map Reached walks at ∙ (λ i. one (e i))
      where
        one : Option (List ℤ) → Option Node
        one None = None
        one (Some v) = Some (Reached v)

    inside : at < length walks
    inside = slice_get_within walks at w e

    below : at + 1 < length (nodes_of walks)
    below = let c = count-nodes walks in let i = inside in omega arith

    is : node_at (nodes_of walks) (at + 1) ≡ Reached w
    is = ap (node_at (nodes_of walks)) (let s : at + 1 ≡ suc at = omega arith in s) ∙ get_or_from_slice_get (map Reached walks) at (Reached w) Mapper got

-- no walk stands where none is found
pub no-walk : (walks : List (List ℤ)) (w : List ℤ) → has_walk walks w ≡ false → (at : ℕ) → slice_get walks at ≢ Some w
no-walk [] w e at s = cc
no-walk (v ∷ vs) w e zero s = by (same_turns v w) refl e
  where
    by : (b : Bool) → same_turns v w ≡ b → (b || has_walk vs w) ≡ false → ⊥
    by true p q = true≢false q
    by false p q = let one : v ≡ w = cc in true≢false (sym (subst (λ x. same_turns v x ≡ true) one (same_turns-refl v)) ∙ p)
no-walk (v ∷ vs) w e (suc at) s = by (same_turns v w) e (λ f. no-walk vs w f at s)
  where
    by : (b : Bool) → (b || has_walk vs w) ≡ false → (has_walk vs w ≡ false → ⊥) → ⊥
    by true p f = true≢false p
    by false p f = f p

-- the walk of a node other than the mapper's
pub record IsWalked (walks : List (List ℤ)) (n : ℕ) (w : List ℤ) : Type 0 where
  pub place : ℕ
  pub number : n ≡ place + 1
  pub walk : slice_get walks place ≡ Some w

pub node-walk : (walks : List (List ℤ)) (n : ℕ) (w : List ℤ) → n < length (nodes_of walks) → node_at (nodes_of walks) n ≡ Reached w → IsWalked walks n w
node-walk walks zero w l e = cc
node-walk walks (suc n) w l e = record { place = n; number = omega arith; walk = found walks n (omega arith) e }
  where
    found : (vs : List (List ℤ)) (n : ℕ) → n < length (map Reached vs) → get_or (map Reached vs) n Mapper ≡ Reached w → slice_get vs n ≡ Some w
    found [] n l e = absurd (omega arith)
    found (v ∷ vs) zero l e = let one : v ≡ w = cc in ap Some one
    found (v ∷ vs) (suc n) l e = found vs n (omega arith) e

-- the last turn of a walk, and what is in front of it
pub last-turn : (front back : List ℤ) (s t : ℤ) → front ++ s ∷ [] ≡ back ++ t ∷ [] → (front ≡ back) × (s ≡ t)
last-turn [] [] s t e = (refl, let one : s ≡ t = cc in one)
last-turn [] (y ∷ ys) s t e = absurd (empty ys (let r : [] ≡ ys ++ t ∷ [] = cc in r))
  where
    empty : (ys : List ℤ) → [] ≡ ys ++ t ∷ [] → ⊥
    empty [] r = cc
    empty (z ∷ zs) r = cc
last-turn (x ∷ xs) [] s t e = absurd (empty xs (let r : xs ++ s ∷ [] ≡ [] = cc in r))
  where
    empty : (xs : List ℤ) → xs ++ s ∷ [] ≡ [] → ⊥
    empty [] r = cc
    empty (z ∷ zs) r = cc
last-turn (x ∷ xs) (y ∷ ys) s t e =
    let rest = last-turn xs ys s t (let r : xs ++ s ∷ [] ≡ ys ++ t ∷ [] = cc in r) in
    let one : x ≡ y = cc in
    ((λ i. one i ∷ rest.0 i), rest.1)

pub not-empty : (front : List ℤ) (t : ℤ) → front ++ t ∷ [] ≢ []
not-empty [] t e = cc
not-empty (x ∷ xs) t e = cc

-- the node of a walk, by a number other than the mapper's
pub numbered-node : (walks : List (List ℤ)) (n : ℕ) (w : List ℤ) → n ≢ 0 → slice_get walks (n - 1) ≡ Some w → node_at (nodes_of walks) n ≡ Reached w
numbered-node walks n w d e = ap (node_at (nodes_of walks)) (let s : n ≡ n - 1 + 1 = omega arith in s) ∙ (walk-node walks (n - 1) w e).1

-- the mapper's host stands before each other node
pub mapper-below : (walks : List (List ℤ)) (n : ℕ) → n ≢ 0 → n < length walks + 1 → node_below Mapper (node_at (nodes_of walks) n) ≡ true
mapper-below walks zero d l = absurd (d refl)
mapper-below walks (suc n) d l = each walks n (omega arith)
  where
    each : (vs : List (List ℤ)) (k : ℕ) → k < length vs → node_below Mapper (node_at (map Reached vs) k) ≡ true
    each [] k l = absurd (omega arith)
    each (v ∷ vs) zero l = refl
    each (v ∷ vs) (suc k) l = each vs k (omega arith)
