-- The least nodes of a journal's classes: each class has one, and one number.
use Rattle.std.proofs.Common.{◌≡◌, ◌<◌, ℕ, zero, suc, List, [], ◌∷◌, map, length, false, Option, Some, None, sym, ◌∙◌, ap, true≢false, refl, arith, ◌⊎◌, inl, inr}
use Rattle.std.specs.Prelude.{ℤ, ◌+ℤ◌, neg_ℤ, slice_get}
use Rattle.std.proofs.lemmas.Bool.{cases_order}
use Rattle.std.proofs.lemmas.List.{length-map}
use Rattle.journal_defs.specs.declared.entry.Entry.{Entry}
use Rattle.journal_defs.specs.Tree.{Node, host_of, node_below}
use Rattle.journal_defs.specs.Tree.Node.{Mapper, Reached}
use Rattle.journal_defs.specs.Replicates.{Replicates}
use Rattle.journal_defs.specs.Replicates.Replicates.{turned as other_way, along}
use Rattle.journal_defs.proofs.Asking.{not_apart}
use Rattle.map_defs.specs.NetMap.{NetMap, host_at, host_of_vertex}
use Rattle.map_defs.specs.Quotient.{IsQuotient, IsLeastNode, IsOfVertex, named}
use Rattle.map_defs.proofs.TwoHosts.{itself_not_below}

-- two nodes of which neither stands before the other are one
pub not_apart-nodes : (u v : Node) → node_below u v ≡ false → node_below v u ≡ false → u ≡ v
not_apart-nodes Mapper Mapper a b = refl
not_apart-nodes Mapper (Reached w) a b = absurd (true≢false a)
not_apart-nodes (Reached v) Mapper a b = absurd (true≢false b)
not_apart-nodes (Reached v) (Reached w) a b = ap Reached (not_apart v w (λ e. true≢false (sym e ∙ a)) (λ e. true≢false (sym e ∙ b)))

-- the least node of a class is one
pub least-one : (host : ℕ) (j : List Entry) (u v : Node) (k : ℤ) → IsLeastNode host j u → IsLeastNode host j v → Replicates host j u v k → u ≡ v
least-one host j u v k a b r = not_apart-nodes u v (b.least u (neg_ℤ k) (other_way r)) (a.least v k r)

-- elements of a list, by their places
pub get-below : {X : Type 0} (xs : List X) (v : ℕ) (x : X) → slice_get xs v ≡ Some x → v < length xs
get-below [] v x e = cc
get-below (y ∷ ys) zero x e = omega arith
get-below (y ∷ ys) (suc v) x e = let l = get-below ys v x e in omega arith

pub below-get : {X : Type 0} (xs : List X) (v : ℕ) → v < length xs → (x : X) × (slice_get xs v ≡ Some x)
below-get [] v l = absurd (omega arith)
below-get (y ∷ ys) zero l = (y, refl)
below-get (y ∷ ys) (suc v) l = below-get ys v (omega arith)

pub get-map : {X Y : Type 0} (f : X → Y) (xs : List X) (v : ℕ) (x : X) → slice_get xs v ≡ Some x → slice_get (map f xs) v ≡ Some (f x)
get-map f [] v x e = cc
get-map f (y ∷ ys) zero x e = let one : y ≡ x = cc in ap (λ z. Some (f z)) one
get-map f (y ∷ ys) (suc v) x e = get-map f ys v x e

-- the vertices that are named for least nodes
pub named-length : (s : ℕ) (os : List (Option ℕ)) → length (named s os) ≡ length os
named-length s [] = refl
named-length s (Some h ∷ os) = ap suc (named-length s os)
named-length s (None ∷ os) = ap suc (named-length (suc s) os)

pub named-host : (s : ℕ) (os : List (Option ℕ)) (v : ℕ) (o : Option ℕ) → slice_get os v ≡ Some o → host_at (slice_get (named s os) v) ≡ o
named-host s [] v o e = cc
named-host s (Some h ∷ os) zero o e = let one : Some h ≡ o = cc in one
named-host s (None ∷ os) zero o e = let one : None ≡ o = cc in one
named-host s (Some h ∷ os) (suc v) o e = named-host s os v o e
named-host s (None ∷ os) (suc v) o e = named-host (suc s) os v o e

module _ (host : ℕ) (j : List Entry) (m : NetMap) (q : IsQuotient host j m) where
  pub vertex-count : length m.vertices ≡ length q.least
  vertex-count = ap length q.vertices ∙ named-length 0 (map (host_of host j) q.least) ∙ length-map q.least (host_of host j)

  pub vertex-below : (v : ℕ) (u : Node) → slice_get q.least v ≡ Some u → v < length m.vertices
  vertex-below v u e = let l = get-below q.least v u e in let c = vertex-count in omega arith

  pub below-vertex : (v : ℕ) → v < length m.vertices → (u : Node) × (slice_get q.least v ≡ Some u)
  below-vertex v l = let c = vertex-count in below-get q.least v (omega arith)

  -- a vertex is a host where its least node is one
  pub vertex-host : (v : ℕ) (u : Node) → slice_get q.least v ≡ Some u → host_of_vertex m v ≡ host_of host j u
  vertex-host v u e = ap (λ vs. host_at (slice_get vs v)) q.vertices ∙ named-host 0 (map (host_of host j) q.least) v (host_of host j u) (get-map (host_of host j) q.least v u e)

  -- one least node has one number
  pub number-one : (v w : ℕ) (u : Node) → slice_get q.least v ≡ Some u → slice_get q.least w ≡ Some u → v ≡ w
  number-one v w u a b = by (cases_order v w)
    where
      by : (v ≡ w) ⊎ ((v < w) ⊎ (w < v)) → v ≡ w
      by (inl e) = e
      by (inr (inl l)) = absurd (true≢false (sym (q.in_order v w u u l a b) ∙ itself_not_below u))
      by (inr (inr l)) = absurd (true≢false (sym (q.in_order w v u u l b a) ∙ itself_not_below u))

  -- and so has one class
  pub class-one : (v w : ℕ) (u x : Node) (k : ℤ) → slice_get q.least v ≡ Some u → slice_get q.least w ≡ Some x → Replicates host j u x k → v ≡ w
  class-one v w u x k a b r =
      let one : u ≡ x = least-one host j u x k (q.each_least v u a) (q.each_least w x b) r in
      number-one v w x (a ∙ ap Some one) b

  pub vertex-one : (u x : Node) (v w : ℕ) (k l i : ℤ) → IsOfVertex host j q.least u v k → IsOfVertex host j q.least x w l → Replicates host j u x i → v ≡ w
  vertex-one u x v w k l i a b r = class-one v w a.least_node b.least_node ((neg_ℤ k +ℤ i) +ℤ l) a.there b.there (along (along (other_way a.one_class) r) b.one_class)
