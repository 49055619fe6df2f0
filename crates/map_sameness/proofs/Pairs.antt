-- Pairs with one more keep that vertices are paired one to one, each with what it must stand for.
use Rattle.std.proofs.Common.{◌≡◌, ◌≢◌, ◌<◌, ◌+◌, ◌⊎◌, inl, inr, ℕ, zero, suc, Bool, true, false, ◌||◌, List, [], ◌∷◌, length, nat_eq, Option, Some, None, refl, ap, sym, ◌∙◌, subst, arith, get_or-set_same}
use Rattle.std.specs.Prelude.{slice_get, slice_set, slice_index_or, is_some}
use Rattle.std.specs.Ordering.{int_eq}
use Rattle.std.proofs.Math.ListN.{length-set}
use Rattle.std.proofs.lemmas.List.{get_or-set_other}
use Rattle.std.proofs.lemmas.Bool.{false≢true, and_parts, and_from}
use Rattle.std.proofs.lemmas.Bool.Decides.{Decides-eqb, Decides-int_eq}
use Rattle.net_defs.specs.declared.vertex.Vertex.{Vertex}
use Rattle.net_defs.specs.declared.vertex.Vertex.TheVariants.{Host, Switch}
use Rattle.net_defs.specs.declared.vertex.End.{End}
use Rattle.net_defs.specs.Network.{Network, same_vertex}
use Rattle.net_defs.specs.Turn.{IsTurn}
use Rattle.net_defs.proofs.Ends.{same_vertex-true, same_vertex-refl}
use Rattle.map_defs.specs.NetMap.{NetMap, MapPort, IsMap, map_far}
use Rattle.fabric_map.proofs.Ends.{far-holds}
use Rattle.map_sameness.specs.declared.pairing.Image.{Image}
use Rattle.map_sameness.specs.Standing.{Stands}
use Rattle.map_sameness.specs.Pairing.{Pairs, image_of, origin_of, HasPlace, same_image, are_alike, with_origin, with_image, with_pair, unpaired, weight, IsImage, IsSmall, IsPairing, is_todo, Grows, IsMet}

-- ---- tests
pub numbers-differ : (a b : ℕ) → nat_eq a b ≡ false → a ≢ b
numbers-differ a b e f = false≢true (sym e ∙ (Decides-eqb a b).1 f)

pub images-same : (i j : Image) → same_image i j ≡ true → i ≡ j
images-same i j e =
    let two = and_parts (same_vertex i.vertex j.vertex) (int_eq i.offset j.offset) e in
    let v : i.vertex ≡ j.vertex = same_vertex-true i.vertex j.vertex two.0 in
    let o : i.offset ≡ j.offset = (Decides-int_eq i.offset j.offset).0 two.1 in
    λ k. record { vertex = v k; offset = o k }

pub images-itself : (i j : Image) → i.vertex ≡ j.vertex → i.offset ≡ j.offset → same_image i j ≡ true
images-itself i j v o =
    and_from (same_vertex i.vertex j.vertex) (int_eq i.offset j.offset)
    (ap (same_vertex i.vertex) (sym v) ∙ same_vertex-refl i.vertex) ((Decides-int_eq i.offset j.offset).1 o)

vertices-differ : (x y : Vertex) → same_vertex x y ≡ false → x ≢ y
vertices-differ x y e f = false≢true (sym e ∙ (ap (same_vertex x) (sym f) ∙ same_vertex-refl x))

nothing : {A : Type 0} (a : A) → None ≡ Some a → ⊥
nothing a e = cc

-- ---- one pair more
-- what stands for what, where images are put
origin-image : (s : Pairs) (v : ℕ) (i : Image) (x : Vertex) → origin_of (with_image s v i) x ≡ origin_of s x
origin-image s v i (Host h) = refl
origin-image s v i (Switch t) = refl

image-origin : (s : Pairs) (x : Vertex) (v u : ℕ) → image_of (with_origin s x v) u ≡ image_of s u
image-origin s (Host h) v u = refl
image-origin s (Switch t) v u = refl

origin-same : (s : Pairs) (x : Vertex) (v : ℕ) → HasPlace s x → origin_of (with_origin s x v) x ≡ Some v
origin-same s (Host h) v l = get_or-set_same s.hosts h (Some v) None l
origin-same s (Switch t) v l = get_or-set_same s.switches t (Some v) None l

origin-other : (s : Pairs) (x y : Vertex) (v : ℕ) → y ≢ x → origin_of (with_origin s x v) y ≡ origin_of s y
origin-other s (Host h) (Host g) v d = get_or-set_other s.hosts h g (Some v) None (λ e. d (ap Host e))
origin-other s (Switch t) (Switch u) v d = get_or-set_other s.switches t u (Some v) None (λ e. d (ap Switch e))
origin-other s (Host h) (Switch u) v d = refl
origin-other s (Switch t) (Host g) v d = refl

todo-origin : (s : Pairs) (x : Vertex) (v u : ℕ) → is_todo (with_origin s x v) u ≡ is_todo s u
todo-origin s (Host h) v u = refl
todo-origin s (Switch t) v u = refl

weight-origin : (s : Pairs) (x : Vertex) (v : ℕ) → weight (with_origin s x v) ≡ weight s
weight-origin s (Host h) v = refl
weight-origin s (Switch t) v = refl

unpaired-set : (is : List (Option Image)) (v : ℕ) (i : Image) → v < length is → slice_index_or is v None ≡ None → 2 + unpaired (slice_set is v (Some i)) ≡ unpaired is
unpaired-set [] v i l e = absurd (omega arith)
unpaired-set (None ∷ is) zero i l e = refl
unpaired-set (Some j ∷ is) zero i l e = absurd (nothing j (sym e))
unpaired-set (None ∷ is) (suc v) i l e = let h = unpaired-set is v i (omega arith) e in omega (arith, h)
unpaired-set (Some j ∷ is) (suc v) i l e = unpaired-set is v i (omega arith) e

-- a far end of a port of the map is one of its vertices, and its port is a turn
pub far-inside : (m : NetMap) (d e : MapPort) → IsMap m → map_far m d ≡ Some e → (e.v < length m.vertices) × IsTurn e.p
far-inside m d e r f = (far-holds (λ (x : MapPort). x.v < length m.vertices) m.cables d e r.cabled_vertices f, far-holds (λ (x : MapPort). IsTurn x.p) m.cables d e r.ports_in_range f)

module _ (s : Pairs) (v : ℕ) (i : Image) (low : v < length s.images) (place : HasPlace s i.vertex) (new : image_of s v ≡ None) where
  abbrev t : Pairs
  t = with_pair s v i

  pub image-same : image_of t v ≡ Some i
  image-same = image-origin (with_image s v i) i.vertex v v ∙ get_or-set_same s.images v (Some i) None low

  image-other : (u : ℕ) → u ≢ v → image_of t u ≡ image_of s u
  image-other u d = image-origin (with_image s v i) i.vertex v u ∙ get_or-set_other s.images v u (Some i) None d

  place-there : (x : Vertex) → HasPlace s x → HasPlace (with_image s v i) x
  place-there (Host h) l = l
  place-there (Switch q) l = l

  from-same : origin_of t i.vertex ≡ Some v
  from-same = origin-same (with_image s v i) i.vertex v (place-there i.vertex place)

  from-other : (y : Vertex) → y ≢ i.vertex → origin_of t y ≡ origin_of s y
  from-other y d = origin-other (with_image s v i) i.vertex y v d ∙ origin-image s v i y

  -- an image is this one, or was there before
  image-or : (u : ℕ) (j : Image) → image_of t u ≡ Some j → ((u ≡ v) × (j ≡ i)) ⊎ ((u ≢ v) × (image_of s u ≡ Some j))
  image-or u j e = by (nat_eq u v) refl
    where
      by : (b : Bool) → nat_eq u v ≡ b → ((u ≡ v) × (j ≡ i)) ⊎ ((u ≢ v) × (image_of s u ≡ Some j))
      by true q = let same : u ≡ v = (Decides-eqb u v).0 q in let both : Some j ≡ Some i = sym e ∙ ap (image_of t) same ∙ image-same in inl (same, (let one : j ≡ i = cc in one))
      by false q = let d = numbers-differ u v q in inr (d, sym (image-other u d) ∙ e)

  todo-other : (u : ℕ) → is_todo s u ≡ true → is_todo t u ≡ true
  todo-other u e = todo-origin (with_image s v i) i.vertex v u ∙ ap (λ b. nat_eq u v || b) e ∙ or-true (nat_eq u v)
    where
      or-true : (b : Bool) → (b || true) ≡ true
      or-true true = refl
      or-true false = refl

  todo-same : is_todo t v ≡ true
  todo-same = todo-origin (with_image s v i) i.vertex v v ∙ ap (λ b. b || is_todo s v) ((Decides-eqb v v).1 refl)

  kept : (u : ℕ) (j : Image) → image_of s u ≡ Some j → image_of t u ≡ Some j
  kept u j e = image-other u (λ f. nothing j (sym new ∙ ap (image_of s) (sym f) ∙ e)) ∙ e

  pub pair-grows : Grows s t
  pair-grows = record {
    host = same-host i.vertex;
    images = kept;
    todo = todo-other;
    new = λ u j e. by u j e (image-or u j e);
    less = (let h = unpaired-set s.images v i low new in let w = weight-origin (with_image s v i) i.vertex v in omega (arith, h, w));
  }
    where
      same-host : (x : Vertex) → (with_origin (with_image s v i) x v).host ≡ s.host
      same-host (Host h) = refl
      same-host (Switch q) = refl

      by : (u : ℕ) (j : Image) → image_of t u ≡ Some j → ((u ≡ v) × (j ≡ i)) ⊎ ((u ≢ v) × (image_of s u ≡ Some j)) → (image_of s u ≡ Some j) ⊎ (is_todo t u ≡ true)
      by u j e (inl h) = inr (ap (is_todo t) h.0 ∙ todo-same)
      by u j e (inr h) = inl h.1

  -- tables keep their lengths
  long-images : (x : Vertex) → length (with_origin (with_image s v i) x v).images ≡ length s.images
  long-images (Host h) = length-set s.images v (Some i)
  long-images (Switch q) = length-set s.images v (Some i)

  long-hosts : (x : Vertex) → length (with_origin (with_image s v i) x v).hosts ≡ length s.hosts
  long-hosts (Host h) = length-set s.hosts h (Some v)
  long-hosts (Switch q) = refl

  long-switches : (x : Vertex) → length (with_origin (with_image s v i) x v).switches ≡ length s.switches
  long-switches (Host h) = refl
  long-switches (Switch q) = length-set s.switches q (Some v)

  module _ (n : Network) (m : NetMap) (p : IsPairing n m s) (free : is_some (origin_of s i.vertex) ≡ false) (stands : Stands n s.host m v i.vertex i.offset) (small : IsSmall i.offset) (alike : are_alike (slice_get m.vertices v) i.vertex i.offset ≡ true) where
    -- what stood for a vertex does still, since this one had none
    other-vertex : (u : ℕ) (j : Image) → image_of s u ≡ Some j → j.vertex ≢ i.vertex
    other-vertex u j e f = false≢true (sym free ∙ ap is_some (ap (origin_of s) (sym f) ∙ p.origins u j e))

    pub pair-kept : IsPairing n m t
    pair-kept = record {
      is_fabric = p.is_fabric;
      is_map = p.is_map;
      images = long-images i.vertex ∙ p.images;
      hosts = long-hosts i.vertex ∙ p.hosts ∙ ap (λ h. length n.hosts + (h + 1)) (sym pair-grows.host);
      switches = long-switches i.vertex ∙ p.switches;
      stands = λ u j e. subst (λ h. Stands n h m u j.vertex j.offset) (sym pair-grows.host) (standing u j (image-or u j e));
      small = λ u j e. smallness u j (image-or u j e);
      alike = λ u j e. likeness u j (image-or u j e);
      origins = λ u j e. originated u j (image-or u j e);
      found = λ x u e. finding x u e (same_vertex x i.vertex) refl;
    }
      where
        standing : (u : ℕ) (j : Image) → ((u ≡ v) × (j ≡ i)) ⊎ ((u ≢ v) × (image_of s u ≡ Some j)) → Stands n s.host m u j.vertex j.offset
        standing u j (inl h) = subst (λ w. Stands n s.host m w j.vertex j.offset) (sym h.0) (subst (λ (k : Image). Stands n s.host m v k.vertex k.offset) (sym h.1) stands)
        standing u j (inr h) = p.stands u j h.1

        smallness : (u : ℕ) (j : Image) → ((u ≡ v) × (j ≡ i)) ⊎ ((u ≢ v) × (image_of s u ≡ Some j)) → IsSmall j.offset
        smallness u j (inl h) = subst (λ (k : Image). IsSmall k.offset) (sym h.1) small
        smallness u j (inr h) = p.small u j h.1

        likeness : (u : ℕ) (j : Image) → ((u ≡ v) × (j ≡ i)) ⊎ ((u ≢ v) × (image_of s u ≡ Some j)) → are_alike (slice_get m.vertices u) j.vertex j.offset ≡ true
        likeness u j (inl h) = ap (λ w. are_alike (slice_get m.vertices w) j.vertex j.offset) h.0 ∙ ap (λ (k : Image). are_alike (slice_get m.vertices v) k.vertex k.offset) h.1 ∙ alike
        likeness u j (inr h) = p.alike u j h.1

        originated : (u : ℕ) (j : Image) → ((u ≡ v) × (j ≡ i)) ⊎ ((u ≢ v) × (image_of s u ≡ Some j)) → origin_of t j.vertex ≡ Some u
        originated u j (inl h) = ap (λ (k : Image). origin_of t k.vertex) h.1 ∙ from-same ∙ ap Some (sym h.0)
        originated u j (inr h) = from-other j.vertex (other-vertex u j h.1) ∙ p.origins u j h.1

        finding : (x : Vertex) (u : ℕ) → origin_of t x ≡ Some u → (b : Bool) → same_vertex x i.vertex ≡ b → IsImage t u x
        finding x u e true q =
            let same : x ≡ i.vertex = same_vertex-true x i.vertex q in
            let both : Some u ≡ Some v = sym e ∙ ap (origin_of t) same ∙ from-same in
            let one : u ≡ v = cc in
            record { image = i; is = ap (image_of t) one ∙ image-same; vertex = sym same }
        finding x u e false q =
            let f = p.found x u (sym (from-other x (vertices-differ x i.vertex q)) ∙ e) in
            record { image = f.image; is = kept u f.image f.is; vertex = f.vertex }

-- ---- growth
pub grows-itself : (s : Pairs) → Grows s s
grows-itself s = record { host = refl; images = λ v i e. e; todo = λ v e. e; new = λ v i e. inl e; less = omega arith }

pub grows-along : (s t u : Pairs) → Grows s t → Grows t u → Grows s u
grows-along s t u f g = record {
  host = g.host ∙ f.host;
  images = λ v i e. g.images v i (f.images v i e);
  todo = λ v e. g.todo v (f.todo v e);
  new = λ v i e. by v i (g.new v i e);
  less = (let a = f.less in let b = g.less in omega (arith, a, b));
}
  where
    by : (v : ℕ) (i : Image) → (image_of t v ≡ Some i) ⊎ (is_todo u v ≡ true) → (image_of s v ≡ Some i) ⊎ (is_todo u v ≡ true)
    by v i (inr e) = inr e
    by v i (inl e) = on (f.new v i e)
      where
        on : (image_of s v ≡ Some i) ⊎ (is_todo t v ≡ true) → (image_of s v ≡ Some i) ⊎ (is_todo u v ≡ true)
        on (inl h) = inl h
        on (inr h) = inr (g.todo v h)

pub met-still : (m : NetMap) (s t : Pairs) (d : MapPort) (e : End) → Grows s t → IsMet m s d e → IsMet m t d e
met-still m s t d e g h = record { other = h.other; image = h.image; far = h.far; is = g.images h.other.v h.image h.is; vertex = h.vertex; port = h.port }
