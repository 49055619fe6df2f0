-- Classes are numbered as their nodes come: what is known after the first nodes.
use Rattle.std.proofs.Common.{◌≡◌, ◌≢◌, ◌<◌, ◌≤◌, ◌+◌, ◌⊎◌, inl, inr, ℕ, List, [], ◌∷◌, ◌++◌, true, false, length, length-append, set, replicate, Option, Some, None, is_some, refl, ap, sym, ◌∙◌, subst, true≢false, arith}
use Rattle.std.specs.Prelude.{slice_get, slice_index_or}
use Rattle.std.proofs.Math.ListN.{length-set}
use Rattle.std.proofs.lemmas.Bool.{false≢true, cases_eq, cases_order}
use Rattle.std.proofs.lemmas.List.{length-replicate}
use Rattle.std.proofs.lemmas.Option.{get_or_from_slice_get, slice_get-get_or}
use Rattle.net_defs.specs.Network.{Apart}
use Rattle.journal_defs.specs.Tree.{node_below}
use Rattle.port_align.specs.declared.frame.ClassFrame.{ClassFrame}
use Rattle.replicate_merge.specs.Table.{ClassTable}
use Rattle.replicate_merge.specs.Ways.{node_at, frame_at, own_frame}
use Rattle.replicate_merge.proofs.Nodes.{node_below-irrefl, node_below-total, apart-once}
use Rattle.map_quotient.specs.Numbering.{IsNodeOrder, IsPlaced, class_at, IsVertexOf, HasNumber, AreVertices}
use Rattle.map_quotient.proofs.Places.{push-cases, push-old, push-new, set-other, set-same, replicate-only, one-there, get-less}

-- The least node of a vertex is the first of its class in the order.
pub record IsFirst (c : ClassTable) (order : List ℕ) (k : ℕ) (vertices : List (Option ℕ)) (v n : ℕ) : Type 0 where
  pub place : ℕ
  pub below : place < k
  pub there : slice_get order place ≡ Some n
  pub is_vertex : IsVertexOf vertices (class_at c n) v
  pub first : (i m : ℕ) → slice_get order i ≡ Some m → class_at c m ≡ class_at c n → place ≤ i

-- After the first nodes of the order.
pub record IsNumberedTo (c : ClassTable) (order : List ℕ) (k : ℕ) (least : List ℕ) (vertices : List (Option ℕ)) : Type 0 where
  pub counted : length vertices ≡ length c.expanded
  pub short : length least ≤ k
  pub placed : (v n : ℕ) → slice_get least v ≡ Some n → IsFirst c order k vertices v n
  pub named : (class v : ℕ) → IsVertexOf vertices class v → (n : ℕ) × (slice_get least v ≡ Some n) × (class_at c n ≡ class)
  pub seen : (i n : ℕ) → i < k → slice_get order i ≡ Some n → (v : ℕ) × IsVertexOf vertices (class_at c n) v
  pub framed : (i n : ℕ) → i < k → slice_get order i ≡ Some n → slice_get c.frames n ≡ Some (frame_at c.frames n)
  pub rising : (v w m n : ℕ) → v < w → slice_get least v ≡ Some m → slice_get least w ≡ Some n → node_below (node_at c.nodes m) (node_at c.nodes n) ≡ true

pub numbered-none : (c : ClassTable) (order : List ℕ) (least : List ℕ) (vertices : List (Option ℕ)) → least ≡ [] → vertices ≡ replicate (length c.expanded) None → IsNumberedTo c order 0 least vertices
numbered-none c order least vertices none all = record {
  counted = ap length all ∙ length-replicate (length c.expanded) None;
  short = (let e : length least ≡ 0 = ap length none in omega arith);
  placed = λ v n e. (let f : None ≡ Some n = sym (ap (λ (l : List ℕ). slice_get l v) none) ∙ e in cc);
  named = λ class v e. absurd (no_vertex class v (sym (ap (λ (l : List (Option ℕ)). slice_get l class) all) ∙ e));
  seen = λ i n l e. absurd (omega arith);
  framed = λ i n l e. absurd (omega arith);
  rising = λ v w m n l e. (let f : None ≡ Some m = sym (ap (λ (l : List ℕ). slice_get l v) none) ∙ e in cc);
}
  where
    no_vertex : (class v : ℕ) → slice_get (replicate (length c.expanded) None) class ≡ Some (Some v) → ⊥
    no_vertex class v e = let f : None ≡ Some v = replicate-only (length c.expanded) None class (Some v) e in cc

-- the frames of one node more
framed-next : (c : ClassTable) (order : List ℕ) (k n : ℕ) (f : ClassFrame) → slice_get order k ≡ Some n → slice_get c.frames n ≡ Some f → ((i m : ℕ) → i < k → slice_get order i ≡ Some m → slice_get c.frames m ≡ Some (frame_at c.frames m)) → (i m : ℕ) → i < k + 1 → slice_get order i ≡ Some m → slice_get c.frames m ≡ Some (frame_at c.frames m)
framed-next c order k n f at frame all i m l e = by (cases_eq i k)
  where
    by : (i ≡ k) ⊎ (i ≢ k) → slice_get c.frames m ≡ Some (frame_at c.frames m)
    by (inl s) =
        let one : n ≡ m = one-there order k n m at (ap (slice_get order) (sym s) ∙ e) in
        subst (λ x. slice_get c.frames x ≡ Some (frame_at c.frames x)) one (frame ∙ ap Some (sym (get_or_from_slice_get c.frames n f (own_frame 0) frame)))
    by (inr d) = all i m (omega arith) e

later : (c : ClassTable) (order : List ℕ) (k : ℕ) (vertices : List (Option ℕ)) (v n : ℕ) → IsFirst c order k vertices v n → IsFirst c order (k + 1) vertices v n
later c order k vertices v n f = record { place = f.place; below = (let l = f.below in omega arith); there = f.there; is_vertex = f.is_vertex; first = f.first }

-- a node whose class has come
pub numbered-skip : (c : ClassTable) (order : List ℕ) (k n v : ℕ) (f : ClassFrame) (least : List ℕ) (vertices : List (Option ℕ)) → slice_get order k ≡ Some n → slice_get c.frames n ≡ Some f → IsVertexOf vertices (class_at c n) v → IsNumberedTo c order k least vertices → IsNumberedTo c order (k + 1) least vertices
numbered-skip c order k n v f least vertices at frame has t = record {
  counted = t.counted;
  short = (let l = t.short in omega arith);
  placed = λ w m e. later c order k vertices w m (t.placed w m e);
  named = t.named;
  seen = λ i m l e. seen i m l e (cases_eq i k);
  framed = framed-next c order k n f at frame t.framed;
  rising = t.rising;
}
  where
    seen : (i m : ℕ) → i < k + 1 → slice_get order i ≡ Some m → ((i ≡ k) ⊎ (i ≢ k)) → (w : ℕ) × IsVertexOf vertices (class_at c m) w
    seen i m l e (inl s) = let one : n ≡ m = one-there order k n m at (ap (slice_get order) (sym s) ∙ e) in (v, ap (λ x. slice_get vertices (class_at c x)) (sym one) ∙ has)
    seen i m l e (inr d) = t.seen i m (omega arith) e

-- a node whose class hasn't come is the least node of a new vertex
module _ (c : ClassTable) (order : List ℕ) (once : Apart c.nodes) (o : IsNodeOrder c.nodes order) (k n : ℕ) (f : ClassFrame) (least : List ℕ) (vertices : List (Option ℕ)) (at : slice_get order k ≡ Some n) (frame : slice_get c.frames n ≡ Some f) (inside : class_at c n < length vertices) (new : slice_index_or vertices (class_at c n) None ≡ None) (t : IsNumberedTo c order k least vertices) where
  abbrev after : List (Option ℕ)
  after = set vertices (class_at c n) (Some (length least))

  fresh : (v : ℕ) → IsVertexOf vertices (class_at c n) v → ⊥
  fresh v e = let f : Some v ≡ None = sym (get_or_from_slice_get vertices (class_at c n) (Some v) None e) ∙ new in cc

  own : IsVertexOf after (class_at c n) (length least)
  own = set-same vertices (class_at c n) (Some (length least)) inside

  -- another class keeps its vertex
  kept : (class v : ℕ) → class ≢ class_at c n → IsVertexOf vertices class v → IsVertexOf after class v
  kept class v d e = set-other vertices (class_at c n) (Some (length least)) class d ∙ e

  had : (class v : ℕ) → class ≢ class_at c n → IsVertexOf after class v → IsVertexOf vertices class v
  had class v d e = sym (set-other vertices (class_at c n) (Some (length least)) class d) ∙ e

  -- a class that has a vertex is another
  other : (class v : ℕ) → IsVertexOf vertices class v → class ≢ class_at c n
  other class v e same = fresh v (subst (λ x. IsVertexOf vertices x v) same e)

  new_first : IsFirst c order (k + 1) after (length least) n
  new_first = record { place = k; below = omega arith; there = at; is_vertex = own; first = λ i m e same. not_before i m e same (cases_order k i) }
    where
      not_before : (i m : ℕ) → slice_get order i ≡ Some m → class_at c m ≡ class_at c n → ((k ≡ i) ⊎ ((k < i) ⊎ (i < k))) → k ≤ i
      not_before i m e same (inl p) = omega arith
      not_before i m e same (inr (inl l)) = omega arith
      not_before i m e same (inr (inr l)) = let s = t.seen i m l e in absurd (fresh s.0 (subst (λ x. IsVertexOf vertices x s.0) same s.1))

  placed : (v m : ℕ) → (slice_get least v ≡ Some m) ⊎ ((v ≡ length least) × (n ≡ m)) → IsFirst c order (k + 1) after v m
  placed v m (inl e) = let f = t.placed v m e in record { place = f.place; below = (let l = f.below in omega arith); there = f.there; is_vertex = kept (class_at c m) v (other (class_at c m) v f.is_vertex) f.is_vertex; first = f.first }
  placed v m (inr p) = subst (λ x. IsFirst c order (k + 1) after x m) (sym p.0) (subst (IsFirst c order (k + 1) after (length least)) p.1 new_first)

  named : (class v : ℕ) → IsVertexOf after class v → ((class ≡ class_at c n) ⊎ (class ≢ class_at c n)) → (m : ℕ) × (slice_get (least ++ n ∷ []) v ≡ Some m) × (class_at c m ≡ class)
  named class v e (inl same) =
      let one : Some v ≡ Some (length least) = one-there after (class_at c n) (Some v) (Some (length least)) (subst (λ x. IsVertexOf after x v) same e) own in
      let is : v ≡ length least = cc in
      (n, ap (slice_get (least ++ n ∷ [])) is ∙ push-new least n, sym same)
  named class v e (inr d) = let f = t.named class v (had class v d e) in (f.0, push-old least n v f.0 f.1, f.2)

  seen : (i m : ℕ) → i < k + 1 → slice_get order i ≡ Some m → ((class_at c m ≡ class_at c n) ⊎ (class_at c m ≢ class_at c n)) → ((i ≡ k) ⊎ (i ≢ k)) → (v : ℕ) × IsVertexOf after (class_at c m) v
  seen i m l e (inl same) place = (length least, subst (λ x. IsVertexOf after x (length least)) (sym same) own)
  seen i m l e (inr d) (inl s) = let one : n ≡ m = one-there order k n m at (ap (slice_get order) (sym s) ∙ e) in absurd (d (ap (class_at c) (sym one)))
  seen i m l e (inr d) (inr s) = let f = t.seen i m (omega arith) e in (f.0, kept (class_at c m) f.0 d f.1)

  -- what came before stands before it
  above : (v m : ℕ) → slice_get least v ≡ Some m → node_below (node_at c.nodes m) (node_at c.nodes n) ≡ true
  above v m e = node_below-total (node_at c.nodes n) (node_at c.nodes m) (λ same. differ (sym same)) (let p = t.placed v m e in o.rises p.place k m n p.below p.there at)
    where
      differ : node_at c.nodes m ≢ node_at c.nodes n
      differ same = other (class_at c m) v (t.placed v m e).is_vertex (ap (class_at c) (apart-once c.nodes once m n (o.inside (t.placed v m e).place m (t.placed v m e).there) (o.inside k n at) same))

  rising : (v w m x : ℕ) → v < w → (slice_get least v ≡ Some m) ⊎ ((v ≡ length least) × (n ≡ m)) → (slice_get least w ≡ Some x) ⊎ ((w ≡ length least) × (n ≡ x)) → node_below (node_at c.nodes m) (node_at c.nodes x) ≡ true
  rising v w m x l (inl p) (inl q) = t.rising v w m x l p q
  rising v w m x l (inl p) (inr q) = subst (λ y. node_below (node_at c.nodes m) (node_at c.nodes y) ≡ true) q.1 (above v m p)
  rising v w m x l (inr p) (inl q) = let b = get-less least w x q in absurd (omega arith)
  rising v w m x l (inr p) (inr q) = absurd (omega arith)

  pub numbered-next : IsNumberedTo c order (k + 1) (least ++ n ∷ []) (set vertices (class_at c n) (Some (length least)))
  numbered-next = record {
    counted = length-set vertices (class_at c n) (Some (length least)) ∙ t.counted;
    short = (let e = length-append least (n ∷ []) in let s = t.short in omega arith);
    placed = λ v m e. placed v m (push-cases least n v m e);
    named = λ class v e. named class v e (cases_eq class (class_at c n));
    seen = λ i m l e. seen i m l e (cases_eq (class_at c m) (class_at c n)) (cases_eq i k);
    framed = framed-next c order k n f at frame t.framed;
    rising = λ v w m x l p q. rising v w m x l (push-cases least n v m p) (push-cases least n w x q);
  }

-- at the end all classes have vertices
pub numbered-whole : (c : ClassTable) (order : List ℕ) (k : ℕ) (least : List ℕ) (vertices : List (Option ℕ)) → IsNodeOrder c.nodes order → length order ≡ k → IsNumberedTo c order k least vertices → AreVertices c least vertices
numbered-whole c order k least vertices o long t = record {
  few = (let s = t.short in let n = o.few in omega arith);
  inside = λ v n e. (let f = t.placed v n e in o.inside f.place n f.there);
  own = λ v n e. (t.placed v n e).is_vertex;
  first = λ v n m e l same. first v n m (t.placed v n e) (o.whole m l) same;
  in_order = t.rising;
  whole = λ n l. whole n (o.whole n l);
}
  where
    first : (v n m : ℕ) → IsFirst c order k vertices v n → IsPlaced order m → class_at c m ≡ class_at c n → node_below (node_at c.nodes m) (node_at c.nodes n) ≡ false
    first v n m f p same = by (cases_eq f.place p.place)
      where
        by : (f.place ≡ p.place) ⊎ (f.place ≢ p.place) → node_below (node_at c.nodes m) (node_at c.nodes n) ≡ false
        by (inl e) = let one : n ≡ m = one-there order p.place n m (ap (slice_get order) (sym e) ∙ f.there) p.there in subst (λ x. node_below (node_at c.nodes m) (node_at c.nodes x) ≡ false) (sym one) (node_below-irrefl (node_at c.nodes m))
        by (inr d) = let l = f.first p.place m p.there same in o.rises f.place p.place n m (omega arith) f.there p.there

    whole : (n : ℕ) → IsPlaced order n → HasNumber c least vertices n
    whole n p =
        let below = get-less order p.place n p.there in
        let s = t.seen p.place n (omega arith) p.there in
        let m = t.named (class_at c n) s.0 s.1 in
        record {
          vertex = s.0;
          is_vertex = s.1;
          node = m.0;
          least_node = m.1;
          one_class = m.2;
          framed = t.framed p.place n (omega arith) p.there;
          inside = subst (λ l. class_at c n < l) t.counted (get-less vertices (class_at c n) (Some s.0) s.1);
        }

no_vertex : (o : Option ℕ) → is_some o ≡ false → o ≡ None
no_vertex None e = refl
no_vertex (Some v) e = absurd (true≢false e)

a_vertex : (o : Option ℕ) → is_some o ≡ true → (v : ℕ) × (o ≡ Some v)
a_vertex None e = absurd (false≢true e)
a_vertex (Some v) e = (v, refl)

-- a node's turn, as the code has it: what its class had, and what was written
module _ (c : ClassTable) (order : List ℕ) (k n class : ℕ) (f : ClassFrame) (had : Option ℕ) (least : List ℕ) (vertices : List (Option ℕ)) (at : slice_get order k ≡ Some n) (frame : slice_get c.frames n ≡ Some f) (is_class : class_at c n ≡ class) (inside : class < length vertices) (is_had : had ≡ slice_index_or vertices class had) (t : IsNumberedTo c order k least vertices) where
  pub skips : is_some had ≡ true → (ls : List ℕ) (vs : List (Option ℕ)) → ls ≡ least → vs ≡ vertices → IsNumberedTo c order (k + 1) ls vs
  skips some ls vs same_least same_vertices =
      let v = a_vertex had some in
      let has : IsVertexOf vertices (class_at c n) v.0 = ap (slice_get vertices) is_class ∙ slice_get-get_or vertices class had inside ∙ ap Some (sym is_had) ∙ ap Some v.1 in
      subst (λ (l : List ℕ). IsNumberedTo c order (k + 1) l vs) (sym same_least) (subst (IsNumberedTo c order (k + 1) least) (sym same_vertices) (numbered-skip c order k n v.0 f least vertices at frame has t))

  pub pushes : Apart c.nodes → IsNodeOrder c.nodes order → is_some had ≡ false → (len : ℕ) → len ≡ length least → (ls : List ℕ) (vs : List (Option ℕ)) → ls ≡ least ++ n ∷ [] → vs ≡ set vertices class (Some len) → IsNumberedTo c order (k + 1) ls vs
  pushes once o none len is_len ls vs more written =
      let new : slice_index_or vertices (class_at c n) None ≡ None = ap (λ x. slice_index_or vertices x None) is_class ∙ sym (subst (λ x. x ≡ slice_index_or vertices class x) (no_vertex had none) is_had) in
      let there : class_at c n < length vertices = subst (λ x. x < length vertices) (sym is_class) inside in
      let all : set vertices (class_at c n) (Some (length least)) ≡ vs = (λ i. set vertices (is_class i) (Some (sym is_len i))) ∙ sym written in
      subst (λ (l : List ℕ). IsNumberedTo c order (k + 1) l vs) (sym more) (subst (IsNumberedTo c order (k + 1) (least ++ n ∷ [])) all (numbered-next c order once o k n f least vertices at frame there new t))
