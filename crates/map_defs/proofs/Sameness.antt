-- Sameness up to offset is an equivalence.
use Rattle.std.proofs.Common.{◌≡◌, sym, ◌∙◌, subst, ap, refl, arith}
use Rattle.std.specs.Prelude.{ℤ, pos, ◌+ℤ◌, neg_ℤ}
use Rattle.std.proofs.lemmas.Int.{ints}
use Rattle.map_defs.specs.Sameness.{PortGraph, IsSame, graph_of_map, graph_of_part}
use Rattle.map_defs.specs.Laws.{SamenessIsEquivalence, SameMapIsRight}

-- a relation of ports, at ports that are equal
moved : {V : Type 0} (J : V → ℤ → V → ℤ → Type 0) (v w x y : V) (p q r s : ℤ) → v ≡ w → p ≡ q → x ≡ y → r ≡ s → J v p x r → J w q y s
moved J v w x y p q r s a b c d j =
    subst (λ z. J w q y z) d (subst (λ z. J w q z r) c (subst (λ z. J w z x r) b (subst (λ z. J z p x r) a j)))

back_again : (p o : ℤ) → (p +ℤ neg_ℤ o) +ℤ o ≡ p
back_again p o = omega (arith, ints)

in_turn : (p a b : ℤ) → (p +ℤ a) +ℤ b ≡ p +ℤ (a +ℤ b)
in_turn p a b = omega (arith, ints)

pub by_nothing : (p : ℤ) → p ≡ p +ℤ pos 0
by_nothing p = omega (arith, ints)

pub same-itself : {V : Type 0} (g : PortGraph V) → IsSame g g
same-itself g = record {
  image = λ v. v;
  origin = λ v. v;
  offset = λ v. pos 0;
  image_in = λ v i. i;
  origin_in = λ v i. i;
  origin_image = λ v i. refl;
  image_origin = λ v i. refl;
  addresses = λ v i. refl;
  host_offsets = λ v a i e. refl;
  cables = λ v w p q i j. (moved g.Joins v v w w p (p +ℤ pos 0) q (q +ℤ pos 0) refl (by_nothing p) refl (by_nothing q), moved g.Joins v v w w (p +ℤ pos 0) p (q +ℤ pos 0) q refl (sym (by_nothing p)) refl (sym (by_nothing q)));
}

pub same-back : {V W : Type 0} (g : PortGraph V) (h : PortGraph W) → IsSame g h → IsSame h g
same-back g h s = record {
  image = s.origin;
  origin = s.image;
  offset = λ w. neg_ℤ (s.offset (s.origin w));
  image_in = s.origin_in;
  origin_in = s.image_in;
  origin_image = s.image_origin;
  image_origin = s.origin_image;
  addresses = λ w i. sym (s.addresses (s.origin w) (s.origin_in w i)) ∙ ap h.address (s.image_origin w i);
  host_offsets = λ w a i e. ap neg_ℤ (s.host_offsets (s.origin w) a (s.origin_in w i) (sym (s.addresses (s.origin w) (s.origin_in w i)) ∙ ap h.address (s.image_origin w i) ∙ e));
  cables = λ w x p q i j.
      let o = s.offset (s.origin w) in
      let u = s.offset (s.origin x) in
      let over = s.cables (s.origin w) (s.origin x) (p +ℤ neg_ℤ o) (q +ℤ neg_ℤ u) (s.origin_in w i) (s.origin_in x j) in (
        (λ c. over.1 (moved h.Joins w (s.image (s.origin w)) x (s.image (s.origin x)) p ((p +ℤ neg_ℤ o) +ℤ o) q ((q +ℤ neg_ℤ u) +ℤ u) (sym (s.image_origin w i)) (sym (back_again p o)) (sym (s.image_origin x j)) (sym (back_again q u)) c)),
        (λ c. moved h.Joins (s.image (s.origin w)) w (s.image (s.origin x)) x ((p +ℤ neg_ℤ o) +ℤ o) p ((q +ℤ neg_ℤ u) +ℤ u) q (s.image_origin w i) (back_again p o) (s.image_origin x j) (back_again q u) (over.0 c)),
      );
}

pub same-along : {U V W : Type 0} (f : PortGraph U) (g : PortGraph V) (h : PortGraph W) → IsSame f g → IsSame g h → IsSame f h
same-along f g h s t = record {
  image = λ u. t.image (s.image u);
  origin = λ w. s.origin (t.origin w);
  offset = λ u. s.offset u +ℤ t.offset (s.image u);
  image_in = λ u i. t.image_in (s.image u) (s.image_in u i);
  origin_in = λ w i. s.origin_in (t.origin w) (t.origin_in w i);
  origin_image = λ u i. ap s.origin (t.origin_image (s.image u) (s.image_in u i)) ∙ s.origin_image u i;
  image_origin = λ w i. ap t.image (s.image_origin (t.origin w) (t.origin_in w i)) ∙ t.image_origin w i;
  addresses = λ u i. t.addresses (s.image u) (s.image_in u i) ∙ s.addresses u i;
  host_offsets = λ u a i e. none (s.offset u) (t.offset (s.image u)) (s.host_offsets u a i e) (t.host_offsets (s.image u) a (s.image_in u i) (s.addresses u i ∙ e));
  cables = λ u v p q i j.
      let a = s.offset u in
      let b = s.offset v in
      let c = t.offset (s.image u) in
      let d = t.offset (s.image v) in
      let first = s.cables u v p q i j in
      let then_ = t.cables (s.image u) (s.image v) (p +ℤ a) (q +ℤ b) (s.image_in u i) (s.image_in v j) in
      let x = t.image (s.image u) in
      let y = t.image (s.image v) in (
        (λ k. moved h.Joins x x y y ((p +ℤ a) +ℤ c) (p +ℤ (a +ℤ c)) ((q +ℤ b) +ℤ d) (q +ℤ (b +ℤ d)) refl (in_turn p a c) refl (in_turn q b d) (then_.0 (first.0 k))),
        (λ k. first.1 (then_.1 (moved h.Joins x x y y (p +ℤ (a +ℤ c)) ((p +ℤ a) +ℤ c) (q +ℤ (b +ℤ d)) ((q +ℤ b) +ℤ d) refl (sym (in_turn p a c)) refl (sym (in_turn q b d)) k))),
      );
}
  where
    none : (a b : ℤ) → a ≡ pos 0 → b ≡ pos 0 → a +ℤ b ≡ pos 0
    none a b e e' = omega (arith, ints)

pub sameness_is_equivalence : SamenessIsEquivalence
sameness_is_equivalence = record {
  itself = λ m. same-itself (graph_of_map m);
  symmetric = λ m k s. same-back (graph_of_map m) (graph_of_map k) s;
  transitive = λ m k o s t. same-along (graph_of_map m) (graph_of_map k) (graph_of_map o) s t;
}

pub same_map_is_right : SameMapIsRight
same_map_is_right n host m k s r = same-along (graph_of_map k) (graph_of_map m) (graph_of_part n host) s r
