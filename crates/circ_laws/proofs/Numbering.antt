-- The map whose vertices are numbered anew is the same as what is not outside.
use Rattle.std.proofs.Common.{◌≡◌, ◌<◌, ℕ, zero, suc, List, [], ◌∷◌, map, length, Bool, true, false, Option, Some, None, sym, ◌∙◌, subst, ap, true≢false, refl, arith, ◌⊎◌, inl, inr, if◌then◌else◌, nat_eq}
use Rattle.std.specs.Prelude.{ℤ, pos, ◌+ℤ◌, slice_get}
use Rattle.std.proofs.lemmas.Bool.{cases_order}
use Rattle.std.proofs.lemmas.Bool.Decides.{Decides-eqb}
use Rattle.std.proofs.lemmas.List.{length-map}
use Rattle.map_defs.specs.NetMap.{NetMap, IsCabled, host_of_vertex, host_at}
use Rattle.map_defs.specs.Core.{is_outside}
use Rattle.map_defs.specs.Sameness.{IsSame, graph_of_map}
use Rattle.map_defs.proofs.Sameness.{same-along, by_nothing}
use Rattle.map_laws.proofs.Least.{below-get, get-map, named-length, named-host}
use Rattle.std.proofs.lemmas.Option.{slice_get_within}
use Rattle.circ_defs.specs.CircuitMap.{IsWithoutOutside, graph_of_core, graph_of_inside}
use Rattle.circ_laws.specs.Laws.{CircuitMapIsCore}
use Rattle.circ_laws.proofs.Assembly.{inside_is_core}

-- the number at a place, and the first place of a number
abbrev number_at : Option ℕ → ℕ
number_at None = 0
number_at (Some u) = u

abbrev place_of : ℕ → List ℕ → ℕ
place_of u [] = 0
place_of u (x ∷ xs) = if nat_eq x u then 0 else suc (place_of u xs)

place-there : (u : ℕ) (xs : List ℕ) (i : ℕ) → slice_get xs i ≡ Some u → slice_get xs (place_of u xs) ≡ Some u
place-there u [] i e = cc
place-there u (x ∷ xs) i e = by (nat_eq x u) refl i e (place-there u xs)
  where
    by : (b : Bool) → nat_eq x u ≡ b → (i : ℕ) → slice_get (x ∷ xs) i ≡ Some u → ((i : ℕ) → slice_get xs i ≡ Some u → slice_get xs (place_of u xs) ≡ Some u) → slice_get (x ∷ xs) (if b then 0 else suc (place_of u xs)) ≡ Some u
    by true p i g rest = ap Some ((Decides-eqb x u).0 p)
    by false p zero g rest = let one : x ≡ u = cc in absurd (true≢false (sym ((Decides-eqb x u).1 one) ∙ p))
    by false p (suc i) g rest = rest i g

module _ (m k : NetMap) (s : IsWithoutOutside m k) where
  image : ℕ → ℕ
  image v = number_at (slice_get s.kept v)

  pub count : length k.vertices ≡ length s.kept
  count = ap length s.vertices ∙ named-length 0 (map (host_of_vertex m) s.kept) ∙ length-map s.kept (host_of_vertex m)

  image-is : (v u : ℕ) → slice_get s.kept v ≡ Some u → number_at (slice_get s.kept v) ≡ u
  image-is v u e = ap number_at e

  there : (v : ℕ) → v < length k.vertices → slice_get s.kept v ≡ Some (number_at (slice_get s.kept v))
  there v l =
      let c = count in
      let u = below-get s.kept v (omega arith) in
      u.1 ∙ ap (λ o. Some (number_at o)) (sym u.1)

  pub one-place : (v w u : ℕ) → slice_get s.kept v ≡ Some u → slice_get s.kept w ≡ Some u → v ≡ w
  one-place v w u a b = by (cases_order v w)
    where
      by : (v ≡ w) ⊎ ((v < w) ⊎ (w < v)) → v ≡ w
      by (inl e) = e
      by (inr (inl l)) = let x = s.in_order v w u u l a b in absurd (omega arith)
      by (inr (inr l)) = let x = s.in_order w v u u l b a in absurd (omega arith)

  pub host-is : (v u : ℕ) → slice_get s.kept v ≡ Some u → host_of_vertex k v ≡ host_of_vertex m u
  host-is v u e = ap (λ vs. host_at (slice_get vs v)) s.vertices ∙ named-host 0 (map (host_of_vertex m) s.kept) v (host_of_vertex m u) (get-map (host_of_vertex m) s.kept v u e)

  on : (v w : ℕ) (p q : ℤ) → v < length k.vertices → w < length k.vertices → IsCabled k (record { v = v; p = p }) (record { v = w; p = q }) → IsCabled m (record { v = number_at (slice_get s.kept v); p = p +ℤ pos 0 }) (record { v = number_at (slice_get s.kept w); p = q +ℤ pos 0 })
  on v w p q a b c =
      let r = (s.cabled v w p q).0 c in
      subst (λ x. IsCabled m (record { v = x; p = p +ℤ pos 0 }) (record { v = number_at (slice_get s.kept w); p = q +ℤ pos 0 })) (sym (image-is v r.from r.from_there))
      (subst (λ x. IsCabled m (record { v = r.from; p = p +ℤ pos 0 }) (record { v = x; p = q +ℤ pos 0 })) (sym (image-is w r.to r.to_there))
      (subst (λ z. IsCabled m (record { v = r.from; p = z }) (record { v = r.to; p = q +ℤ pos 0 })) (by_nothing p)
      (subst (λ z. IsCabled m (record { v = r.from; p = p }) (record { v = r.to; p = z })) (by_nothing q) r.cabled)))

  off : (v w : ℕ) (p q : ℤ) → v < length k.vertices → w < length k.vertices → IsCabled m (record { v = number_at (slice_get s.kept v); p = p +ℤ pos 0 }) (record { v = number_at (slice_get s.kept w); p = q +ℤ pos 0 }) → IsCabled k (record { v = v; p = p }) (record { v = w; p = q })
  off v w p q a b c = (s.cabled v w p q).1 (record {
    from = number_at (slice_get s.kept v);
    to = number_at (slice_get s.kept w);
    from_there = there v a;
    to_there = there w b;
    cabled = subst (λ z. IsCabled m (record { v = number_at (slice_get s.kept v); p = z }) (record { v = number_at (slice_get s.kept w); p = q })) (sym (by_nothing p)) (subst (λ z. IsCabled m (record { v = number_at (slice_get s.kept v); p = p +ℤ pos 0 }) (record { v = number_at (slice_get s.kept w); p = z })) (sym (by_nothing q)) c);
  })

  origin-there : (u : ℕ) → (u < length m.vertices) × (is_outside m u ≡ false) → slice_get s.kept (place_of u s.kept) ≡ Some u
  origin-there u i = let h = s.covered u i.0 i.1 in place-there u s.kept h.number h.there

  pub renumbered : IsSame (graph_of_map k) (graph_of_inside m)
  renumbered = record {
    image = λ v. number_at (slice_get s.kept v);
    origin = λ u. place_of u s.kept;
    offset = λ v. pos 0;
    image_in = λ v l. s.each v (number_at (slice_get s.kept v)) (there v l);
    origin_in = λ u i. (let l = slice_get_within s.kept (place_of u s.kept) u (origin-there u i) in let c = count in omega arith);
    origin_image = λ v l. one-place (place_of (number_at (slice_get s.kept v)) s.kept) v (number_at (slice_get s.kept v)) (place-there (number_at (slice_get s.kept v)) s.kept v (there v l)) (there v l);
    image_origin = λ u i. image-is (place_of u s.kept) u (origin-there u i);
    addresses = λ v l. sym (host-is v (number_at (slice_get s.kept v)) (there v l));
    host_offsets = λ v a l e. refl;
    cables = λ v w p q a b. (on v w p q a b, off v w p q a b);
  }

pub circuit_map_is_core : CircuitMapIsCore
circuit_map_is_core n host depth j es k f paths deep map =
    same-along (graph_of_map k) (graph_of_inside map.with_outside) (graph_of_core n host) (renumbered map.with_outside k map.without_outside) (inside_is_core n host depth j es map.with_outside f map.tree paths deep map.quotient)
