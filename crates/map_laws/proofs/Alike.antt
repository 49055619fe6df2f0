-- Right maps are the same, and their marks don't matter.
use Rattle.std.proofs.Common.{◌≡◌, ◌<◌, ℕ, sym, ◌∙◌, subst, ap, refl, length}
use Rattle.std.specs.Prelude.{ℤ, pos, ◌+ℤ◌, slice_get}
use Rattle.map_defs.specs.NetMap.{NetMap, MapPort, IsCabled, host_at}
use Rattle.map_defs.specs.NetMap.IsCabled.{forth, back}
use Rattle.map_defs.specs.Sameness.{graph_of_map, graph_of_part}
use Rattle.map_defs.proofs.Sameness.{by_nothing, same-along, same-back}
use Rattle.map_laws.specs.Certificate.{RightMapsAreSame, MarksDoNotMatter}

pub right_maps_are_same : RightMapsAreSame
right_maps_are_same n host m k a b = same-along (graph_of_map m) (graph_of_part n host) (graph_of_map k) a (same-back (graph_of_map k) (graph_of_part n host) b)

-- cables are those of the list
pub cabled-there : (m k : NetMap) (d e : MapPort) → m.cables ≡ k.cables → IsCabled m d e → IsCabled k d e
cabled-there m k d e same (forth i p) = forth i (ap (λ cs. slice_get cs i) (sym same) ∙ p)
cabled-there m k d e same (back i p) = back i (ap (λ cs. slice_get cs i) (sym same) ∙ p)

ports-moved : (k : NetMap) (v w : ℕ) (p q r s : ℤ) → p ≡ q → r ≡ s → IsCabled k (record { v = v; p = p }) (record { v = w; p = r }) → IsCabled k (record { v = v; p = q }) (record { v = w; p = s })
ports-moved k v w p q r s a b c = subst (λ x. IsCabled k (record { v = v; p = q }) (record { v = w; p = x })) b (subst (λ x. IsCabled k (record { v = v; p = x }) (record { v = w; p = r })) a c)

pub marks_do_not_matter : MarksDoNotMatter
marks_do_not_matter m k vertices cables = record {
  image = λ v. v;
  origin = λ v. v;
  offset = λ v. pos 0;
  image_in = λ v l. subst (λ vs. v < length vs) vertices l;
  origin_in = λ v l. subst (λ vs. v < length vs) (sym vertices) l;
  origin_image = λ v l. refl;
  image_origin = λ v l. refl;
  addresses = λ v l. ap (λ vs. host_at (slice_get vs v)) (sym vertices);
  host_offsets = λ v a l e. refl;
  cables = λ v w p q i j. (
    (λ c. ports-moved k v w p (p +ℤ pos 0) q (q +ℤ pos 0) (by_nothing p) (by_nothing q) (cabled-there m k (record { v = v; p = p }) (record { v = w; p = q }) cables c)),
    (λ c. cabled-there k m (record { v = v; p = p }) (record { v = w; p = q }) (sym cables) (ports-moved k v w (p +ℤ pos 0) p (q +ℤ pos 0) q (sym (by_nothing p)) (sym (by_nothing q)) c)),
  );
}
