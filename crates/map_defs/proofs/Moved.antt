-- The map of two hosts is the same as that whose switch counts its ports from elsewhere.
use Rattle.std.proofs.Common.{◌≡◌, ℕ, zero, suc, Some, subst, ap, refl, arith}
use Rattle.std.specs.Prelude.{ℤ, pos, ◌+ℤ◌, neg_ℤ}
use Rattle.std.proofs.lemmas.Int.{ints}
use Rattle.map_defs.specs.NetMap.{MapPort, IsCabled, first_end, second_end, host_of_vertex}
use Rattle.map_defs.specs.NetMap.IsCabled.{forth, back}
use Rattle.map_defs.specs.Sameness.{IsSame, graph_of_map}
use Rattle.map_defs.specs.Examples.{two_hosts_map, moved_map, cable, port}

-- the switch counts two more
abbrev shift : ℕ → ℤ
shift zero = pos 0
shift (suc zero) = pos 2
shift (suc (suc v)) = pos 0

abbrev shifted : MapPort → MapPort
shifted d = port d.v (d.p +ℤ shift d.v)

abbrev shifted_back : MapPort → MapPort
shifted_back d = port d.v (d.p +ℤ neg_ℤ (shift d.v))

there : (d e : MapPort) → IsCabled two_hosts_map d e → IsCabled moved_map (shifted d) (shifted e)
there d e (forth zero {c = c} p) = let one : cable 0 (pos 0) 1 (pos 0) ≡ c = cc in subst (λ c. IsCabled moved_map (shifted (first_end c)) (shifted (second_end c))) one (forth 0 refl)
there d e (forth (suc zero) {c = c} p) = let one : cable 1 (pos 3) 2 (pos 0) ≡ c = cc in subst (λ c. IsCabled moved_map (shifted (first_end c)) (shifted (second_end c))) one (forth 1 refl)
there d e (forth (suc (suc k)) {c = c} p) = cc
there d e (back zero {c = c} p) = let one : cable 0 (pos 0) 1 (pos 0) ≡ c = cc in subst (λ c. IsCabled moved_map (shifted (second_end c)) (shifted (first_end c))) one (back 0 refl)
there d e (back (suc zero) {c = c} p) = let one : cable 1 (pos 3) 2 (pos 0) ≡ c = cc in subst (λ c. IsCabled moved_map (shifted (second_end c)) (shifted (first_end c))) one (back 1 refl)
there d e (back (suc (suc k)) {c = c} p) = cc

again : (d e : MapPort) → IsCabled moved_map d e → IsCabled two_hosts_map (shifted_back d) (shifted_back e)
again d e (forth zero {c = c} p) = let one : cable 0 (pos 0) 1 (pos 2) ≡ c = cc in subst (λ c. IsCabled two_hosts_map (shifted_back (first_end c)) (shifted_back (second_end c))) one (forth 0 refl)
again d e (forth (suc zero) {c = c} p) = let one : cable 1 (pos 5) 2 (pos 0) ≡ c = cc in subst (λ c. IsCabled two_hosts_map (shifted_back (first_end c)) (shifted_back (second_end c))) one (forth 1 refl)
again d e (forth (suc (suc k)) {c = c} p) = cc
again d e (back zero {c = c} p) = let one : cable 0 (pos 0) 1 (pos 2) ≡ c = cc in subst (λ c. IsCabled two_hosts_map (shifted_back (second_end c)) (shifted_back (first_end c))) one (back 0 refl)
again d e (back (suc zero) {c = c} p) = let one : cable 1 (pos 5) 2 (pos 0) ≡ c = cc in subst (λ c. IsCabled two_hosts_map (shifted_back (second_end c)) (shifted_back (first_end c))) one (back 1 refl)
again d e (back (suc (suc k)) {c = c} p) = cc

undone : (d : MapPort) → shifted_back (shifted d) ≡ d
undone d = ap (port d.v) (by d.p (shift d.v))
  where
    by : (p o : ℤ) → (p +ℤ o) +ℤ neg_ℤ o ≡ p
    by p o = omega (arith, ints)

host_shift : (v a : ℕ) → host_of_vertex two_hosts_map v ≡ Some a → shift v ≡ pos 0
host_shift zero a e = refl
host_shift (suc zero) a e = cc
host_shift (suc (suc v)) a e = refl

pub moved_is_same : IsSame (graph_of_map two_hosts_map) (graph_of_map moved_map)
moved_is_same = record {
  image = λ v. v;
  origin = λ v. v;
  offset = shift;
  image_in = λ v i. i;
  origin_in = λ v i. i;
  origin_image = λ v i. refl;
  image_origin = λ v i. refl;
  addresses = λ v i. refl;
  host_offsets = λ v a i e. host_shift v a e;
  cables = λ v w p q i j. (there (port v p) (port w q), (λ c. subst (λ d. IsCabled two_hosts_map d (port w q)) (undone (port v p)) (subst (λ d. IsCabled two_hosts_map (shifted_back (shifted (port v p))) d) (undone (port w q)) (again (shifted (port v p)) (shifted (port w q)) c))));
}
