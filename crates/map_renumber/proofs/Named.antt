-- A map whose vertices are named by their addresses, with one vertex more.
use Rattle.std.proofs.Common.{◌≡◌, ◌<◌, ◌+◌, ℕ, List, [], ◌∷◌, ◌++◌, length, map, take, get_or, Bool, true, Option, Some, None, refl, ap, sym, ◌∙◌, arith}
use Rattle.std.proofs.lemmas.List.{map-append, take_more}
use Rattle.std.proofs.lemmas.Option.{get_or_from_slice_get}
use Rattle.map_defs.specs.NetMap.{NetMap, IsMap, switches_of, host_of_vertex}
use Rattle.map_defs.specs.Quotient.{named}
use Rattle.map_quotient.proofs.Named.{same_switch, named-push}
use Rattle.map_renumber.specs.Canon.{is_of_core}
use Rattle.map_renumber.specs.Naming.{bare_map, with_vertex}

-- the map of these addresses and marks, and one more: a host's mark is true
pub with_vertex-named : (os : List (Option ℕ)) (marks : List Bool) (o : Option ℕ) (mark : Bool) → ((h : ℕ) → o ≡ Some h → mark ≡ true) → with_vertex (bare_map (named 0 os) marks) o mark ≡ bare_map (named 0 (os ++ o ∷ [])) (marks ++ mark ∷ [])
with_vertex-named os marks (Some h) mark host = λ i. bare_map (sym (named-push 0 os (Some h)) i) (marks ++ sym (host h refl) i ∷ [])
with_vertex-named os marks None mark host =
    let k = length (switches_of (named 0 os)) in
    ap (λ vs. bare_map vs (marks ++ mark ∷ [])) (ap (λ l. named 0 os ++ l) (same_switch k (0 + k) (omega arith)) ∙ sym (named-push 0 os None))

-- the map of the first vertices and one more
pub named-next : {X : Type 0} (f : X → Option ℕ) (g : X → Bool) (xs : List X) (x : X) (k : ℕ) (old new : NetMap) (address : Option ℕ) (mark : Bool) → ((y : X) (h : ℕ) → f y ≡ Some h → g y ≡ true) → k < length xs → old ≡ bare_map (named 0 (map f (take k xs))) (map g (take k xs)) → address ≡ f (get_or xs k x) → mark ≡ g (get_or xs k x) → new ≡ with_vertex old address mark → new ≡ bare_map (named 0 (map f (take (k + 1) xs))) (map g (take (k + 1) xs))
named-next {X = X} f g xs x k old new address mark host l before is marked added =
    added
    ∙ (λ i. with_vertex (before i) (is i) (marked i))
    ∙ with_vertex-named (map f (take k xs)) (map g (take k xs)) (f (get_or xs k x)) (g (get_or xs k x)) (host (get_or xs k x))
    ∙ (λ i. bare_map (named 0 (sym (more f) i)) (sym (more g) i))
  where
    more : {Y : Type 0} (e : X → Y) → map e (take (k + 1) xs) ≡ map e (take k xs) ++ e (get_or xs k x) ∷ []
    more e = ap (map e) (take_more xs k x l) ∙ map-append e (take k xs) (get_or xs k x ∷ [])

-- a host of a map is of its core
pub host-marked : (m : NetMap) → IsMap m → (v h : ℕ) → host_of_vertex m v ≡ Some h → is_of_core m v ≡ true
host-marked m is_map v h e = get_or_from_slice_get m.core v true true (is_map.hosts_marked v h e)
