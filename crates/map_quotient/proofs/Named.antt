-- A map whose vertices are named for nodes, with one vertex more.
use Rattle.std.proofs.Common.{◌≡◌, ◌<◌, ◌+◌, ℕ, suc, List, [], ◌∷◌, ◌++◌, length, map, take, get_or, true, Option, Some, None, refl, ap, sym, ◌∙◌, arith}
use Rattle.std.proofs.lemmas.List.{map-append, take_more}
use Rattle.std.specs.Prelude.{ℤ}
use Rattle.journal_defs.specs.declared.entry.Entry.{Entry}
use Rattle.journal_defs.specs.Tree.{host_of}
use Rattle.map_defs.specs.declared.vertex.MapVertex.{MapVertex}
use Rattle.map_defs.specs.declared.vertex.MapVertex.TheVariants.{Host, Switch}
use Rattle.map_defs.specs.NetMap.{NetMap, switches_of}
use Rattle.map_defs.specs.Quotient.{named}
use Rattle.replicate_merge.specs.Nodes.{nodes_of}
use Rattle.replicate_merge.specs.Ways.{node_at}
use Rattle.map_quotient.specs.Naming.{bare_map, with_vertex, vertices_of}

-- the vertex of one node more, after these
abbrev pub next_vertex : ℕ → List (Option ℕ) → Option ℕ → MapVertex
next_vertex s os (Some h) = Host h
next_vertex s os None = Switch (s + length (switches_of (named s os)))

pub same_switch : (a b : ℕ) → a ≡ b → Switch a ∷ [] ≡ Switch b ∷ []
same_switch a b e = ap (λ n. Switch n ∷ []) e

pub named-push : (s : ℕ) (os : List (Option ℕ)) (o : Option ℕ) → named s (os ++ o ∷ []) ≡ named s os ++ next_vertex s os o ∷ []
named-push s [] (Some h) = refl
named-push s [] None = same_switch s (s + 0) (omega arith)
named-push s (Some g ∷ os) (Some h) = ap (λ l. Host g ∷ l) (named-push s os (Some h))
named-push s (Some g ∷ os) None = ap (λ l. Host g ∷ l) (named-push s os None)
named-push s (None ∷ os) (Some h) = ap (λ l. Switch s ∷ l) (named-push (suc s) os (Some h))
named-push s (None ∷ os) None =
    let k = length (switches_of (named (suc s) os)) in
    let rest = named-push (suc s) os None in
    ap (λ l. Switch s ∷ l) (rest ∙ ap (λ l. named (suc s) os ++ l) (same_switch (suc s + k) (s + suc k) (omega arith)))

bare-more : (vs : List MapVertex) (x : MapVertex) → ◌≡◌ {A = NetMap} (record { vertices = vs ++ x ∷ []; cables = []; core = map (λ v. true) vs ++ true ∷ [] }) (bare_map (vs ++ x ∷ []))
bare-more vs x = λ i. record { vertices = vs ++ x ∷ []; cables = []; core = sym (map-append (λ v. true) vs (x ∷ [])) i }

-- the map of these nodes and one more
pub with_vertex-named : (os : List (Option ℕ)) (o : Option ℕ) → with_vertex (bare_map (named 0 os)) o ≡ bare_map (named 0 (os ++ o ∷ []))
with_vertex-named os (Some h) = bare-more (named 0 os) (Host h) ∙ ap bare_map (sym (named-push 0 os (Some h)))
with_vertex-named os None =
    let k = length (switches_of (named 0 os)) in
    bare-more (named 0 os) (Switch k) ∙ ap bare_map (ap (λ l. named 0 os ++ l) (same_switch k (0 + k) (omega arith)) ∙ sym (named-push 0 os None))

pub named-next : (host : ℕ) (j : List Entry) (walks : List (List ℤ)) (least : List ℕ) (k : ℕ) (old new : NetMap) (address : Option ℕ) → k < length least → old ≡ bare_map (vertices_of host j walks (take k least)) → address ≡ host_of host j (node_at (nodes_of walks) (get_or least k 0)) → new ≡ with_vertex old address → new ≡ bare_map (vertices_of host j walks (take (k + 1) least))
named-next host j walks least k old new address l before is added =
    let f : ℕ → Option ℕ = λ n. host_of host j (node_at (nodes_of walks) n) in
    let more : map f (take (k + 1) least) ≡ map f (take k least) ++ f (get_or least k 0) ∷ [] = ap (map f) (take_more least k 0 l) ∙ map-append f (take k least) (get_or least k 0 ∷ []) in
    added
    ∙ ap (λ m. with_vertex m address) before
    ∙ ap (with_vertex (bare_map (vertices_of host j walks (take k least)))) is
    ∙ with_vertex-named (map f (take k least)) (f (get_or least k 0))
    ∙ ap (λ os. bare_map (named 0 os)) (sym more)
