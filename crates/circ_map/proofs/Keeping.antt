-- The map of what is kept, vertex by vertex and cable by cable.
use Rattle.std.proofs.Common.{◌≡◌, ◌<◌, ◌+◌, ℕ, zero, suc, List, [], ◌∷◌, ◌++◌, length, map, take, get_or, true, Option, Some, sym, ◌∙◌, ap, refl, arith}
use Rattle.std.specs.Prelude.{slice_get}
use Rattle.std.proofs.lemmas.List.{append_assoc, append-nil, map-append, take_more}
use Rattle.map_defs.specs.declared.vertex.MapCable.{MapCable}
use Rattle.map_defs.specs.NetMap.{NetMap, host_of_vertex}
use Rattle.map_defs.specs.Quotient.{named}
use Rattle.map_quotient.specs.Naming.{with_vertex}
use Rattle.map_quotient.proofs.Named.{with_vertex-named}
use Rattle.circ_map.specs.Inside.{bare, cables_in, number_in, renumbered}

-- one vertex more
pub bare-next : (m : NetMap) (kept : List ℕ) (i : ℕ) (now next : NetMap) (a : Option ℕ) → i < length kept → now ≡ bare m (take i kept) → a ≡ host_of_vertex m (get_or kept i 0) → next ≡ with_vertex now a → next ≡ bare m (take (i + 1) kept)
bare-next m kept i now next a l e f g =
    let more : take (i + 1) kept ≡ take i kept ++ get_or kept i 0 ∷ [] = take_more kept i 0 l in
    g ∙ ap (λ x. with_vertex x a) e ∙ ap (with_vertex (bare m (take i kept))) f
    ∙ with_vertex-named (map (host_of_vertex m) (take i kept)) (host_of_vertex m (get_or kept i 0))
    ∙ ap (λ os. record { vertices = named 0 os; cables = []; core = map (λ v. true) (named 0 os) }) (sym (map-append (host_of_vertex m) (take i kept) (get_or kept i 0 ∷ [])))
    ∙ ap (bare m) (sym more)

cables_in-append : (kept : List ℕ) (cs ds : List MapCable) → cables_in kept (cs ++ ds) ≡ cables_in kept cs ++ cables_in kept ds
cables_in-append kept [] ds = refl
cables_in-append kept (c ∷ cs) ds =
    ap (λ l. renumbered c (number_in kept c.v) (number_in kept c.w) ++ l) (cables_in-append kept cs ds)
    ∙ sym (append_assoc (renumbered c (number_in kept c.v) (number_in kept c.w)) (cables_in kept cs) (cables_in kept ds))

take-next : (cs : List MapCable) (k : ℕ) (c : MapCable) → slice_get cs k ≡ Some c → take (suc k) cs ≡ take k cs ++ c ∷ []
take-next [] k c e = cc
take-next (x ∷ cs) zero c e = let one : x ≡ c = cc in ap (λ y. y ∷ []) one
take-next (x ∷ cs) (suc k) c e = ap (λ l. x ∷ l) (take-next cs k c e)

-- one cable more
pub cables-next : (kept : List ℕ) (cs now next : List MapCable) (k : ℕ) (c : MapCable) (v w : Option ℕ) → slice_get cs k ≡ Some c → now ≡ cables_in kept (take k cs) → v ≡ number_in kept c.v → w ≡ number_in kept c.w → next ≡ now ++ renumbered c v w → next ≡ cables_in kept (take (k + 1) cs)
cables-next kept cs now next k c v w e f a b g =
    g ∙ ap (λ l. l ++ renumbered c v w) f
    ∙ ap (λ x. cables_in kept (take k cs) ++ renumbered c x w) a
    ∙ ap (λ x. cables_in kept (take k cs) ++ renumbered c (number_in kept c.v) x) b
    ∙ ap (λ l. cables_in kept (take k cs) ++ l) (sym (append-nil (renumbered c (number_in kept c.v) (number_in kept c.w))))
    ∙ sym (cables_in-append kept (take k cs) (c ∷ []))
    ∙ ap (cables_in kept) (sym (take-next cs k c e))
    ∙ ap (λ i. cables_in kept (take i cs)) (let one : suc k ≡ k + 1 = omega arith in one)
