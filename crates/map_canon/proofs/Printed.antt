-- A map that is printed line by line.
use Rattle.std.proofs.Common.{◌≡◌, ◌<◌, ℕ, zero, suc, ◌+◌, List, [], ◌∷◌, ◌++◌, map, Bool, length, take, get_or, Some, ap, sym, subst, ◌∙◌, arith, w8, to_z, of_z, FitsSigned}
use Rattle.std.specs.Prelude.{flat_map, slice_get, ℤ}
use Rattle.std.specs.List.{AllByRecursion}
use Rattle.std.proofs.lemmas.List.{map-append, take_more, flat_map_more}
use Rattle.std.proofs.lemmas.Grind.{flat_map-append}
use Rattle.std.proofs.lemmas.Int.{ints, to_z-of_z}
use Rattle.std.proofs.lemmas.Bool.Decides.{nat_tests}
use Rattle.net_defs.specs.Network.{Network}
use Rattle.net_defs.specs.Turn.{IsTurn}
use Rattle.map_defs.specs.declared.vertex.MapVertex.{MapVertex}
use Rattle.map_defs.specs.declared.vertex.MapCable.{MapCable}
use Rattle.map_defs.specs.NetMap.{NetMap, map_ends}
use Rattle.run_defs.specs.LineText.{MapLine, map_text, map_line_text, vertex_lines, vertex_line, cable_line, end_line}

-- one vertex more, and one cable
pub vertices-more : (vs : List MapVertex) (cs : List Bool) (i : ℕ) (v : MapVertex) (c : Bool) → slice_get vs i ≡ Some v → slice_get cs i ≡ Some c
    → vertex_lines (take (i + 1) vs) (take (i + 1) cs) ≡ vertex_lines (take i vs) (take i cs) ++ vertex_line v c ∷ []
vertices-more [] cs i v c d e = cc
vertices-more (x ∷ xs) [] i v c d e = cc
vertices-more (x ∷ xs) (y ∷ ys) zero v c d e =
    let one : x ≡ v = cc in
    let two : y ≡ c = cc in
    λ i. vertex_line (one i) (two i) ∷ []
vertices-more (x ∷ xs) (y ∷ ys) (suc i) v c d e =
    let plus : suc i + 1 ≡ suc (i + 1) = omega arith in
    ap (λ k. vertex_lines (take k (x ∷ xs)) (take k (y ∷ ys))) plus ∙ ap (λ l. vertex_line x y ∷ l) (vertices-more xs ys i v c d e)

pub cables-more : (m : NetMap) (cs : List MapCable) (i : ℕ) (none : MapCable) → i < length cs → map (cable_line m) (take (i + 1) cs) ≡ map (cable_line m) (take i cs) ++ cable_line m (get_or cs i none) ∷ []
cables-more m cs i none low = ap (map (cable_line m)) (take_more cs i none low) ∙ map-append (cable_line m) (take i cs) (get_or cs i none ∷ [])

-- so one line more is printed
pub printed-line : (f : Network) (ls more : List MapLine) (l : MapLine) (text loop new : List ℕ) → more ≡ ls ++ l ∷ []
    → loop ≡ text ++ flat_map (map_line_text f) ls → new ≡ loop ++ map_line_text f l → new ≡ text ++ flat_map (map_line_text f) more
printed-line f ls more l text loop new is so_far one =
    one ∙ ap (λ t. t ++ map_line_text f l) so_far ∙ flat_map_more (map_line_text f) text ls l ∙ ap (λ x. text ++ flat_map (map_line_text f) x) (sym is)

-- the three parts
pub printed-whole : (f : Network) (m : NetMap) (none vertices cables whole : List ℕ) → none ≡ [] → vertices ≡ none ++ flat_map (map_line_text f) (vertex_lines m.vertices m.core)
    → cables ≡ vertices ++ flat_map (map_line_text f) (map (cable_line m) m.cables) → whole ≡ cables ++ map_line_text f end_line → whole ≡ map_text f m
printed-whole f m none vertices cables whole a b c d =
    let line = map_line_text f in
    let more = flat_map line (map (cable_line m) m.cables) in
    d ∙ ap (λ l. l ++ line end_line) (c ∙ ap (λ l. l ++ more) (b ∙ ap (λ l. l ++ flat_map line (vertex_lines m.vertices m.core)) a) ∙ sym (flat_map-append line (vertex_lines m.vertices m.core) (map (cable_line m) m.cables)))

-- the ports of a cable
pub cable-turns : (cs : List MapCable) (k : ℕ) (c : MapCable) → AllByRecursion (λ d. IsTurn d.p) (map_ends cs) → slice_get cs k ≡ Some c → IsTurn c.p × IsTurn c.q
cable-turns [] k c all e = cc
cable-turns (x ∷ xs) zero c all e = let one : x ≡ c = cc in (subst (λ y. IsTurn y.p) one all.0, subst (λ y. IsTurn y.q) one all.1.0)
cable-turns (x ∷ xs) (suc k) c all e = cable-turns xs k c all.1.1 e

-- a port fits in eight bits
pub port-same : (p : ℤ) → IsTurn p → to_z w8 (of_z w8 p) ≡ p
port-same p t = to_z-of_z w8 p (fits p t)
  where
    fits : (t : ℤ) → IsTurn t → FitsSigned w8 t
    fits t e = grind (arith, ints, nat_tests)
