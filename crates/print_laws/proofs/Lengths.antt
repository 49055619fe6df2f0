-- The lines of a map are short.
use Rattle.std.proofs.Common.{◌≡◌, ◌<◌, ◌≤◌, ◌+◌, ◌*◌, ◌^◌, ◌&&◌, ℕ, zero, suc, List, [], ◌∷◌, ◌++◌, Bool, true, false, length, map, nat_le, nat_lt, Option, Some, None, refl, ap, ◌∙◌, length-append, arith}
use Rattle.std.specs.Prelude.{ℤ, pos, negsuc, codes, decimal, flat_map, slice_get, slice_index, unwrap_or}
use Rattle.std.specs.List.{AllByRecursion, list_all}
use Rattle.std.proofs.lemmas.Bool.Decides.{nat_tests}
use Rattle.std.proofs.lemmas.Fmt.{length-decimal-le}
use Rattle.std.proofs.lemmas.Grind.{flat_map-append}
use Rattle.net_defs.specs.declared.vertex.Vertex.TheVariants.{Host as FabricHost}
use Rattle.net_defs.specs.Network.{Network, IsFabric}
use Rattle.net_defs.specs.Turn.{IsTurn}
use Rattle.net_defs.proofs.Ends.{both}
use Rattle.map_defs.specs.declared.vertex.MapVertex.{MapVertex}
use Rattle.map_defs.specs.declared.vertex.MapVertex.TheVariants.{Host, Switch}
use Rattle.map_defs.specs.declared.vertex.MapCable.{MapCable}
use Rattle.map_defs.specs.NetMap.{NetMap, map_ends}
use Rattle.fab_text.specs.Word.{name_test, is_letter, is_name_byte}
use Rattle.fab_text.specs.Written.{spaced, line_text}
use Rattle.fabric_file.specs.Reading.{AreNamed}
use Rattle.fabric_file.proofs.Names.{name-names, all-nth}
use Rattle.line_table.specs.declared.kind.MapLineKind.TheVariants.{Cable as CableLine}
use Rattle.line_table.specs.Texts.{host_name, turn_text, vertex_text}
use Rattle.line_table.specs.Form.{fill}
use Rattle.line_table.specs.Table.{map_form}
use Rattle.run_defs.specs.LineText.{core_word, vertex_lines, vertex_numbered, cable_line, end_line, map_lines, map_line_text, map_text}
use Rattle.map_canon.specs.Printing.{IsOfFabric, AreOfFabric}
use Rattle.map_canon.proofs.ReadBack.{map-numbered}
use Rattle.map_canon.proofs.Words.{AreNumbered, number-most}
use Rattle.print_laws.specs.Printed.{IsPrintable}

-- the bytes of words with one more after each
abbrev total : List (List ℕ) → ℕ
total [] = 0
total (w ∷ ws) = length w + (1 + total ws)

line-length : (ws : List (List ℕ)) → length (line_text ws) ≤ 1 + total ws
line-length [] = omega arith
line-length (w ∷ []) = let whole = length-append w (10 ∷ []) in omega arith
line-length (w ∷ v ∷ ws) =
    let rest = spaced (v ∷ ws) in
    let later : length (rest ++ 10 ∷ []) ≤ 1 + total (v ∷ ws) = line-length (v ∷ ws) in
    let one = length-append rest (10 ∷ []) in
    let two = length-append w (32 ∷ rest) in
    let whole = length-append (w ++ 32 ∷ rest) (10 ∷ []) in
    omega arith

-- the words
name-short : (w : List ℕ) → name_test w ≡ true → length w ≤ 16
name-short w e =
    let long : Bool = nat_le 1 (length w) in
    let short : Bool = nat_le (length w) 16 in
    let letter = both (long && short && is_letter (slice_index w 0)) (list_all is_name_byte w) e in
    let sizes = both (long && short) (is_letter (slice_index w 0)) letter.0 in
    let size = both long short sizes.0 in
    let most : nat_le (length w) 16 ≡ true = size.1 in
    grind (arith, nat_tests)

host-short : (n : Network) (h : ℕ) → IsFabric n → AreNamed n → h < length n.hosts → length (host_name n h) ≤ 16
host-short n h fabric named there =
    let test : nat_lt h (length n.hosts) ≡ true = grind (arith, nat_tests) in
    name-short (host_name n h) (name-names n (FabricHost h) fabric.names_apart named test).0

switch-short : (s : ℕ) → s < 2 ^ 32 → length (codes "#" ++ decimal s) ≤ 16
switch-short s low =
    let digits = length-decimal-le 10 s (omega arith) (omega arith) (omega arith) in
    let whole = length-append (codes "#") (decimal s) in
    let one : length (codes "#") ≡ 1 = refl in
    omega arith

turn-short : (p : ℤ) → IsTurn p → length (turn_text p) ≤ 3
turn-short (pos zero) t = let one : length (codes "0") ≡ 1 = refl in omega arith
turn-short (pos (suc k)) t =
    let low : suc k ≤ 15 = grind (arith, nat_tests) in
    let digits = length-decimal-le 2 (suc k) (omega arith) (omega arith) (omega arith) in
    let whole = length-append (codes "+") (decimal (suc k)) in
    let one : length (codes "+") ≡ 1 = refl in
    omega arith
turn-short (negsuc k) t =
    let low : suc k ≤ 15 = grind (arith, nat_tests) in
    let digits = length-decimal-le 2 (suc k) (omega arith) (omega arith) (omega arith) in
    let whole = length-append (codes "-") (decimal (suc k)) in
    let one : length (codes "-") ≡ 1 = refl in
    omega arith

mark-short : (b : Bool) → length (core_word b) ≤ 7
mark-short true = let four : length (codes "core") ≡ 4 = refl in omega arith
mark-short false = let seven : length (codes "outside") ≡ 7 = refl in omega arith

-- the lines of vertices
host-line : (n : Network) (h : ℕ) → IsFabric n → AreNamed n → h < length n.hosts → length (line_text (codes "host" ∷ host_name n h ∷ [])) ≤ 33
host-line n h fabric named there =
    let line = line-length (codes "host" ∷ host_name n h ∷ []) in
    let name = host-short n h fabric named there in
    let four : length (codes "host") ≡ 4 = refl in
    omega arith

switch-line : (s : ℕ) (b : Bool) → s < 2 ^ 32 → length (line_text (codes "switch" ∷ (codes "#" ++ decimal s) ∷ core_word b ∷ [])) ≤ 33
switch-line s b low =
    let line = line-length (codes "switch" ∷ (codes "#" ++ decimal s) ∷ core_word b ∷ []) in
    let number = switch-short s low in
    let mark = mark-short b in
    let six : length (codes "switch") ≡ 6 = refl in
    omega arith

vertices-short : (n : Network) (vs : List MapVertex) (bs : List Bool) (k : ℕ) → IsFabric n → AreNamed n → AllByRecursion (IsOfFabric n) vs → AreNumbered k vs → k + length vs ≤ 2 ^ 32 → length (flat_map (map_line_text n) (vertex_lines vs bs)) ≤ 33 * length vs
vertices-short n [] bs k fabric named there numbered few = omega arith
vertices-short n (Host h ∷ vs) [] k fabric named there numbered few = omega arith
vertices-short n (Switch s ∷ vs) [] k fabric named there numbered few = omega arith
vertices-short n (Host h ∷ vs) (b ∷ bs) k fabric named there numbered few =
    let line = line_text (codes "host" ∷ host_name n h ∷ []) in
    let own = host-line n h fabric named there.0 in
    let rest = vertices-short n vs bs k fabric named there.1 numbered (omega arith) in
    let whole = length-append line (flat_map (map_line_text n) (vertex_lines vs bs)) in
    omega arith
vertices-short n (Switch s ∷ vs) (b ∷ bs) k fabric named there numbered few =
    let line = line_text (codes "switch" ∷ (codes "#" ++ decimal s) ∷ core_word b ∷ []) in
    let number = numbered.0 in
    let own = switch-line s b (omega arith) in
    let rest = vertices-short n vs bs (k + 1) fabric named there.1 numbered.1 (omega arith) in
    let whole = length-append line (flat_map (map_line_text n) (vertex_lines vs bs)) in
    omega arith

-- the lines of cables
end-short : (n : Network) (m : NetMap) (v : ℕ) → IsFabric n → AreNamed n → AreOfFabric n m → AreNumbered 0 m.vertices → length m.vertices ≤ 2 ^ 32 → length (vertex_text n (vertex_numbered m v)) ≤ 16
end-short n m v fabric named there numbered few = by (slice_get m.vertices v) refl
  where
    by : (o : Option MapVertex) → slice_get m.vertices v ≡ o → length (vertex_text n (unwrap_or o (Switch 0))) ≤ 16
    by None e = switch-short 0 (omega arith)
    by (Some (Host h)) e = host-short n h fabric named (all-nth (IsOfFabric n) m.vertices v (Host h) there e)
    by (Some (Switch s)) e = switch-short s (let l = number-most m.vertices 0 v s numbered e in omega arith)

cable-line : (n : Network) (m : NetMap) (c : MapCable) → ((v : ℕ) → length (vertex_text n (vertex_numbered m v)) ≤ 16) → IsTurn c.p → IsTurn c.q → length (map_line_text n (cable_line m c)) ≤ 49
cable-line n m c ends first second =
    let line = line-length (fill n (map_form CableLine) (cable_line m c).values) in
    let a = ends c.v in
    let b = turn-short c.p first in
    let d = ends c.w in
    let e = turn-short c.q second in
    let five : length (codes "cable") ≡ 5 = refl in
    omega arith

cables-short : (n : Network) (m : NetMap) (cs : List MapCable) → ((v : ℕ) → length (vertex_text n (vertex_numbered m v)) ≤ 16) → AllByRecursion (λ d. IsTurn d.p) (map_ends cs) → length (flat_map (map_line_text n) (map (cable_line m) cs)) ≤ 49 * length cs
cables-short n m [] ends turns = omega arith
cables-short n m (c ∷ cs) ends turns =
    let own = cable-line n m c ends turns.0 turns.1.0 in
    let rest = cables-short n m cs ends turns.1.1 in
    let whole = length-append (map_line_text n (cable_line m c)) (flat_map (map_line_text n) (map (cable_line m) cs)) in
    omega arith

-- some fifty million bytes at most
pub text-short : (n : Network) (m : NetMap) → IsFabric n → AreNamed n → IsPrintable n m → length (map_text n m) ≤ 4294967290
text-short n m fabric named is =
    let numbered = map-numbered m is.rules in
    let few = is.few_vertices in
    let few_too = is.few_cables in
    let line = map_line_text n in
    let vertices = vertex_lines m.vertices m.core in
    let cables = map (cable_line m) m.cables in
    let a = vertices-short n m.vertices m.core 0 fabric named is.hosts numbered (omega arith) in
    let b = cables-short n m m.cables (λ v. end-short n m v fabric named is.hosts numbered (omega arith)) is.rules.ports_in_range in
    let c = line-length (codes "endmap" ∷ []) in
    let six : length (codes "endmap") ≡ 6 = refl in
    let two : length (flat_map line (map_lines m)) ≡ length (flat_map line vertices) + length (flat_map line cables) =
    ap length (flat_map-append line vertices cables) ∙ length-append (flat_map line vertices) (flat_map line cables) in
    let whole = length-append (flat_map line (map_lines m)) (line end_line) in
    omega arith
