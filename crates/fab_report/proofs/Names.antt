-- What is printed names hosts and switches alone: it is the same whatever the cables.
use Rattle.std.proofs.Common.{◌≡◌, ℕ, List, [], ◌∷◌, ◌++◌, decimal, refl, sym, ◌∙◌, ap}
use Rattle.std.specs.Prelude.{flat_map}
use Rattle.net_defs.specs.declared.vertex.Vertex.{Vertex}
use Rattle.net_defs.specs.declared.vertex.Vertex.TheVariants.{Host, Switch}
use Rattle.net_defs.specs.Network.{Network, NamedSwitch}
use Rattle.net_defs.specs.Building.{name_of}
use Rattle.map_defs.specs.declared.vertex.MapVertex.{MapVertex}
use Rattle.map_defs.specs.declared.vertex.MapVertex.TheVariants.{Host as MapHost, Switch as MapSwitch}
use Rattle.map_defs.specs.NetMap.{NetMap}
use Rattle.fab_text.specs.Written.{line_text as line_of}
use Rattle.line_table.specs.Texts.{vertex_text}
use Rattle.line_table.specs.Form.{Slot, Fixed, Of, AnEnd, AnEndBy, Rest, LineValue, VertexAt, EndAt, words_of_value, words_by, fill}
use Rattle.line_table.specs.Table.{form_of, map_form}
use Rattle.run_defs.specs.LineRows.{line_kind, line_values}
use Rattle.run_defs.specs.LineText.{MapLine, map_line_text, map_lines, end_line, map_text, piece_text, output_text}
use Rattle.run_defs.specs.Output.{Piece, OneLine, MapLines}
use Rattle.run_defs.specs.Summary.{figures_in}
use Rattle.fab_report.specs.Printed.{printed_of}

-- the hosts and the switches of a fabric, without its cables
abbrev bare : Network → Network
bare n = record { hosts = n.hosts; switches = n.switches; cables = [] }

name-bare : (n : Network) (v : Vertex) → name_of n v ≡ name_of (bare n) v
name-bare n (Host h) = refl
name-bare n (Switch s) = refl

-- the words of each value
vertex-bare : (n : Network) (v : MapVertex) → vertex_text n v ≡ vertex_text (bare n) v
vertex-bare n (MapHost h) = refl
vertex-bare n (MapSwitch s) = refl

value-bare : (n : Network) (v : LineValue) → words_of_value n v ≡ words_of_value (bare n) v
value-bare n (VertexAt v) = ap (λ w. w ∷ []) (vertex-bare n v)
value-bare n (EndAt e) = ap (λ w. w ∷ decimal e.p ∷ []) (name-bare n e.v)
value-bare n _ = refl

by-bare : (n : Network) (w : List ℕ) (v : LineValue) → words_by n w v ≡ words_by (bare n) w v
by-bare n w (VertexAt v) = ap (λ x. x ∷ []) (vertex-bare n v)
by-bare n w (EndAt e) = ap (λ x. x ∷ w ∷ decimal e.p ∷ []) (name-bare n e.v)
by-bare n w _ = refl

values-bare : (n : Network) (vs : List LineValue) → flat_map (words_of_value n) vs ≡ flat_map (words_of_value (bare n)) vs
values-bare n [] = refl
values-bare n (v ∷ vs) = λ i. value-bare n v i ++ values-bare n vs i

-- and those of a form with its values
fill-bare : (n : Network) (ss : List Slot) (vs : List LineValue) → fill n ss vs ≡ fill (bare n) ss vs
fill-bare n [] vs = refl
fill-bare n (Fixed w ∷ ss) vs = ap (λ ws. w ∷ ws) (fill-bare n ss vs)
fill-bare n (Of k ∷ ss) [] = refl
fill-bare n (Of k ∷ ss) (v ∷ vs) = λ i. value-bare n v i ++ fill-bare n ss vs i
fill-bare n (AnEnd ∷ ss) [] = refl
fill-bare n (AnEnd ∷ ss) (v ∷ vs) = λ i. value-bare n v i ++ fill-bare n ss vs i
fill-bare n (AnEndBy w ∷ ss) [] = refl
fill-bare n (AnEndBy w ∷ ss) (v ∷ vs) = λ i. by-bare n w v i ++ fill-bare n ss vs i
fill-bare n (Rest k ∷ ss) vs = values-bare n vs

each-same : {X : Type 0} (f g : X → List ℕ) → ((x : X) → f x ≡ g x) → (xs : List X) → flat_map f xs ≡ flat_map g xs
each-same f g same [] = refl
each-same f g same (x ∷ xs) = ap (λ t. t ++ flat_map f xs) (same x) ∙ ap (λ rest. g x ++ rest) (each-same f g same xs)

-- the lines of a map
line-bare : (n : Network) (l : MapLine) → map_line_text n l ≡ map_line_text (bare n) l
line-bare n l = ap line_of (fill-bare n (map_form l.kind) l.values)

map-bare : (n : Network) (m : NetMap) → map_text n m ≡ map_text (bare n) m
map-bare n m =
    let lines = each-same (map_line_text n) (map_line_text (bare n)) (line-bare n) (map_lines m) in
    λ i. lines i ++ line-bare n end_line i

-- all that is printed
piece-bare : (n : Network) (p : Piece) → piece_text n p ≡ piece_text (bare n) p
piece-bare n (OneLine l) = ap line_of (fill-bare n (form_of (line_kind l)) (line_values l))
piece-bare n (MapLines m) = map-bare n m

printed-bare : (n : Network) (out : List Piece) → printed_of n out ≡ printed_of (bare n) out
printed-bare n out =
    let text : output_text n out ≡ output_text (bare n) out = each-same (piece_text n) (piece_text (bare n)) (piece-bare n) out in
    λ i. record { text = text i; figures = figures_in out }

pub printed-named : (n m : Network) → n.hosts ≡ m.hosts → n.switches ≡ m.switches → (out : List Piece) → printed_of n out ≡ printed_of m out
printed-named n m hosts switches out =
    printed-bare n out
    ∙ ap (λ (names : List (List ℕ)). printed_of (record { hosts = names; switches = n.switches; cables = [] }) out) hosts
    ∙ ap (λ (named : List NamedSwitch). printed_of (record { hosts = m.hosts; switches = named; cables = [] }) out) switches
    ∙ sym (printed-bare m out)
