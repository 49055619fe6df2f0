-- What routes print, line by line.
use Rattle.std.proofs.Common.{◌≡◌, ℕ, List, [], ◌∷◌, ◌++◌, length, map, refl, ap, sym, ◌∙◌, append_assoc}
use Rattle.std.specs.Prelude.{flat_map}
use Rattle.std.proofs.lemmas.Grind.{flat_map-append}
use Rattle.std.proofs.lemmas.List.{append-nil}
use Rattle.std.proofs.lemmas.List.Folds.{flat_map-map}
use Rattle.net_defs.specs.declared.route.Route.{Route}
use Rattle.net_defs.specs.Network.{Network}
use Rattle.map_defs.specs.declared.rank.RankEntry.{RankEntry}
use Rattle.map_defs.specs.NetMap.{NetMap}
use Rattle.map_defs.specs.Orientation.{order_of}
use Rattle.map_defs.specs.Ranks.{ranks_of}
use Rattle.run_defs.specs.declared.line.Line.{Line}
use Rattle.run_defs.specs.declared.line.Line.TheVariants.{Routes, EndRoutes}
use Rattle.run_defs.specs.Output.{lines}
use Rattle.run_defs.specs.LineText.{line_text, output_text}
use Rattle.run_defs.specs.declared.figure.Figure.TheVariants.{Routed}
use Rattle.run_defs.specs.Run.{route_line, rank_line, routes_lines}
use Rattle.run_defs.specs.Summary.{figures_in}
use Rattle.fab_report.specs.Printed.{PrintedState, printed_of}

output-lines : (f : Network) (ls : List Line) → output_text f (lines ls) ≡ flat_map (line_text f) ls
output-lines f [] = refl
output-lines f (l ∷ ls) = ap (λ t. line_text f l ++ t) (output-lines f ls)

-- the routes and the ranks line by line
abbrev parts-text : Network → NetMap → List Route → List RankEntry → List ℕ
parts-text f m routes ranks =
    line_text f (Routes (length routes)) ++ (flat_map (λ r. line_text f (route_line r)) routes ++ (flat_map (λ k. line_text f (rank_line m k)) ranks ++ line_text f EndRoutes))

-- they are the whole text
whole-text : (f : Network) (m : NetMap) (routes : List Route) → parts-text f m routes (ranks_of m (order_of m)) ≡ output_text f (lines (routes_lines m routes))
whole-text f m routes =
    let text : Line → List ℕ = line_text f in
    let ranks : List RankEntry = ranks_of m (order_of m) in
    let route_lines : List Line = map route_line routes in
    let rank_lines : List Line = map (rank_line m) ranks in
    let last : List Line = EndRoutes ∷ [] in
    sym (output-lines f (routes_lines m routes)
    ∙ ap (λ t. text (Routes (length routes)) ++ t)
    (flat_map-append text (route_lines ++ rank_lines) last
    ∙ ap (λ t. t ++ flat_map text last) (flat_map-append text route_lines rank_lines)
    ∙ append_assoc (flat_map text route_lines) (flat_map text rank_lines) (flat_map text last)
    ∙ (λ i. flat_map-map text route_line routes i ++ (flat_map-map text (rank_line m) ranks i ++ append-nil (text EndRoutes) i))))

-- the lines of routes and of ranks have no figures
route-none : (routes : List Route) (rest : List Line) → figures_in (lines (map route_line routes ++ rest)) ≡ figures_in (lines rest)
route-none [] rest = refl
route-none (r ∷ routes) rest = route-none routes rest

rank-none : (m : NetMap) (ranks : List RankEntry) (rest : List Line) → figures_in (lines (map (rank_line m) ranks ++ rest)) ≡ figures_in (lines rest)
rank-none m [] rest = refl
rank-none m (k ∷ ranks) rest = rank-none m ranks rest

whole-figures : (m : NetMap) (routes : List Route) → figures_in (lines (routes_lines m routes)) ≡ Routed (length routes) ∷ []
whole-figures m routes =
    let ranks : List Line = map (rank_line m) (ranks_of m (order_of m)) in
    let last : List Line = EndRoutes ∷ [] in
    ap (λ ls. Routed (length routes) ∷ figures_in (lines ls)) (append_assoc (map route_line routes) ranks last)
    ∙ ap (λ ks. Routed (length routes) ∷ ks) (route-none routes (ranks ++ last) ∙ rank-none m (ranks_of m (order_of m)) last)

-- what routes and ranks print
abbrev pub parts-printed : Network → NetMap → List Route → List RankEntry → PrintedState
parts-printed f m routes ranks = record { text = parts-text f m routes ranks; figures = Routed (length routes) ∷ [] }

-- it is all that is printed
pub whole-printed : (f : Network) (m : NetMap) (routes : List Route) → parts-printed f m routes (ranks_of m (order_of m)) ≡ printed_of f (lines (routes_lines m routes))
whole-printed f m routes = λ i. record { text = whole-text f m routes i; figures = sym (whole-figures m routes) i }
