-- Printed answers of several lines are read as what they are: routes with their ranks, tables, and broken routes.
use Rattle.std.proofs.Common.{◌≡◌, ◌+◌, ◌++◌, ℕ, List, [], ◌∷◌, Bool, true, false, map, length, nat_eq, Option, Some, None, option_map, Ok, refl, ap, sym, subst, ◌∙◌, append_assoc, if◌then◌else◌, ◌⊎◌, inl, inr}
use Rattle.std.specs.Prelude.{codes, bytes_eq, option_and_then, slice_get}
use Rattle.std.specs.List.{AllByRecursion}
use Rattle.std.proofs.lemmas.Bool.Decides.{Decides-eqb}
use Rattle.std.proofs.lemmas.Slice.Eq.{bytes_eq-Decides}
use Rattle.net_defs.specs.declared.route.Route.{Route}
use Rattle.net_defs.specs.Network.{Network, IsFabric}
use Rattle.net_defs.proofs.Ends.{both}
use Rattle.map_defs.specs.declared.rank.RankEntry.{RankEntry}
use Rattle.map_defs.specs.NetMap.{NetMap}
use Rattle.fab_text.specs.Line.{TextLine, words_of}
use Rattle.fab_text.specs.Fault.{and_then}
use Rattle.fabric_file.specs.Reading.{AreNamed}
use Rattle.fab_script.specs.Ranges.{IsHost}
use Rattle.run_defs.specs.declared.line.Line.{Line}
use Rattle.run_defs.specs.declared.line.Line.TheVariants.{EndRoutes, Table, Broken, EndBroken}
use Rattle.line_table.specs.Texts.{host_name}
use Rattle.run_defs.specs.LineText.{line_text, piece_text, output_text}
use Rattle.run_defs.specs.Output.{Piece, OneLine, lines}
use Rattle.run_defs.specs.Run.{route_line, rank_line, vertex_in}
use Rattle.report_lines.specs.declared.line.ReportLine.{ReportLine}
use Rattle.report_lines.specs.declared.line.ReportLine.TheVariants.{Route as RouteSaid, Rank as RankSaid, EndRoutes as EndRoutesSaid, Table as TableSaid, Broken as BrokenSaid, EndBroken as EndBrokenSaid, NoBroken as NoBrokenSaid}
use Rattle.line_table.specs.Said.{host_said}
use Rattle.report_lines.specs.Lines.{line_said}
use Rattle.judge_defs.specs.Form.{Reads, where_due, next_due, route_due, route_lines, rank_told, where_above, rank_due, is_rank_above, is_end_of_routes, ranks_from, rank_lines, table_due, table_lines, pair_in, pair_where, pair_due, is_end_of_broken, pairs_from, broken_lines}
use Rattle.judge_laws.specs.Lines.{Says, IsVertexIn, are_refusal_words, broken_line, broken_names}
use Rattle.judge_laws.specs.Answers.{lines_at, IsRouteIn, AreRoutesRising, IsRankIn, AreRanksRising, ArePairsRising}
use Rattle.judge_laws.specs.Laws.{IsFirstLine}
use Rattle.line_table.proofs.Filled.{host-read}
use Rattle.judge_laws.proofs.Written.{line-first}
use Rattle.judge_laws.proofs.Saying.{table_line, end_of_routes, end_of_broken, route_line as says_route, rank_line as says_rank}

-- the text of lines, one before others
pub output-more : (n : Network) (p : Piece) (out : List Piece) (rest : List ℕ) → output_text n (p ∷ out) ++ rest ≡ piece_text n p ++ (output_text n out ++ rest)
output-more n p out rest = append_assoc (piece_text n p) (output_text n out) rest

-- the text of lines after others
pub lines-more : (n : Network) (xs ys : List Line) (rest : List ℕ) → output_text n (lines (xs ++ ys)) ++ rest ≡ output_text n (lines xs) ++ (output_text n (lines ys) ++ rest)
lines-more n [] ys rest = refl
lines-more n (x ∷ xs) ys rest =
    output-more n (OneLine x) (lines (xs ++ ys)) rest
    ∙ ap (λ t. line_text n x ++ t) (lines-more n xs ys rest)
    ∙ sym (output-more n (OneLine x) (lines xs) (output_text n (lines ys) ++ rest))

-- a line that says what is due
next-read : {X : Type 0} (due : ReportLine → Option X) (n : Network) (r : ReportLine) (x : X) (past number : ℕ) (text rest : List ℕ) → IsFirstLine n r number text rest → due r ≡ Some x
    → next_due due past n (lines_at number text) ≡ Ok (x, lines_at (number + 1) rest)
next-read due n r x past number text rest f e =
    let more = lines_at (number + 1) rest in
    ap (next_due due past n) f.left
    ∙ (λ i. where_due f.line.number more (option_and_then due (f.said i)))
    ∙ ap (where_due f.line.number more) e

-- what is read after lines that were read
abbrev IsLeft : {X : Type 0} → (List TextLine → Reads X) → X → ℕ → List ℕ → List ℕ → Type 0
IsLeft reads x number text rest = (next : ℕ) × (reads (lines_at number text) ≡ Ok (x, lines_at next rest))

module _ (n : Network) (is : IsFabric n) (good : AreNamed n) (past : ℕ) where
  -- routes
  pub routes-first : (found : List Route) (before : Option Route) (number : ℕ) (rest : List ℕ) → AllByRecursion (IsRouteIn n) found → AreRoutesRising before found
      → IsLeft (route_lines (length found) before past n) found number (output_text n (lines (map route_line found)) ++ rest) rest
  routes-first [] before number rest all rising = (number, refl)
  routes-first (r ∷ rs) before number rest all rising =
      let behind = output_text n (lines (map route_line rs)) ++ rest in
      let first = line-first n (route_line r) (RouteSaid r) number behind is good (says_route r.from r.to r.walk all.0.sender all.0.receiver all.0.is_walk) in
      let due : route_due before (RouteSaid r) ≡ Some r = λ i. if rising.0 i then Some r else None in
      let one = next-read (route_due before) n (RouteSaid r) r past number (line_text n (route_line r) ++ behind) behind first due in
      let others = routes-first rs (Some r) (number + 1) rest all.1 rising.1 in (
        others.0,
        ap (λ t. route_lines (length (r ∷ rs)) before past n (lines_at number t)) (output-more n (OneLine (route_line r)) (lines (map route_line rs)) rest)
            ∙ ap (λ (o : Reads Route). and_then o (λ q. and_then (route_lines (length rs) (Some q.0) past n q.1) (λ qs. Ok (q.0 ∷ qs.0, qs.1)))) one
            ∙ ap (λ (o : Reads (List Route)). and_then o (λ qs. Ok (r ∷ qs.0, qs.1))) others.1,
      )

  -- ranks
  rank-says : (m : NetMap) (k : RankEntry) → IsRankIn n m k → Says n (rank_line m k) (RankSaid (vertex_in (slice_get m.vertices k.v)) k.p k.rank)
  rank-says m k r = says_rank (vertex_in (slice_get m.vertices k.v)) k.p k.rank (subst (λ v. IsVertexIn n v) (sym (ap vertex_in r.stands)) r.named) r.port r.counted

  rank-due : (m : NetMap) (before : Option RankEntry) (k : RankEntry) → IsRankIn n m k → is_rank_above (Some m) before k ≡ true
      → rank_due (Some m) before (RankSaid (vertex_in (slice_get m.vertices k.v)) k.p k.rank) ≡ Some k
  rank-due m before k r above =
      (λ i. where_above (Some m) before (rank_told (Some m) (vertex_in (r.stands i)) k.p k.rank))
      ∙ (λ i. where_above (Some m) before (option_map (λ u. record { v = u; p = k.p; rank = k.rank }) (r.found i)))
      ∙ (λ i. if above i then Some k else None)

  pub ranks-first : (m : NetMap) (ranks : List RankEntry) (before : Option RankEntry) (number : ℕ) (rest : List ℕ) → AllByRecursion (IsRankIn n m) ranks → AreRanksRising m before ranks
      → IsLeft (rank_lines (Some m) before past n) ranks number (output_text n (lines (map (rank_line m) ranks)) ++ (output_text n (lines (EndRoutes ∷ [])) ++ rest)) rest
  ranks-first m [] before number rest all rising =
      let first = line-first n EndRoutes EndRoutesSaid number ([] ++ rest) is good end_of_routes in
      let more = lines_at (number + 1) rest in (
        number + 1,
        ap (λ t. rank_lines (Some m) before past n (lines_at number t)) (output-more n (OneLine EndRoutes) [] rest)
            ∙ ap (rank_lines (Some m) before past n) first.left
            ∙ (λ i. if is_end_of_routes (first.said i) then Ok ([], more) else ranks_from first.line.number (option_and_then (rank_due (Some m) before) (line_said n (words_of first.line.bytes))) (λ k. rank_lines (Some m) (Some k) past n more)),
      )
  ranks-first m (k ∷ ks) before number rest all rising =
      let l = rank_line m k in
      let r = RankSaid (vertex_in (slice_get m.vertices k.v)) k.p k.rank in
      let behind = output_text n (lines (map (rank_line m) ks)) ++ (output_text n (lines (EndRoutes ∷ [])) ++ rest) in
      let first = line-first n l r number behind is good (rank-says m k all.0) in
      let more = lines_at (number + 1) behind in
      let due = rank-due m before k all.0 rising.0 in
      let others = ranks-first m ks (Some k) (number + 1) rest all.1 rising.1 in (
        others.0,
        ap (λ t. rank_lines (Some m) before past n (lines_at number t)) (output-more n (OneLine l) (lines (map (rank_line m) ks)) (output_text n (lines (EndRoutes ∷ [])) ++ rest))
            ∙ ap (rank_lines (Some m) before past n) first.left
            ∙ (λ i. if is_end_of_routes (first.said i) then Ok ([], more) else ranks_from first.line.number (option_and_then (rank_due (Some m) before) (first.said i)) (λ j. rank_lines (Some m) (Some j) past n more))
            ∙ (λ i. ranks_from first.line.number (due i) (λ j. rank_lines (Some m) (Some j) past n more))
            ∙ ap (λ (o : Reads (List RankEntry)). and_then o (λ js. Ok (k ∷ js.0, js.1))) others.1,
      )

  -- tables
  pub tables-first : (active : ℕ → Bool) (hosts : List ℕ) (number : ℕ) (rest : List ℕ) → AllByRecursion (IsHost n) hosts
      → IsLeft (table_lines hosts past n) (map (λ h. (h, active h)) hosts) number (output_text n (lines (map (λ h. Table h (active h)) hosts)) ++ rest) rest
  tables-first active [] number rest all = (number, refl)
  tables-first active (h ∷ hs) number rest all =
      let l = Table h (active h) in
      let behind = output_text n (lines (map (λ g. Table g (active g)) hs)) ++ rest in
      let first = line-first n l (TableSaid h (active h)) number behind is good (table_line h (active h) all.0) in
      let same : nat_eq h h ≡ true = (Decides-eqb h h).1 refl in
      let due : table_due h (TableSaid h (active h)) ≡ Some (h, active h) = λ i. if same i then Some (h, active h) else None in
      let one = next-read (table_due h) n (TableSaid h (active h)) (h, active h) past number (line_text n l ++ behind) behind first due in
      let others = tables-first active hs (number + 1) rest all.1 in (
        others.0,
        ap (λ t. table_lines (h ∷ hs) past n (lines_at number t)) (output-more n (OneLine l) (lines (map (λ g. Table g (active g)) hs)) rest)
            ∙ ap (λ (o : Reads (ℕ × Bool)). and_then o (λ g. and_then (table_lines hs past n g.1) (λ gs. Ok (g.0 ∷ gs.0, gs.1)))) one
            ∙ ap (λ (o : Reads (List (ℕ × Bool))). and_then o (λ gs. Ok ((h, active h) ∷ gs.0, gs.1))) others.1,
      )

  -- A line of a broken route says its pair, whatever its hosts are called.
  pub record IsPairLine (p : ℕ × ℕ) : Type 0 where
    pub r : ReportLine
    pub says : Says n (Broken p.0 p.1) r
    pub pair : pair_in n r ≡ Some p
    pub goes_on : is_end_of_broken (Some r) ≡ false
    pub form : (r ≡ BrokenSaid p.0 p.1) ⊎ (r ≡ NoBrokenSaid)

  pub pair-line : (p : ℕ × ℕ) → IsHost n p.0 → IsHost n p.1 → IsPairLine p
  pair-line p sender receiver = by (are_refusal_words n p.0 p.1) refl
    where
      by : (t : Bool) → are_refusal_words n p.0 p.1 ≡ t → IsPairLine p
      by false t = record { r = BrokenSaid p.0 p.1; says = broken_line p.0 p.1 sender receiver t; pair = refl; goes_on = refl; form = inl refl }
      by true t =
          let two = both (bytes_eq (host_name n p.0) (codes "refused")) (bytes_eq (host_name n p.1) (codes "noroutes")) t in
          let from : host_said n (codes "refused") ≡ Some p.0 = ap (host_said n) (sym ((bytes_eq-Decides (host_name n p.0) (codes "refused")).0 two.0)) ∙ host-read n is good p.0 sender in
          let to : host_said n (codes "noroutes") ≡ Some p.1 = ap (host_said n) (sym ((bytes_eq-Decides (host_name n p.1) (codes "noroutes")).0 two.1)) ∙ host-read n is good p.1 receiver in
          record {
            r = NoBrokenSaid;
            says = broken_names p.0 p.1 sender receiver t;
            pair = (λ i. option_and_then (λ a. option_map (λ b. (a, b)) (to i)) (from i));
            goes_on = refl;
            form = inr refl;
          }

  pub pairs-first : (pairs : List (ℕ × ℕ)) (before : Option (ℕ × ℕ)) (number : ℕ) (rest : List ℕ) → ArePairsRising n before pairs
      → IsLeft (broken_lines before past n) pairs number (output_text n (lines (map (λ p. Broken p.0 p.1) pairs)) ++ (output_text n (lines (EndBroken ∷ [])) ++ rest)) rest
  pairs-first [] before number rest rising =
      let first = line-first n EndBroken EndBrokenSaid number ([] ++ rest) is good end_of_broken in
      let more = lines_at (number + 1) rest in (
        number + 1,
        ap (λ t. broken_lines before past n (lines_at number t)) (output-more n (OneLine EndBroken) [] rest)
            ∙ ap (broken_lines before past n) first.left
            ∙ (λ i. if is_end_of_broken (first.said i) then Ok ([], more) else pairs_from first.line.number (pair_due n before (line_said n (words_of first.line.bytes))) (λ p. broken_lines (Some p) past n more)),
      )
  pairs-first (p ∷ ps) before number rest rising =
      let l = Broken p.0 p.1 in
      let line = pair-line p rising.1.0 rising.1.1 in
      let behind = output_text n (lines (map (λ q. Broken q.0 q.1) ps)) ++ (output_text n (lines (EndBroken ∷ [])) ++ rest) in
      let first = line-first n l line.r number behind is good line.says in
      let more = lines_at (number + 1) behind in
      let others = pairs-first ps (Some p) (number + 1) rest rising.2 in (
        others.0,
        ap (λ t. broken_lines before past n (lines_at number t)) (output-more n (OneLine l) (lines (map (λ q. Broken q.0 q.1) ps)) (output_text n (lines (EndBroken ∷ [])) ++ rest))
            ∙ ap (broken_lines before past n) first.left
            ∙ (λ i. if is_end_of_broken (first.said i) then Ok ([], more) else pairs_from first.line.number (pair_due n before (first.said i)) (λ q. broken_lines (Some q) past n more))
            ∙ (λ i. if line.goes_on i then Ok ([], more) else pairs_from first.line.number (pair_where before (line.pair i)) (λ q. broken_lines (Some q) past n more))
            ∙ (λ i. pairs_from first.line.number (if rising.0 i then Some p else None) (λ q. broken_lines (Some q) past n more))
            ∙ ap (λ (o : Reads (List (ℕ × ℕ))). and_then o (λ qs. Ok (p ∷ qs.0, qs.1))) others.1,
      )
