-- Printed answers are read as what they are.
use Rattle.std.proofs.Common.{◌≡◌, ◌<◌, ◌≤◌, ◌^◌, ◌+◌, ◌++◌, ℕ, suc, List, [], ◌∷◌, Bool, true, false, not, map, length, nat_eq, nat_le, Option, Some, None, Ok, Err, refl, ap, sym, subst, ◌∙◌, true≢false, arith, if◌then◌else◌, ◌⊎◌, inl, inr}
use Rattle.std.specs.List.{AllByRecursion, filter}
use Rattle.std.proofs.lemmas.Bool.Decides.{Decides-eqb, nat_tests}
use Rattle.net_defs.specs.declared.route.Route.{Route as HostRoute}
use Rattle.net_defs.specs.Network.{Network, IsFabric}
use Rattle.map_defs.specs.declared.rank.RankEntry.{RankEntry}
use Rattle.map_defs.specs.NetMap.{NetMap}
use Rattle.fab_text.specs.Line.{TextLine}
use Rattle.fab_text.specs.Fault.{and_then}
use Rattle.fabric_file.specs.Reading.{AreNamed}
use Rattle.fab_script.specs.Ranges.{IsHost}
use Rattle.run_defs.specs.declared.command.Command.{Command}
use Rattle.run_defs.specs.declared.command.Command.TheVariants.{Routes as RoutesCommand, Install, Broken as BrokenCommand}
use Rattle.run_defs.specs.declared.line.Line.{Line}
use Rattle.run_defs.specs.declared.line.Line.TheVariants.{Routes as RoutesLine, EndRoutes, Installed as InstalledLine, Table, Broken, EndBroken}
use Rattle.run_defs.specs.LineText.{line_text, map_text, output_text}
use Rattle.run_defs.specs.Output.{Piece, OneLine, MapLines, lines}
use Rattle.run_defs.specs.Run.{route_line, rank_line}
use Rattle.report_lines.specs.declared.line.MapSaid.TheVariants.{Complete, Doubtful, Shallow}
use Rattle.report_lines.specs.declared.line.ReportLine.{ReportLine}
use Rattle.report_lines.specs.declared.line.ReportLine.TheVariants.{Map, Circuit, Routes, Installed}
use Rattle.report_lines.specs.declared.line.ReportLine.TheVariants.{Broken as BrokenSaid, EndBroken as EndBrokenSaid, NoBroken as NoBrokenSaid}
use Rattle.map_canon.specs.Reading.{map_part, map_reading}
use Rattle.answer_defs.specs.Answer.{Answer, Alone, WithMap, WithRoutes, WithTables, WithBroken}
use Rattle.judge_defs.specs.Form.{Known, Reads, may_answer, rank_lines, routes_block, table_lines, tables_of, tables_block, active_count, map_block, circuit_block, pair_in, broken_block, refused_block, block_of, answer_by, answer_from}
use Rattle.judge_laws.specs.Lines.{Says}
use Rattle.judge_laws.specs.Answers.{has_map, may_show, is_alone, IsRouteIn, AreRoutesRising, IsRankIn, AreRanksRising, ArePairsRising, lines_at, IsPrintedAnswer, alone, with_map, with_routes, with_tables, with_broken}
use Rattle.judge_laws.specs.Laws.{IsFirstLine, IsFirstAnswer}
use Rattle.judge_laws.proofs.Written.{line-first}
use Rattle.judge_laws.proofs.Held.{filter-few}
use Rattle.judge_laws.proofs.Maps.{map-first}
use Rattle.judge_laws.proofs.Blocks.{output-more, lines-more, routes-first, ranks-first, tables-first, pair-line, pairs-first}
use Rattle.judge_laws.proofs.Saying.{routes_line, installed_line, end_of_broken}

-- the refusal of a line `broken` where no routes are adopted
refusal-alone : (adopted : Bool) (p : Option (ℕ × ℕ)) (past : ℕ) (n : Network) (ls : List TextLine) → not adopted ≡ true → refused_block adopted p past n ls ≡ Ok (Alone NoBrokenSaid, ls)
refusal-alone true p past n ls e = absurd (true≢false (sym e))
refusal-alone false p past n ls e = refl

-- a line that is an answer alone
block-alone : (number : ℕ) (r : ReportLine) (k : Known) (past : ℕ) (n : Network) (ls : List TextLine) → is_alone k.adopted r ≡ true → block_of number r k past n ls ≡ Ok (Alone r, ls)
block-alone number (Map h Complete) k past n ls e = absurd (true≢false (sym e))
block-alone number (Map h Doubtful) k past n ls e = absurd (true≢false (sym e))
block-alone number (Map h Shallow) k past n ls e = absurd (true≢false (sym e))
block-alone number (Circuit h depth) k past n ls e = absurd (true≢false (sym e))
block-alone number (Routes count) k past n ls e = absurd (true≢false (sym e))
block-alone number (Installed acked count) k past n ls e = absurd (true≢false (sym e))
block-alone number (BrokenSaid from to) k past n ls e = absurd (true≢false (sym e))
block-alone number EndBrokenSaid k past n ls e = absurd (true≢false (sym e))
block-alone number NoBrokenSaid k past n ls e = refusal-alone k.adopted (pair_in n NoBrokenSaid) past n ls e
block-alone number _ k past n ls e = refl

-- a line with the lines of a map after it
block-map : (number : ℕ) (r : ReportLine) (m : NetMap) (k : Known) (past : ℕ) (n : Network) (ls left : List TextLine) → has_map r ≡ true → may_show r m ≡ true → map_part past n ls ≡ Ok (record { made = m; after = left })
    → block_of number r k past n ls ≡ Ok (WithMap r m, left)
block-map number (Map h Complete) m k past n ls left e shows part = ap (map_block (Map h Complete)) part
block-map number (Map h Doubtful) m k past n ls left e shows part = ap (map_block (Map h Doubtful)) part
block-map number (Map h Shallow) m k past n ls left e shows part = ap (map_block (Map h Shallow)) part
block-map number (Circuit h depth) m k past n ls left e shows part =
    let r = Circuit h depth in
    ap (circuit_block number r) part ∙ (λ i. if shows i then Ok (WithMap r m, left) else Err number)
block-map number _ m k past n ls left e shows part = absurd (true≢false (sym e))

-- a table with whether it is active
abbrev table_of : (ℕ → Bool) → ℕ → ℕ × Bool
table_of active h = (h, active h)

-- tables of hosts, of which as many are active as a test says
tables-active : (active : ℕ → Bool) (hosts : List ℕ) → active_count (map (table_of active) hosts) ≡ length (filter active hosts)
tables-active active [] = refl
tables-active active (h ∷ hs) = by (active h) (tables-active active hs)
  where
    by : (is : Bool) → active_count (map (table_of active) hs) ≡ length (filter active hs)
        → length {A = ℕ × Bool} (if is then table_of active h ∷ filter (λ t. t.1) (map (table_of active) hs) else filter (λ t. t.1) (map (table_of active) hs)) ≡ length (if is then h ∷ filter active hs else filter active hs)
    by true e = ap suc e
    by false e = e

tables-hosts : (active : ℕ → Bool) (hosts : List ℕ) → map (λ (t : ℕ × Bool). t.0) (map (table_of active) hosts) ≡ hosts
tables-hosts active [] = refl
tables-hosts active (h ∷ hs) = ap (λ gs. h ∷ gs) (tables-hosts active hs)

module _ (n : Network) (is : IsFabric n) (good : AreNamed n) (k : Known) (past : ℕ) where
  -- after its first line an answer is read by the block of that line
  first-read : (c : Command) (r : ReportLine) (number : ℕ) (text rest : List ℕ) → IsFirstLine n r number text rest → may_answer c r ≡ true
      → answer_from c k past n (lines_at number text) ≡ block_of number r k past n (lines_at (number + 1) rest)
  first-read c r number text rest f may =
      let more = lines_at (number + 1) rest in
      ap (answer_from c k past n) f.left
      ∙ (λ i. answer_by c (f.number_is i) (f.said i) k past n more)
      ∙ (λ i. if may i then block_of number r k past n more else Err number)

  alone-first : (c : Command) (l : Line) (r : ReportLine) (number : ℕ) (rest : List ℕ) → Says n l r → may_answer c r ≡ true → is_alone k.adopted r ≡ true
      → IsFirstAnswer n k c (Alone r) past number (output_text n (OneLine l ∷ []) ++ rest) rest
  alone-first c l r number rest says may only =
      let first = line-first n l r number rest is good says in record {
        next = number + 1;
        read = ap (λ t. answer_from c k past n (lines_at number t)) (output-more n (OneLine l) [] rest)
            ∙ first-read c r number (line_text n l ++ rest) rest first may
            ∙ block-alone number r k past n (lines_at (number + 1) rest) only;
      }

  mapped-first : (c : Command) (l : Line) (r : ReportLine) (m : NetMap) (number : ℕ) (rest : List ℕ) → Says n l r → may_answer c r ≡ true → has_map r ≡ true → may_show r m ≡ true → map_reading n (map_text n m) ≡ Ok m
      → IsFirstAnswer n k c (WithMap r m) past number (output_text n (OneLine l ∷ MapLines m ∷ []) ++ rest) rest
  mapped-first c l r m number rest says may has shows e =
      let behind = map_text n m ++ rest in
      let first = line-first n l r number behind is good says in
      let lines = map-first n m past (number + 1) rest e in record {
        next = lines.next;
        read = ap (λ t. answer_from c k past n (lines_at number t)) (output-more n (OneLine l) (MapLines m ∷ []) rest ∙ ap (λ t. line_text n l ++ t) (output-more n (MapLines m) [] rest))
            ∙ first-read c r number (line_text n l ++ behind) behind first may
            ∙ block-map number r m k past n (lines_at (number + 1) behind) (lines_at lines.next rest) has shows lines.read;
      }

  routed-first : (m : NetMap) (found : List HostRoute) (ranks : List RankEntry) (number : ℕ) (rest : List ℕ) → k.shown ≡ Some m → length found < 2 ^ 64 → AllByRecursion (IsRouteIn n) found → AreRoutesRising None found
      → AllByRecursion (IsRankIn n m) ranks → AreRanksRising m None ranks
      → IsFirstAnswer n k RoutesCommand (WithRoutes found ranks) past number (output_text n (lines (RoutesLine (length found) ∷ map route_line found ++ map (rank_line m) ranks ++ EndRoutes ∷ [])) ++ rest) rest
  routed-first m found ranks number rest shown counted all rising each growing =
      let head = RoutesLine (length found) in
      let routes = map route_line found in
      let others = map (rank_line m) ranks in
      let last = output_text n (lines (EndRoutes ∷ [])) ++ rest in
      let after_routes = output_text n (lines others) ++ last in
      let behind = output_text n (lines routes) ++ after_routes in
      let first = line-first n head (Routes (length found)) number behind is good (routes_line (length found) counted) in
      let rs = routes-first n is good past found None (number + 1) after_routes all rising in
      let ks = ranks-first n is good past m ranks None rs.0 rest each growing in record {
        next = ks.0;
        read = ap (λ t. answer_from RoutesCommand k past n (lines_at number t))
            (lines-more n (head ∷ routes ++ others) (EndRoutes ∷ []) rest ∙ lines-more n (head ∷ routes) others last ∙ output-more n (OneLine head) (lines routes) after_routes)
            ∙ first-read RoutesCommand (Routes (length found)) number (line_text n head ++ behind) behind first refl
            ∙ (λ i. routes_block (length found) (shown i) past n (lines_at (number + 1) behind))
            ∙ ap (λ (o : Reads (List HostRoute)). and_then o (λ qs. and_then (rank_lines (Some m) None past n qs.1) (λ js. Ok (WithRoutes qs.0 js.0, js.1)))) rs.1
            ∙ ap (λ (o : Reads (List RankEntry)). and_then o (λ js. Ok (WithRoutes found js.0, js.1))) ks.1;
      }

  tabled-first : (tries acked : ℕ) (active : ℕ → Bool) (hosts : List ℕ) (number : ℕ) (rest : List ℕ) → k.routed ≡ Some hosts → acked ≤ length (filter active hosts) → length hosts < 2 ^ 64 → AllByRecursion (IsHost n) hosts
      → IsFirstAnswer n k (Install tries) (WithTables hosts) past number (output_text n (lines (InstalledLine acked (length hosts) ∷ map (λ h. Table h (active h)) hosts)) ++ rest) rest
  tabled-first tries acked active hosts number rest routed enough counted all =
      let head = InstalledLine acked (length hosts) in
      let tables = map (λ h. Table h (active h)) hosts in
      let behind = output_text n (lines tables) ++ rest in
      let said = Installed acked (length hosts) in
      let few = filter-few active hosts in
      let first = line-first n head said number behind is good (installed_line acked (length hosts) (omega (arith, enough, few)) counted) in
      let found = map (table_of active) hosts in
      let count = tables-active active hosts in
      let test : nat_le acked (active_count found) ≡ true = grind (arith, nat_tests) in
      let same : nat_eq (length hosts) (length hosts) ≡ true = (Decides-eqb (length hosts) (length hosts)).1 refl in
      let ts = tables-first n is good past active hosts (number + 1) rest all in record {
        next = ts.0;
        read = ap (λ t. answer_from (Install tries) k past n (lines_at number t)) (output-more n (OneLine head) (lines tables) rest)
            ∙ first-read (Install tries) said number (line_text n head ++ behind) behind first refl
            ∙ (λ i. tables_block number acked (tables_of number (length hosts) (routed i) past n (lines_at (number + 1) behind)))
            ∙ (λ i. tables_block number acked (if same i then table_lines hosts past n (lines_at (number + 1) behind) else Err number))
            ∙ ap (tables_block number acked) ts.1
            ∙ (λ i. if test i then Ok (WithTables (map (λ (t : ℕ × Bool). t.0) found), lines_at ts.0 rest) else Err number)
            ∙ ap (λ hs. Ok (WithTables hs, lines_at ts.0 rest)) (tables-hosts active hosts);
      }

  -- the first line of broken routes
  pair-block : (number : ℕ) (p : ℕ × ℕ) (r : ReportLine) (ls : List TextLine) → k.adopted ≡ true → (r ≡ BrokenSaid p.0 p.1) ⊎ (r ≡ NoBrokenSaid) → pair_in n r ≡ Some p
      → block_of number r k past n ls ≡ broken_block p past n ls
  pair-block number p r ls adopted (inl e) pair = ap (λ x. block_of number x k past n ls) e
  pair-block number p r ls adopted (inr e) pair =
      ap (λ x. block_of number x k past n ls) e
      ∙ (λ i. refused_block (adopted i) ((sym (ap (pair_in n) e) ∙ pair) i) past n ls)

  pair-may : (p : ℕ × ℕ) (r : ReportLine) → (r ≡ BrokenSaid p.0 p.1) ⊎ (r ≡ NoBrokenSaid) → may_answer BrokenCommand r ≡ true
  pair-may p r (inl e) = ap (may_answer BrokenCommand) e
  pair-may p r (inr e) = ap (may_answer BrokenCommand) e

  broken-first : (pairs : List (ℕ × ℕ)) (number : ℕ) (rest : List ℕ) → k.adopted ≡ true → ArePairsRising n None pairs
      → IsFirstAnswer n k BrokenCommand (WithBroken pairs) past number (output_text n (lines (map (λ p. Broken p.0 p.1) pairs ++ EndBroken ∷ [])) ++ rest) rest
  broken-first [] number rest adopted rising =
      let first = line-first n EndBroken EndBrokenSaid number rest is good end_of_broken in record {
        next = number + 1;
        read = ap (λ t. answer_from BrokenCommand k past n (lines_at number t)) (output-more n (OneLine EndBroken) [] rest)
            ∙ first-read BrokenCommand EndBrokenSaid number (line_text n EndBroken ++ rest) rest first refl;
      }
  broken-first (p ∷ ps) number rest adopted rising =
      let l = Broken p.0 p.1 in
      let line = pair-line n is good past p rising.1.0 rising.1.1 in
      let others = map (λ q. Broken q.0 q.1) ps in
      let last = output_text n (lines (EndBroken ∷ [])) ++ rest in
      let behind = output_text n (lines others) ++ last in
      let first = line-first n l line.r number behind is good line.says in
      let qs = pairs-first n is good past ps (Some p) (number + 1) rest rising.2 in record {
        next = qs.0;
        read = ap (λ t. answer_from BrokenCommand k past n (lines_at number t)) (lines-more n (l ∷ others) (EndBroken ∷ []) rest ∙ output-more n (OneLine l) (lines others) last)
            ∙ first-read BrokenCommand line.r number (line_text n l ++ behind) behind first (pair-may p line.r line.form)
            ∙ pair-block number p line.r (lines_at (number + 1) behind) adopted line.form line.pair
            ∙ ap (λ (o : Reads (List (ℕ × ℕ))). and_then o (λ x. Ok (WithBroken (p ∷ x.0), x.1))) qs.1;
      }

  -- whatever a printed answer is
  pub answer-first : (c : Command) (out : List Piece) (a : Answer) (number : ℕ) (rest : List ℕ) → IsPrintedAnswer n k out c a
      → IsFirstAnswer n k c a past number (output_text n out ++ rest) rest
  answer-first c out a number rest (alone d l r says may only e) =
      subst (λ o. IsFirstAnswer n k c (Alone r) past number (output_text n o ++ rest) rest) (sym e) (alone-first c l r number rest says may only)
  answer-first c out a number rest (with_map d l r m says may has shows back e) =
      subst (λ o. IsFirstAnswer n k c (WithMap r m) past number (output_text n o ++ rest) rest) (sym e) (mapped-first c l r m number rest says may has shows back)
  answer-first c out a number rest (with_routes m found ranks shown counted all rising each growing e) =
      subst (λ o. IsFirstAnswer n k RoutesCommand (WithRoutes found ranks) past number (output_text n o ++ rest) rest) (sym e) (routed-first m found ranks number rest shown counted all rising each growing)
  answer-first c out a number rest (with_tables tries acked active hosts routed enough counted all e) =
      subst (λ o. IsFirstAnswer n k (Install tries) (WithTables hosts) past number (output_text n o ++ rest) rest) (sym e) (tabled-first tries acked active hosts number rest routed enough counted all)
  answer-first c out a number rest (with_broken pairs adopted rising e) =
      subst (λ o. IsFirstAnswer n k BrokenCommand (WithBroken pairs) past number (output_text n o ++ rest) rest) (sym e) (broken-first pairs number rest adopted rising)
