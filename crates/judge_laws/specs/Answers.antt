-- Which pieces of a report are the answer of a command, and what answer they are.
use Rattle.std.specs.Prelude.{◌≡◌, ℕ, ◌≤◌, Bool, true, false, not, List, [], ◌∷◌, ◌++◌, map, length, slice_get, Option}
use Rattle.std.specs.Prelude.{Some, None, Ok}
use Rattle.std.specs.List.{AllByRecursion, filter}
use Rattle.net_defs.specs.declared.route.Route.{Route}
use Rattle.net_defs.specs.Network.{Network}
use Rattle.net_defs.specs.Turn.{IsTurn, walk_refusal}
use Rattle.port_graph.specs.Routes.{is_above}
use Rattle.map_defs.specs.declared.vertex.MapVertex.{MapVertex}
use Rattle.map_defs.specs.declared.rank.RankEntry.{RankEntry}
use Rattle.map_defs.specs.NetMap.{NetMap}
use Rattle.fab_text.specs.Line.{TextLine, lines_left}
use Rattle.fab_script.specs.Ranges.{IsHost}
use Rattle.run_defs.specs.declared.command.Command.{Command}
use Rattle.run_defs.specs.declared.command.Command.TheVariants.{Routes as RoutesCommand, Install}
use Rattle.run_defs.specs.declared.command.Command.TheVariants.{Broken as BrokenCommand}
use Rattle.run_defs.specs.declared.line.Line.{Line}
use Rattle.run_defs.specs.declared.line.Line.TheVariants.{Routes, EndRoutes, Installed, Table, Broken, EndBroken}
use Rattle.run_defs.specs.LineText.{map_text}
use Rattle.run_defs.specs.Output.{Piece, OneLine, MapLines, lines}
use Rattle.run_defs.specs.Run.{route_line, rank_line}
use Rattle.report_lines.specs.declared.line.MapSaid.TheVariants.{Overgrown}
use Rattle.report_lines.specs.declared.line.ReportLine.{ReportLine}
use Rattle.report_lines.specs.declared.line.ReportLine.TheVariants.{Map as MapRead, Circuit as CircuitSaid}
use Rattle.report_lines.specs.declared.line.ReportLine.TheVariants.{Routes as RoutesSaid, Installed as InstalledSaid}
use Rattle.report_lines.specs.declared.line.ReportLine.TheVariants.{Broken as BrokenSaid, EndBroken as EndBrokenSaid}
use Rattle.report_lines.specs.declared.line.ReportLine.TheVariants.{NoBroken as NoBrokenSaid}
use Rattle.map_canon.specs.Reading.{map_reading}
use Rattle.answer_defs.specs.Answer.{Answer, Alone, WithMap, WithRoutes, WithTables, WithBroken}
use Rattle.judge_defs.specs.Form.{Known, may_answer, vertex_told, is_rank_above, is_all_core, is_pair_above}
use Rattle.judge_laws.specs.Lines.{Says, IsVertexIn, IsCounted}

-- a line with the lines of a map after it
abbrev pub has_map : ReportLine → Bool
has_map (MapRead h Overgrown) = false
has_map (MapRead h said) = true
has_map (CircuitSaid h depth) = true
has_map r = false

-- a line's map may be this one: after a line of circuit links all of it is core
abbrev pub may_show : ReportLine → NetMap → Bool
may_show (CircuitSaid h depth) m = is_all_core m
may_show r m = true

-- a line that is an answer alone, by whether routes are adopted
abbrev pub is_alone : Bool → ReportLine → Bool
is_alone adopted (MapRead h said) = not (has_map (MapRead h said))
is_alone adopted (CircuitSaid h depth) = false
is_alone adopted (RoutesSaid count) = false
is_alone adopted (InstalledSaid acked count) = false
is_alone adopted (BrokenSaid from to) = false
is_alone adopted EndBrokenSaid = false
is_alone adopted NoBrokenSaid = not adopted
is_alone adopted r = true

-- a route between hosts of the fabric, by a walk
pub record IsRouteIn (n : Network) (r : Route) : Type 0 where
  pub sender : IsHost n r.from
  pub receiver : IsHost n r.to
  pub is_walk : walk_refusal r.walk ≡ None

-- each route is above the one before it
abbrev pub AreRoutesRising : Option Route → List Route → Type 0
AreRoutesRising before [] = Unit {0}
AreRoutesRising before (r ∷ rs) = (is_above before r ≡ true) × AreRoutesRising (Some r) rs

-- The rank of a channel that leaves a vertex of a map, which is found by what names it.
pub record IsRankIn (n : Network) (m : NetMap) (k : RankEntry) : Type 0 where
  pub vertex : MapVertex
  pub stands : slice_get m.vertices k.v ≡ Some vertex
  pub named : IsVertexIn n vertex
  pub found : vertex_told m vertex ≡ Some k.v
  pub port : IsTurn k.p
  pub counted : IsCounted k.rank

-- each rank comes after the one before it, by its channel
abbrev pub AreRanksRising : NetMap → Option RankEntry → List RankEntry → Type 0
AreRanksRising m before [] = Unit {0}
AreRanksRising m before (k ∷ ks) = (is_rank_above (Some m) before k ≡ true) × AreRanksRising m (Some k) ks

-- each pair of hosts of the fabric is above the one before it
abbrev pub ArePairsRising : Network → Option (ℕ × ℕ) → List (ℕ × ℕ) → Type 0
ArePairsRising n before [] = Unit {0}
ArePairsRising n before (p ∷ ps) =
    (is_pair_above before p ≡ true) × (IsHost n p.0 × IsHost n p.1) × ArePairsRising n (Some p) ps

-- the lines of routes with their ranks
abbrev pub routes_pieces : NetMap → List Route → List RankEntry → List Piece
routes_pieces m found ranks =
    lines (Routes (length found) ∷ map route_line found ++ map (rank_line m) ranks ++ EndRoutes ∷ [])

-- the lines of an installation
abbrev pub tables_pieces : ℕ → (ℕ → Bool) → List ℕ → List Piece
tables_pieces acked active hosts = lines (Installed acked (length hosts) ∷ map (λ h. Table h (active h)) hosts)

-- the lines of broken routes
abbrev pub broken_pieces : List (ℕ × ℕ) → List Piece
broken_pieces pairs = lines (map (λ p. Broken p.0 p.1) pairs ++ EndBroken ∷ [])

-- the lines of a text that say something, numbered from this number on
abbrev pub lines_at : ℕ → List ℕ → List TextLine
lines_at number text = lines_left (record { number = number; text = text })

-- Pieces that are printed as the answer of a command, by what is known before it.
pub data IsPrintedAnswer (n : Network) (k : Known) (out : List Piece) : Command → Answer → Type 0 where
  alone : (c : Command) (l : Line) (r : ReportLine) → Says n l r → may_answer c r ≡ true
      → is_alone k.adopted r ≡ true → out ≡ OneLine l ∷ [] → IsPrintedAnswer n k out c (Alone r)
  with_map : (c : Command) (l : Line) (r : ReportLine) (m : NetMap) → Says n l r → may_answer c r ≡ true
      → has_map r ≡ true → may_show r m ≡ true → map_reading n (map_text n m) ≡ Ok m
      → out ≡ OneLine l ∷ MapLines m ∷ [] → IsPrintedAnswer n k out c (WithMap r m)
  with_routes : (m : NetMap) (found : List Route) (ranks : List RankEntry) → k.shown ≡ Some m
      → IsCounted (length found) → AllByRecursion (IsRouteIn n) found → AreRoutesRising None found
      → AllByRecursion (IsRankIn n m) ranks → AreRanksRising m None ranks
      → out ≡ routes_pieces m found ranks → IsPrintedAnswer n k out RoutesCommand (WithRoutes found ranks)
  with_tables : (tries acked : ℕ) (active : ℕ → Bool) (hosts : List ℕ) → k.routed ≡ Some hosts
      → acked ≤ length (filter active hosts) → IsCounted (length hosts) → AllByRecursion (IsHost n) hosts
      → out ≡ tables_pieces acked active hosts → IsPrintedAnswer n k out (Install tries) (WithTables hosts)
  with_broken : (pairs : List (ℕ × ℕ)) → k.adopted ≡ true → ArePairsRising n None pairs
      → out ≡ broken_pieces pairs → IsPrintedAnswer n k out BrokenCommand (WithBroken pairs)
