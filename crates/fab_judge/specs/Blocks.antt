-- The lines that follow an answer's first line.
use Rattle.std.specs.Prelude.{◌≡◌, ℕ, ◌+◌, ◌-◌, Bool, true, false, List, [], ◌∷◌, ◌++◌, length, slice_get}
use Rattle.std.specs.Prelude.{if◌then◌else◌, Option, Some, None, option_and_then, Result, Ok, Err}
use Rattle.net_defs.specs.declared.route.Route.{Route}
use Rattle.net_defs.specs.Network.{Network}
use Rattle.port_graph.specs.Routes.{is_above}
use Rattle.map_defs.specs.declared.rank.RankEntry.{RankEntry}
use Rattle.map_defs.specs.NetMap.{NetMap}
use Rattle.fab_text.specs.Line.{TextLine, words_of}
use Rattle.report_lines.specs.Lines.{line_said}
use Rattle.map_canon.specs.Reading.{map_part}
use Rattle.report_lines.specs.declared.line.MapSaid.{MapSaid}
use Rattle.report_lines.specs.declared.line.MapSaid.TheVariants.{Overgrown}
use Rattle.report_lines.specs.declared.line.ReportLine.{ReportLine}
use Rattle.report_lines.specs.declared.line.ReportLine.TheVariants.{Map as MapLine, Circuit as CircuitLine}
use Rattle.report_lines.specs.declared.line.ReportLine.TheVariants.{Routes as RoutesLine}
use Rattle.report_lines.specs.declared.line.ReportLine.TheVariants.{Installed, Route as RouteLine}
use Rattle.report_lines.specs.declared.line.ReportLine.TheVariants.{Broken as BrokenLine, EndBroken, NoBroken}
use Rattle.answer_defs.specs.Answer.{Answer, Alone, WithBroken}
use Rattle.judge_defs.specs.Form.{Reads, Known, map_block, circuit_block, routes_block, tables_block, tables_of}
use Rattle.judge_defs.specs.Form.{active_count, rank_due, is_end_of_routes}
use Rattle.judge_defs.specs.Form.{broken_block, refused_block, pair_in, pair_due, is_end_of_broken}
use Rattle.fab_judge.specs.declared.stop.Unread.{Unread}
use Rattle.fab_judge.specs.declared.stop.Unread.TheVariants.{At, NoMemory}
use Rattle.fab_judge.specs.declared.block.Block.{Block}
use Rattle.fab_judge.specs.declared.block.Block.TheVariants.{Map, Circuit, Routes, Tables, Broken, NoneBroken, Refused}
use Rattle.fab_judge.specs.declared.block.Block.TheVariants.{Nothing}

-- a map's lines follow, unless its tree had too many nodes
abbrev pub block_of_map : MapSaid → Block
block_of_map Overgrown = Nothing
block_of_map said = Map

-- which lines follow a first line
abbrev pub block_in : ReportLine → Block
block_in (MapLine h said) = block_of_map said
block_in (CircuitLine h depth) = Circuit
block_in (RoutesLine count) = Routes count
block_in (Installed acked count) = Tables acked count
block_in (BrokenLine from to) = Broken from to
block_in EndBroken = NoneBroken
block_in NoBroken = Refused
block_in l = Nothing

-- an answer by which lines follow its first line
abbrev pub block_by : Block → ℕ → ReportLine → Known → ℕ → Network → List TextLine → Reads Answer
block_by Map number l k past n ls = map_block l (map_part past n ls)
block_by Circuit number l k past n ls = circuit_block number l (map_part past n ls)
block_by (Routes count) number l k past n ls = routes_block count k.shown past n ls
block_by (Tables acked count) number l k past n ls =
    tables_block number acked (tables_of number count k.routed past n ls)
block_by (Broken from to) number l k past n ls = broken_block (from, to) past n ls
block_by NoneBroken number l k past n ls = Ok (WithBroken [], ls)
block_by Refused number l k past n ls = refused_block k.adopted (pair_in n NoBroken) past n ls
block_by Nothing number l k past n ls = Ok (Alone l, ls)

-- Tables that are read, which aren't kept: how many are active.
abbrev pub CountsActive : Reads (List (ℕ × Bool)) → List TextLine → Result ℕ Unread → Type 0
CountsActive said left (Ok active) = (ts : List (ℕ × Bool)) × (said ≡ Ok (ts, left)) × (active ≡ active_count ts)
CountsActive said left (Err (At line)) = said ≡ Err line
CountsActive said left (Err NoMemory) = Unit {0}

-- how many are active with one more
abbrev pub more_active : ℕ → Bool → ℕ
more_active active is = if is then active + 1 else active

-- the route of a line
abbrev pub route_in : ReportLine → Option Route
route_in (RouteLine r) = Some r
route_in l = None

-- The route of the line of this number joins others, where it stands above the last.
abbrev pub Adds : ℕ → Route → List Route → List Route → Result (Unit {0}) Unread → Type 0
Adds number r before now (Ok done) =
    (is_above (slice_get before (length before - 1)) r ≡ true) × (now ≡ before ++ r ∷ [])
Adds number r before now (Err (At line)) = (is_above (slice_get before (length before - 1)) r ≡ false) × (line ≡ number)
Adds number r before now (Err NoMemory) = Unit {0}

-- The route that is read joins others.
abbrev pub GivesRoute : Reads Route → List TextLine → List Route → List Route → Result (Unit {0}) Unread → Type 0
GivesRoute said left before now (Ok done) = (r : Route) × (said ≡ Ok (r, left)) × (now ≡ before ++ r ∷ [])
GivesRoute said left before now (Err (At line)) = said ≡ Err line
GivesRoute said left before now (Err NoMemory) = Unit {0}

-- a rank, where it is due
abbrev pub rank_or_none : ℕ → List TextLine → Option RankEntry → Reads (Option RankEntry)
rank_or_none number ls None = Err number
rank_or_none number ls (Some k) = Ok (Some k, ls)

-- the rank of a line that says this, or none where it is `endroutes`
abbrev pub rank_of_line : Option NetMap → Option RankEntry → ℕ → List TextLine → Option ReportLine
    → Reads (Option RankEntry)
rank_of_line shown before number ls said =
    if is_end_of_routes said then Ok (None, ls)
    else rank_or_none number ls (option_and_then (rank_due shown before) said)

-- The next rank, or none at `endroutes`.
abbrev pub next_rank : Option NetMap → Option RankEntry → ℕ → Network → List TextLine → Reads (Option RankEntry)
next_rank shown before past n [] = Err past
next_rank shown before past n (l ∷ ls) = rank_of_line shown before l.number ls (line_said n (words_of l.bytes))

-- a pair, where it is due
abbrev pub pair_or_none : ℕ → List TextLine → Option (ℕ × ℕ) → Reads (Option (ℕ × ℕ))
pair_or_none number ls None = Err number
pair_or_none number ls (Some p) = Ok (Some p, ls)

-- the broken route of a line that says this, or none where it is `endbroken`
abbrev pub pair_of_line : Network → Option (ℕ × ℕ) → ℕ → List TextLine → Option ReportLine → Reads (Option (ℕ × ℕ))
pair_of_line n before number ls said =
    if is_end_of_broken said then Ok (None, ls) else pair_or_none number ls (pair_due n before said)

-- The next broken route, or none at `endbroken`.
abbrev pub next_pair : Option (ℕ × ℕ) → ℕ → Network → List TextLine → Reads (Option (ℕ × ℕ))
next_pair before past n [] = Err past
next_pair before past n (l ∷ ls) = pair_of_line n before l.number ls (line_said n (words_of l.bytes))
