-- The form of a command's answer: which line may be its first, and which lines follow that one.
use Rattle.std.specs.Prelude.{ℕ, zero, suc, ℤ, Bool, true, false, ◌&&◌, ◌||◌, List, [], ◌∷◌, map, length, nat_eq}
use Rattle.std.specs.Prelude.{nat_le, nat_lt, if◌then◌else◌, Option, Some, None, option_map, option_and_then, Result}
use Rattle.std.specs.Prelude.{Ok, Err, codes}
use Rattle.std.specs.List.{filter, list_all}
use Rattle.net_defs.specs.declared.route.Route.{Route}
use Rattle.net_defs.specs.Network.{Network, same_end}
use Rattle.port_graph.specs.Routes.{is_above}
use Rattle.fab_text.specs.Line.{TextLine, words_of}
use Rattle.fab_text.specs.Fault.{FirstFault, and_then}
use Rattle.map_defs.specs.declared.vertex.MapVertex.{MapVertex}
use Rattle.map_defs.specs.declared.vertex.MapVertex.TheVariants.{Host as MapHost, Switch as MapSwitch}
use Rattle.map_defs.specs.declared.rank.RankEntry.{RankEntry}
use Rattle.map_defs.specs.NetMap.{NetMap, port_below}
use Rattle.map_defs.specs.Routing.{vertex_of_host}
use Rattle.port_ledgers.specs.declared.lane.PortName.{PortName}
use Rattle.run_defs.specs.declared.command.Command.{Command}
use Rattle.run_defs.specs.declared.command.Command.TheVariants.{Walk, Map, Circuit, Routes, Install, Begin, Close}
use Rattle.run_defs.specs.declared.command.Command.TheVariants.{Poll, Tokens, Provide, Send, Plan, Step, Settle, Finish}
use Rattle.run_defs.specs.declared.command.Command.TheVariants.{Pull, Plug, Revoke, Broken}
use Rattle.run_defs.specs.declared.line.ClientCall.{ClientCall}
use Rattle.run_defs.specs.declared.line.ClientCall.TheVariants.{Begin as BeginCall, Close as CloseCall}
use Rattle.run_defs.specs.declared.line.ClientCall.TheVariants.{Provide as ProvideCall, Send as SendCall}
use Rattle.run_defs.specs.declared.line.ClientCall.TheVariants.{Poll as PollCall, Tokens as TokensCall}
use Rattle.report_lines.specs.declared.line.MapSaid.TheVariants.{Overgrown}
use Rattle.report_lines.specs.declared.line.ReportLine.{ReportLine}
use Rattle.report_lines.specs.declared.line.ReportLine.TheVariants.{Walk as WalkLine, Map as MapLine, MapBusy}
use Rattle.report_lines.specs.declared.line.ReportLine.TheVariants.{Circuit as CircuitLine, CircuitNodes, NoMap}
use Rattle.report_lines.specs.declared.line.ReportLine.TheVariants.{Routes as RoutesLine, Route as RouteLine, EndRoutes}
use Rattle.report_lines.specs.declared.line.ReportLine.TheVariants.{Rank as RankLine, Installed, Table, InstallRefused}
use Rattle.report_lines.specs.declared.line.ReportLine.TheVariants.{Opened, Closed, Provided, Accepted, Returned}
use Rattle.report_lines.specs.declared.line.ReportLine.TheVariants.{Received, NothingCame, CallRefused}
use Rattle.report_lines.specs.declared.line.ReportLine.TheVariants.{Tokens as TokensLine, PlanAt, Step as StepLine}
use Rattle.report_lines.specs.declared.line.ReportLine.TheVariants.{Settle as SettleLine, Finish as FinishLine}
use Rattle.report_lines.specs.declared.line.ReportLine.TheVariants.{Pull as PullLine, Plug as PlugLine, Revoked}
use Rattle.report_lines.specs.declared.line.ReportLine.TheVariants.{Broken as BrokenLine, EndBroken, NoBroken}
use Rattle.line_table.specs.Said.{host_said}
use Rattle.report_lines.specs.Lines.{line_said}
use Rattle.map_canon.specs.Declaring.{vertex_of_switch}
use Rattle.map_canon.specs.Reading.{MapPart, map_part}
use Rattle.answer_defs.specs.Answer.{Answer, Alone, WithMap, WithRoutes, WithTables, WithBroken, Answered, shown_map}
use Rattle.answer_defs.specs.Answer.{routed_hosts, are_adopted}

-- the port of a host
abbrev pub is_port_of : ℕ → ℕ → PortName → Bool
is_port_of h port a = nat_eq a.host h && nat_eq a.port port

-- the call of a command, with its port
abbrev pub call_of : Command → Option (ClientCall × PortName)
call_of (Begin h port sends recvs) = Some (BeginCall, record { host = h; port = port })
call_of (Close h port) = Some (CloseCall, record { host = h; port = port })
call_of (Provide h port size prio) = Some (ProvideCall, record { host = h; port = port })
call_of (Send h port dest dport prio len seed) = Some (SendCall, record { host = h; port = port })
call_of (Poll h port) = Some (PollCall, record { host = h; port = port })
call_of (Tokens h port) = Some (TokensCall, record { host = h; port = port })
call_of c = None

-- the call of a line, with its port
abbrev pub call_in : ReportLine → Option (ClientCall × PortName)
call_in (Opened a) = Some (BeginCall, a)
call_in (Closed a count) = Some (CloseCall, a)
call_in (Provided a token) = Some (ProvideCall, a)
call_in (Accepted a token) = Some (SendCall, a)
call_in (Returned a token) = Some (PollCall, a)
call_in (Received l) = Some (PollCall, l.port)
call_in (NothingCame a) = Some (PollCall, a)
call_in (CallRefused call a) = Some (call, a)
call_in (TokensLine l) = Some (TokensCall, l.port)
call_in l = None

-- the same call
abbrev pub is_call : ClientCall → ClientCall → Bool
is_call BeginCall BeginCall = true
is_call CloseCall CloseCall = true
is_call ProvideCall ProvideCall = true
is_call SendCall SendCall = true
is_call PollCall PollCall = true
is_call TokensCall TokensCall = true
is_call a b = false

-- the same call of the same port
abbrev pub same_call : Option (ClientCall × PortName) → Option (ClientCall × PortName) → Bool
same_call (Some a) (Some b) = is_call a.0 b.0 && is_port_of a.1.host a.1.port b.1
same_call a b = false

-- Which line may be the first of a command's answer: of the command's kind, with its own names. Whether the command
-- should have been refused isn't asked.
abbrev pub may_answer : Command → ReportLine → Bool
may_answer (Walk h turns) WalkLine = true
may_answer (Map h depth tries) (MapLine g said) = nat_eq g h
may_answer (Map h depth tries) (MapBusy g) = nat_eq g h
may_answer (Circuit h depth) (CircuitLine g d) = nat_eq g h && nat_eq d depth
may_answer (Circuit h depth) (CircuitNodes g) = nat_eq g h
may_answer Routes (RoutesLine count) = true
may_answer Routes NoMap = true
may_answer (Install tries) (Installed acked count) = true
may_answer (Install tries) InstallRefused = true
may_answer (Plan ahead kind) PlanAt = true
may_answer (Step line) StepLine = true
may_answer Settle SettleLine = true
may_answer Finish FinishLine = true
may_answer (Pull at) (PullLine e done) = same_end e at
may_answer (Plug a b) (PlugLine d e done) = same_end d a && same_end e b
may_answer Revoke Revoked = true
may_answer Broken (BrokenLine from to) = true
may_answer Broken EndBroken = true
may_answer Broken NoBroken = true
may_answer c l = same_call (call_of c) (call_in l)

-- What is read of lines, with the lines that are left, or the number of the line that is out of form.
abbrev pub Reads : Type 0 → Type 0
Reads X = Result (X × List TextLine) ℕ

-- what a line with this number says, where it says what is due
abbrev pub where_due : {X : Type 0} → ℕ → List TextLine → Option X → Reads X
where_due number ls None = Err number
where_due number ls (Some x) = Ok (x, ls)

-- what the next line says of what is due; a line that is missing has the number `past`
abbrev pub next_due : {X : Type 0} → (ReportLine → Option X) → ℕ → Network → List TextLine → Reads X
next_due due past n [] = Err past
next_due due past n (l ∷ ls) = where_due l.number ls (option_and_then due (line_said n (words_of l.bytes)))

-- a route above the one before it
abbrev pub route_due : Option Route → ReportLine → Option Route
route_due before (RouteLine r) = if is_above before r then Some r else None
route_due before l = None

-- so many lines of routes, which rise
abbrev pub route_lines : ℕ → Option Route → ℕ → Network → List TextLine → Reads (List Route)
route_lines zero before past n ls = Ok ([], ls)
route_lines (suc k) before past n ls = and_then (next_due (route_due before) past n ls) (λ r.
    and_then (route_lines k (Some r.0) past n r.1) (λ rs. Ok (r.0 ∷ rs.0, rs.1)))

-- a vertex of a map by what names it
abbrev pub vertex_told : NetMap → MapVertex → Option ℕ
vertex_told m (MapHost h) = vertex_of_host m h
vertex_told m (MapSwitch s) = vertex_of_switch m s

-- a rank of the last map, where the map has its vertex; where no map was shown, no vertex is known
abbrev pub rank_told : Option NetMap → MapVertex → ℤ → ℕ → Option RankEntry
rank_told None v p rank = Some (record { v = 0; p = p; rank = rank })
rank_told (Some m) v p rank = option_map (λ u. record { v = u; p = p; rank = rank }) (vertex_told m v)

-- a rank comes after another by its channel; where no map was shown, channels aren't known
abbrev pub is_rank_above : Option NetMap → Option RankEntry → RankEntry → Bool
is_rank_above (Some m) (Some j) k = port_below (record { v = j.v; p = j.p }) (record { v = k.v; p = k.p })
is_rank_above shown before k = true

-- a rank where it may stand
abbrev pub where_above : Option NetMap → Option RankEntry → Option RankEntry → Option RankEntry
where_above shown before None = None
where_above shown before (Some k) = if is_rank_above shown before k then Some k else None

-- the rank of a line, where it may stand after the one before it
abbrev pub rank_due : Option NetMap → Option RankEntry → ReportLine → Option RankEntry
rank_due shown before (RankLine v p rank) = where_above shown before (rank_told shown v p rank)
rank_due shown before l = None

-- the line `endroutes`
abbrev pub is_end_of_routes : Option ReportLine → Bool
is_end_of_routes (Some EndRoutes) = true
is_end_of_routes l = false

-- a rank with those after it
abbrev pub ranks_from : ℕ → Option RankEntry → (RankEntry → Reads (List RankEntry)) → Reads (List RankEntry)
ranks_from number None more = Err number
ranks_from number (Some k) more = and_then (more k) (λ ks. Ok (k ∷ ks.0, ks.1))

-- lines of ranks up to `endroutes`, which rise by their channels
abbrev pub rank_lines : Option NetMap → Option RankEntry → ℕ → Network → List TextLine → Reads (List RankEntry)
rank_lines shown before past n [] = Err past
rank_lines shown before past n (l ∷ ls) =
    if is_end_of_routes (line_said n (words_of l.bytes)) then Ok ([], ls)
    else ranks_from l.number (option_and_then (rank_due shown before) (line_said n (words_of l.bytes)))
    (λ k. rank_lines shown (Some k) past n ls)

-- so many routes, their ranks, and `endroutes`
abbrev pub routes_block : ℕ → Option NetMap → ℕ → Network → List TextLine → Reads Answer
routes_block count shown past n ls = and_then (route_lines count None past n ls) (λ rs.
    and_then (rank_lines shown None past n rs.1) (λ ks. Ok (WithRoutes rs.0 ks.0, ks.1)))

-- the table of this host, and whether it is active
abbrev pub table_due : ℕ → ReportLine → Option (ℕ × Bool)
table_due h (Table g active) = if nat_eq g h then Some (g, active) else None
table_due h l = None

-- the tables of these hosts
abbrev pub table_lines : List ℕ → ℕ → Network → List TextLine → Reads (List (ℕ × Bool))
table_lines [] past n ls = Ok ([], ls)
table_lines (h ∷ hs) past n ls = and_then (next_due (table_due h) past n ls) (λ g.
    and_then (table_lines hs past n g.1) (λ gs. Ok (g.0 ∷ gs.0, gs.1)))

-- an address is above the one before it
abbrev pub is_address_above : Option (ℕ × Bool) → ℕ → Bool
is_address_above None h = true
is_address_above (Some g) h = nat_lt g.0 h

-- the table of a host above the one before it
abbrev pub rising_table_due : Option (ℕ × Bool) → ReportLine → Option (ℕ × Bool)
rising_table_due before (Table h active) = if is_address_above before h then Some (h, active) else None
rising_table_due before l = None

-- so many tables, whose hosts rise
abbrev pub rising_tables : ℕ → Option (ℕ × Bool) → ℕ → Network → List TextLine → Reads (List (ℕ × Bool))
rising_tables zero before past n ls = Ok ([], ls)
rising_tables (suc k) before past n ls = and_then (next_due (rising_table_due before) past n ls) (λ g.
    and_then (rising_tables k (Some g.0) past n g.1) (λ gs. Ok (g.0 ∷ gs.0, gs.1)))

-- the tables after `installed K of N`, whose line has this number: those of the hosts of the last routes, or, where
-- none were shown, of any
abbrev pub tables_of : ℕ → ℕ → Option (List ℕ) → ℕ → Network → List TextLine → Reads (List (ℕ × Bool))
tables_of number count None past n ls = rising_tables count None past n ls
tables_of number count (Some hosts) past n ls =
    if nat_eq count (length hosts) then table_lines hosts past n ls else Err number

-- how many of these tables are active
abbrev pub active_count : List (ℕ × Bool) → ℕ
active_count tables = length (filter (λ t. t.1) tables)

-- the tables as an answer, where K of `installed K of N`, whose line has this number, isn't above the number of those
-- that are active: each host that acknowledged all parts of its table has an active one
abbrev pub tables_where : ℕ → ℕ → List (ℕ × Bool) → List TextLine → Reads Answer
tables_where number acked tables ls =
    if nat_le acked (active_count tables) then Ok (WithTables (map (λ t. t.0) tables), ls) else Err number

-- the same of tables that are read
abbrev pub tables_block : ℕ → ℕ → Reads (List (ℕ × Bool)) → Reads Answer
tables_block number acked ts = and_then ts (λ t. tables_where number acked t.0 t.1)

-- the map after a line, as an answer
abbrev pub map_block : ReportLine → Result MapPart FirstFault → Reads Answer
map_block l (Ok part) = Ok (WithMap l part.made, part.after)
map_block l (Err fault) = Err fault.line

-- no vertex of a map is marked `outside`
abbrev pub is_all_core : NetMap → Bool
is_all_core m = list_all (λ c. c) m.core

-- a map of circuit links after its line, which has this number: it is shown without what is outside
abbrev pub circuit_where : ℕ → ReportLine → NetMap → List TextLine → Reads Answer
circuit_where number l m ls = if is_all_core m then Ok (WithMap l m, ls) else Err number

-- the same of lines that are read
abbrev pub circuit_block : ℕ → ReportLine → Result MapPart FirstFault → Reads Answer
circuit_block number l (Ok part) = circuit_where number l part.made part.after
circuit_block number l (Err fault) = Err fault.line

-- the hosts that a line `broken` names, which may be called `refused` and `noroutes`
abbrev pub pair_in : Network → ReportLine → Option (ℕ × ℕ)
pair_in n (BrokenLine from to) = Some (from, to)
pair_in n NoBroken = option_and_then (λ a. option_map (λ b. (a, b)) (host_said n (codes "noroutes")))
    (host_said n (codes "refused"))
pair_in n l = None

-- a pair is above the one before it: by its sender, and then by its receiver
abbrev pub is_pair_above : Option (ℕ × ℕ) → ℕ × ℕ → Bool
is_pair_above None p = true
is_pair_above (Some q) p = nat_lt q.0 p.0 || (nat_eq q.0 p.0 && nat_lt q.1 p.1)

-- a pair where it may stand
abbrev pub pair_where : Option (ℕ × ℕ) → Option (ℕ × ℕ) → Option (ℕ × ℕ)
pair_where before None = None
pair_where before (Some p) = if is_pair_above before p then Some p else None

-- the line `endbroken`
abbrev pub is_end_of_broken : Option ReportLine → Bool
is_end_of_broken (Some EndBroken) = true
is_end_of_broken l = false

-- a pair with those after it
abbrev pub pairs_from : ℕ → Option (ℕ × ℕ) → (ℕ × ℕ → Reads (List (ℕ × ℕ))) → Reads (List (ℕ × ℕ))
pairs_from number None more = Err number
pairs_from number (Some p) more = and_then (more p) (λ ps. Ok (p ∷ ps.0, ps.1))

-- the pair of a line, where it may stand after the one before it
abbrev pub pair_due : Network → Option (ℕ × ℕ) → Option ReportLine → Option (ℕ × ℕ)
pair_due n before l = pair_where before (option_and_then (pair_in n) l)

-- lines of broken routes up to `endbroken`, which rise
abbrev pub broken_lines : Option (ℕ × ℕ) → ℕ → Network → List TextLine → Reads (List (ℕ × ℕ))
broken_lines before past n [] = Err past
broken_lines before past n (l ∷ ls) =
    if is_end_of_broken (line_said n (words_of l.bytes)) then Ok ([], ls)
    else pairs_from l.number (pair_due n before (line_said n (words_of l.bytes)))
    (λ p. broken_lines (Some p) past n ls)

-- a broken route, and those after it up to `endbroken`
abbrev pub broken_block : ℕ × ℕ → ℕ → Network → List TextLine → Reads Answer
broken_block p past n ls = and_then (broken_lines (Some p) past n ls) (λ ps. Ok (WithBroken (p ∷ ps.0), ps.1))

-- `broken refused noroutes`: a refusal, or, where routes are adopted and two hosts have these names, a broken route
abbrev pub refused_block : Bool → Option (ℕ × ℕ) → ℕ → Network → List TextLine → Reads Answer
refused_block true (Some p) past n ls = broken_block p past n ls
refused_block adopted p past n ls = Ok (Alone NoBroken, ls)

-- What an answer's form depends on: the last map that has lines, the hosts of the last routes, and whether routes are
-- adopted.
pub record Known : Type 0 where
  pub shown : Option NetMap
  pub routed : Option (List ℕ)
  pub adopted : Bool

-- what is known by the answers before
abbrev pub known_by : Network → List Answered → Known
known_by n before = record {
  shown = shown_map before;
  routed = routed_hosts n before;
  adopted = are_adopted before;
}

-- the lines that follow an answer's first line, which has this number
abbrev pub block_of : ℕ → ReportLine → Known → ℕ → Network → List TextLine → Reads Answer
block_of number (MapLine h Overgrown) k past n ls = Ok (Alone (MapLine h Overgrown), ls)
block_of number (MapLine h said) k past n ls = map_block (MapLine h said) (map_part past n ls)
block_of number (CircuitLine h depth) k past n ls = circuit_block number (CircuitLine h depth) (map_part past n ls)
block_of number (RoutesLine count) k past n ls = routes_block count k.shown past n ls
block_of number (Installed acked count) k past n ls =
    tables_block number acked (tables_of number count k.routed past n ls)
block_of number (BrokenLine from to) k past n ls = broken_block (from, to) past n ls
block_of number EndBroken k past n ls = Ok (WithBroken [], ls)
block_of number NoBroken k past n ls = refused_block k.adopted (pair_in n NoBroken) past n ls
block_of number l k past n ls = Ok (Alone l, ls)

-- an answer by its first line, which has this number
abbrev pub answer_by : Command → ℕ → Option ReportLine → Known → ℕ → Network → List TextLine → Reads Answer
answer_by c number None k past n ls = Err number
answer_by c number (Some l) k past n ls =
    if may_answer c l then block_of number l k past n ls else Err number

-- The answer of a command, by what is known, and the lines that are left after it; or the number of the line that is
-- out of form, which is `past` where one is missing.
abbrev pub answer_from : Command → Known → ℕ → Network → List TextLine → Reads Answer
answer_from c k past n [] = Err past
answer_from c k past n (l ∷ ls) = answer_by c l.number (line_said n (words_of l.bytes)) k past n ls
