-- What each printed line says: its values are those of its row, and mean this.
use Rattle.std.proofs.Common.{◌≡◌, ◌<◌, ◌≤◌, ◌^◌, ℕ, List, [], ◌∷◌, ◌++◌, true, false, map, Option, Some, None, refl, arith, nat_le, option_map, ap, ◌∙◌, if◌then◌else◌}
use Rattle.std.proofs.lemmas.Bool.Decides.{nat_tests}
use Rattle.std.specs.Prelude.{ℤ, codes, option_and_then, is_none, Bool}
use Rattle.fab_script.specs.Ranges.{IsHost, IsEnd}
use Rattle.fabric_file.proofs.PlainWords.{number-any}
use Rattle.gm_defs.specs.declared.token.TokenPlace.{TokenPlace}
use Rattle.gm_defs.specs.declared.token.TokenPlace.TheVariants.{Queue, Provided, Event}
use Rattle.line_table.specs.Form.{Word}
use Rattle.map_defs.specs.declared.vertex.MapVertex.{MapVertex}
use Rattle.net_defs.specs.Network.{Network}
use Rattle.net_defs.specs.Turn.{IsTurn, walk_refusal}
use Rattle.net_defs.specs.declared.place.Place.{Place}
use Rattle.net_defs.specs.declared.place.Place.TheVariants.{Host as AtHost, Switch as AtSwitch, Nothing as Stuck}
use Rattle.net_defs.specs.declared.vertex.End.{End}
use Rattle.net_defs.specs.declared.vertex.Vertex.TheVariants.{Switch}
use Rattle.port_ledgers.specs.declared.lane.ToldPlace.{ToldPlace}
use Rattle.report_lines.proofs.Routes.{turns-told}
use Rattle.report_lines.specs.Lines.{kinds_in}
use Rattle.report_lines.specs.Meaning.{route_unless, installed_where, place_of, places_in, both_in, tokens_line as tokens_of, meaning}
use Rattle.report_lines.specs.declared.line.MapSaid.{MapSaid}
use Rattle.report_lines.specs.declared.line.MapSaid.TheVariants.{Complete as SaidComplete, Doubtful as SaidDoubtful, Shallow, Overgrown}
use Rattle.report_lines.specs.declared.line.ReportLine.TheVariants.{Step as StepSaid, Installed as InstalledSaid, Walk as WalkSaid, Map as MapRead, MapBusy as BusySaid, Circuit as CircuitSaid, CircuitNodes as NodesSaid, Routes as RoutesSaid, NoMap as NoMapSaid, Route as RouteSaid, Rank as RankSaid, EndRoutes as EndRoutesSaid, Table as TableSaid, InstallRefused as InstallRefusedSaid, Tokens as TokensSaid, PlanAt as PlanSaid, Settle as SettleSaid, Finish as FinishSaid, Pull as PullSaid, Plug as PlugSaid, Revoked as RevokedSaid, EndBroken as EndBrokenSaid, NoBroken as NoBrokenSaid}
use Rattle.run_defs.specs.LineRows.{place_value, step_kind, step_values, place_word}
use Rattle.run_defs.specs.LineText.{words_in}
use Rattle.run_defs.specs.declared.line.InstallCause.{InstallCause}
use Rattle.run_defs.specs.declared.line.InstallCause.TheVariants.{NoRoutes}
use Rattle.run_defs.specs.declared.line.Line.TheVariants.{Step, Walk, Map, MapBusy, Circuit, CircuitNodes, Routes, Route, Rank, EndRoutes, NoMap, Installed, Table, InstallRefused, Tokens, PlanAt, Settle, Finish, Pull, Plug, Revoked, EndBroken, NoBroken}
use Rattle.run_defs.specs.declared.line.MapWords.{MapWords}
use Rattle.run_defs.specs.declared.line.MapWords.TheVariants.{Complete, Doubtful, IncompleteDepth, IncompleteNodes}
use Rattle.run_defs.specs.declared.line.PlaceEntry.{PlaceEntry}
use Rattle.run_defs.specs.declared.line.PlugWords.{PlugWords}
use Rattle.run_defs.specs.declared.line.PlugWords.TheVariants.{Done as Joined, PortUsed, Full}
use Rattle.run_defs.specs.declared.line.StepWords.{StepWords}
use Rattle.run_defs.specs.declared.line.StepWords.TheVariants.{Injected}
use Rattle.judge_laws.specs.Lines.{Says, IsVertexIn, IsToldApart, by_row, IsCounted}
use Rattle.judge_laws.proofs.Fits.{AreWordsIn, AreNumbered, counted, turns-fit, vertex-fits, both-fit, step-fits}
use Rattle.judge_laws.proofs.Names.{walk-turns}
use Rattle.judge_laws.proofs.Numbers.{counted-read}

-- a place of the fabric
abbrev pub IsPlaceIn : Network → Place → Type 0
IsPlaceIn n (AtHost h) = IsHost n h
IsPlaceIn n (AtSwitch s p) = IsEnd n (record { v = Switch s; p = p })
IsPlaceIn n Stuck = Unit {0}

-- how far a map is known to be right, as far as that is judged
abbrev pub map_said : MapWords → MapSaid
map_said Complete = SaidComplete
map_said (Doubtful drowned) = SaidDoubtful
map_said IncompleteDepth = Shallow
map_said IncompleteNodes = Overgrown

-- ports were joined
abbrev pub is_joined : PlugWords → Bool
is_joined Joined = true
is_joined PortUsed = false
is_joined Full = false

-- a token with its place, as far as that is judged: with the client or not
abbrev pub told_place : PlaceEntry → ToldPlace
told_place e = record { number = e.number; with_client = is_none e.place }

-- tokens with their places
place-told : (number : ℕ) (place : Option TokenPlace) → place_of number (place_word place) ≡ record { number = number; with_client = is_none place }
place-told number None = refl
place-told number (Some Queue) = refl
place-told number (Some Provided) = refl
place-told number (Some Event) = refl

places-told : (es : List PlaceEntry) → places_in (map place_value es) ≡ Some (map told_place es)
places-told [] = refl
places-told (e ∷ es) = λ i. option_map (λ fs. place-told e.number e.place i ∷ fs) (places-told es i)

both-told : (es fs : List PlaceEntry) → both_in (map place_value es ++ Word (codes "recv") ∷ map place_value fs) ≡ Some (map told_place es, map told_place fs)
both-told [] fs = ap (option_map (λ gs. ([], gs))) (places-told fs)
both-told (e ∷ es) fs = λ i. option_map (λ p. (place-told e.number e.place i ∷ p.0, p.1)) (both-told es fs i)

-- what one event did
step-means : (words : StepWords) → meaning (step_kind words) (step_values words) ≡ Some StepSaid
step-means (Injected k) = refl
step-means _ = refl

step-alone : (n : Network) (words : StepWords) → IsToldApart (kinds_in (words_in n (Step words))) (step_kind words)
step-alone n (Injected k) = refl
step-alone n _ = refl

-- over a fabric
module _ {n : Network} where
  pub walk_line : (place : Place) → IsPlaceIn n place → Says n (Walk place) WalkSaid
  walk_line (AtHost h) there = by_row (Walk (AtHost h)) WalkSaid (there, tt) refl refl
  walk_line (AtSwitch s p) there = by_row (Walk (AtSwitch s p)) WalkSaid (there, tt) refl refl
  walk_line Stuck there = by_row (Walk Stuck) WalkSaid tt refl refl

  pub map_line : (h : ℕ) (words : MapWords) (a b : ℕ) → IsHost n h → Says n (Map h words a b) (MapRead h (map_said words))
  map_line h Complete a b there = by_row (Map h Complete a b) (MapRead h SaidComplete) (there, (number-any a, (number-any b, tt))) refl refl
  map_line h (Doubtful drowned) a b there = by_row (Map h (Doubtful drowned) a b) (MapRead h SaidDoubtful) (there, (number-any drowned, (number-any a, (number-any b, tt)))) refl refl
  map_line h IncompleteDepth a b there = by_row (Map h IncompleteDepth a b) (MapRead h Shallow) (there, (number-any a, (number-any b, tt))) refl refl
  map_line h IncompleteNodes a b there = by_row (Map h IncompleteNodes a b) (MapRead h Overgrown) (there, (number-any a, (number-any b, tt))) refl refl

  pub busy_line : (h : ℕ) → IsHost n h → Says n (MapBusy h) (BusySaid h)
  busy_line h there = by_row (MapBusy h) (BusySaid h) (there, tt) refl refl

  pub circuit_line : (h depth a : ℕ) → IsHost n h → IsCounted depth → Says n (Circuit h depth a) (CircuitSaid h depth)
  circuit_line h depth a there fits = by_row (Circuit h depth a) (CircuitSaid h depth) (there, (counted depth fits, (number-any a, tt))) refl refl

  pub nodes_line : (h a : ℕ) → IsHost n h → Says n (CircuitNodes h a) (NodesSaid h)
  nodes_line h a there = by_row (CircuitNodes h a) (NodesSaid h) (there, (number-any a, tt)) refl refl

  pub routes_line : (count : ℕ) → IsCounted count → Says n (Routes count) (RoutesSaid count)
  routes_line count fits = by_row (Routes count) (RoutesSaid count) (counted count fits, tt) refl refl

  pub route_line : (from to : ℕ) (walk : List ℤ) → IsHost n from → IsHost n to → walk_refusal walk ≡ None
      → Says n (Route from to walk) (RouteSaid (record { from = from; to = to; walk = walk }))
  route_line from to walk sender receiver fine =
      by_row (Route from to walk) (RouteSaid (record { from = from; to = to; walk = walk })) (sender, (receiver, turns-fit n walk (walk-turns walk fine).1)) refl
      (ap (λ o. option_and_then (λ ts. route_unless (walk_refusal ts) from to ts) o) (turns-told walk) ∙ ap (λ o. route_unless o from to walk) fine)

  pub rank_line : (v : MapVertex) (p : ℤ) (rank : ℕ) → IsVertexIn n v → IsTurn p → IsCounted rank → Says n (Rank v p rank) (RankSaid v p rank)
  rank_line v p rank there turn fits = by_row (Rank v p rank) (RankSaid v p rank) (vertex-fits n v there, (turn, (counted rank fits, tt))) refl refl

  pub end_of_routes : Says n EndRoutes EndRoutesSaid
  end_of_routes = by_row EndRoutes EndRoutesSaid tt refl refl

  pub no_map : Says n NoMap NoMapSaid
  no_map = by_row NoMap NoMapSaid tt refl refl

  pub installed_line : (acked count : ℕ) → acked ≤ count → IsCounted count → Says n (Installed acked count) (InstalledSaid acked count)
  installed_line acked count most fits =
      let few : acked < 2 ^ 64 = omega (arith, most, fits) in
      let test : nat_le acked count ≡ true = grind (arith, nat_tests) in
      by_row (Installed acked count) (InstalledSaid acked count) (number-any acked, (counted count fits, tt)) refl
      (ap (λ o. installed_where o count) (counted-read acked few) ∙ (λ i. if test i then Some (InstalledSaid acked count) else None))

  pub table_line : (h : ℕ) (active : Bool) → IsHost n h → Says n (Table h active) (TableSaid h active)
  table_line h true there = by_row (Table h true) (TableSaid h true) (there, (refl, tt)) refl refl
  table_line h false there = by_row (Table h false) (TableSaid h false) (there, (refl, tt)) refl refl

  pub install_refused : (cause : InstallCause) → Says n (InstallRefused cause) InstallRefusedSaid
  install_refused NoRoutes = by_row (InstallRefused NoRoutes) InstallRefusedSaid (refl, tt) refl refl
  install_refused cause = by_row (InstallRefused cause) InstallRefusedSaid (refl, tt) refl refl

  pub tokens_line : (h port : ℕ) (sends recvs : List PlaceEntry) → IsHost n h → port ≤ 7 → AreNumbered sends → AreNumbered recvs
      → Says n (Tokens h port sends recvs) (TokensSaid (record { port = record { host = h; port = port }; sends = map told_place sends; recvs = map told_place recvs }))
  tokens_line h port sends recvs there low first second =
      by_row (Tokens h port sends recvs) (TokensSaid (record { port = record { host = h; port = port }; sends = map told_place sends; recvs = map told_place recvs }))
      (there, ((low, omega arith), both-fit n sends recvs first second)) refl (ap (option_map (tokens_of (record { host = h; port = port }))) (both-told sends recvs))

  pub plan_line : (number : ℕ) → Says n (PlanAt number) PlanSaid
  plan_line number = by_row (PlanAt number) PlanSaid (number-any number, tt) refl refl

  pub step_line : (words : StepWords) → AreWordsIn n words → Says n (Step words) StepSaid
  step_line words there = by_row (Step words) StepSaid (step-fits n words there) (step-alone n words) (step-means words)

  pub settle_line : (rounds resets unacked : ℕ) → Says n (Settle rounds resets unacked) SettleSaid
  settle_line rounds resets unacked = by_row (Settle rounds resets unacked) SettleSaid (number-any rounds, (number-any resets, (number-any unacked, tt))) refl refl

  pub finish_line : (injected dropped : ℕ) → Says n (Finish injected dropped) FinishSaid
  finish_line injected dropped = by_row (Finish injected dropped) FinishSaid (number-any injected, (number-any dropped, tt)) refl refl

  pub pull_line : (at : End) (done : Bool) → IsEnd n at → Says n (Pull at done) (PullSaid at done)
  pull_line at true there = by_row (Pull at true) (PullSaid at true) (there, tt) refl refl
  pull_line at false there = by_row (Pull at false) (PullSaid at false) (there, tt) refl refl

  pub plug_line : (a b : End) (words : PlugWords) → IsEnd n a → IsEnd n b → Says n (Plug a b words) (PlugSaid a b (is_joined words))
  plug_line a b Joined one other = by_row (Plug a b Joined) (PlugSaid a b true) (one, (other, tt)) refl refl
  plug_line a b PortUsed one other = by_row (Plug a b PortUsed) (PlugSaid a b false) (one, (other, (refl, tt))) refl refl
  plug_line a b Full one other = by_row (Plug a b Full) (PlugSaid a b false) (one, (other, (refl, tt))) refl refl

  pub revoked_line : (count : ℕ) → Says n (Revoked count) RevokedSaid
  revoked_line count = by_row (Revoked count) RevokedSaid (number-any count, tt) refl refl

  pub end_of_broken : Says n EndBroken EndBrokenSaid
  end_of_broken = by_row EndBroken EndBrokenSaid tt refl refl

  pub no_broken : Says n NoBroken NoBrokenSaid
  no_broken = by_row NoBroken NoBrokenSaid tt refl refl
