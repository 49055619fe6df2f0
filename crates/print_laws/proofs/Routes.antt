-- The lines of routes after a run are of the last map, which is right.
use Rattle.std.proofs.Common.{◌≡◌, inl, inr, List, [], Option, Some, None, option_map, refl, sym, ap, ◌∙◌}
use Rattle.net_defs.specs.Network.{Network}
use Rattle.world_defs.specs.History.{IsHistory, fabric_at}
use Rattle.map_defs.specs.Orientation.{order_of}
use Rattle.map_defs.specs.Ranks.{ranks_of}
use Rattle.map_defs.proofs.Places.{places_are_an_order}
use Rattle.map_defs.proofs.Certifying.{ranks_certify}
use Rattle.map_laws.proofs.RightRoutes.{routes_of_a_right_map_are_right}
use Rattle.run_defs.specs.declared.command.Command.TheVariants.{Routes}
use Rattle.run_defs.specs.Output.{Piece}
use Rattle.run_defs.specs.Session.{SessionState, LastMap, complete_map}
use Rattle.run_defs.specs.Outcome.{Outcome, routes_refused, seen, outcome}
use Rattle.run_defs.proofs.Doing.{Doing, doing}
use Rattle.run_defs.proofs.Doing.Doing.{determined, routes}
use Rattle.mapping_laws.specs.Held.{HoldsRight}
use Rattle.mapping_laws.proofs.Sessions.{run_keeps_world}
use Rattle.mapping_laws.proofs.Holding.{run_holds_right}
use Rattle.print_laws.specs.Routes.{AreRoutesTold, PrintedRoutesAreRight}

-- what a determined command prints
abbrev printed_by : Option Outcome → List Piece
printed_by None = []
printed_by (Some o) = o.output

refused_by : (s : SessionState) {o : Option LastMap} → complete_map s.last_map ≡ o → outcome s Routes ≡ option_map (seen s) (routes_refused o)
refused_by s is = ap (λ o. option_map (seen s) (routes_refused o)) is

-- a refusal, or the routes of the last map
routes-so : {s next : SessionState} {printed : List Piece} → IsHistory s.world.links.cables → HoldsRight s → Doing s Routes printed next → AreRoutesTold s printed
routes-so {s = s} {next = next} {printed = printed} history holds (determined e) = by (complete_map s.last_map) refl
  where
    by : (o : Option LastMap) → complete_map s.last_map ≡ o → AreRoutesTold s printed
    by None is = inl (is, sym (ap printed_by (sym (refused_by s is) ∙ e)))
    by (Some l) is =
        let got : Outcome = record { output = printed; after = next } in
        let bad : None ≡ Some got = sym (refused_by s is) ∙ e in
        cc
routes-so {s = s} history holds (routes l found complete are printed left) =
    let was = holds.complete l complete in
    let right = was.right in
    let past : Network = fabric_at s.world.links.cables l.began in
    inr (record {
      last = l;
      found = found;
      complete = complete;
      past = was.past;
      part = right.right;
      ranks = ranks_of l.made (order_of l.made);
      lines_are = printed;
      routes = are;
      right = routes_of_a_right_map_are_right past l.mapper l.made (order_of l.made) found (history.fabrics l.began) right.rules right.right (places_are_an_order l.made) are;
      ranked = ranks_certify l.made (order_of l.made) found right.rules (places_are_an_order l.made) are.least;
    })

pub printed_routes_are_right : PrintedRoutesAreRight
printed_routes_are_right n commands out printed s next f all r d = routes-so (run_keeps_world n commands out s f all r).history (run_holds_right n commands out s f all r) (doing d)
