-- That each command is obeyed, by what it printed.
use Rattle.std.proofs.Common.{◌≡◌, ℕ, min, ◌∷◌, [], List, length, Option, Some, None, true, false, refl, sym, ◌∙◌, ap, if◌then◌else◌}
use Rattle.world_defs.specs.Later.{OnlyPulled}
use Rattle.world_defs.specs.Links.{is_idle}
use Rattle.map_defs.specs.Orientation.{order_of}
use Rattle.map_defs.specs.Routing.{AreRoutesOf}
use Rattle.world_defs.specs.World.{WorldState, fabric_of, last_count}
use Rattle.world_defs.specs.Settle.{unacknowledged_in}
use Rattle.run_defs.specs.declared.command.Command.{Command}
use Rattle.run_defs.specs.declared.command.Command.TheVariants.{Map, Circuit, Routes, Settle}
use Rattle.run_defs.specs.declared.line.Line.{Line}
use Rattle.run_defs.specs.declared.line.Line.TheVariants.{Map as MapLine, MapBusy, NoMap, Settle as SettleLine}
use Rattle.run_defs.specs.Output.{OneLine, lines}
use Rattle.run_defs.specs.Session.{SessionState, LastMap, LastRoutes, complete_map}
use Rattle.run_defs.specs.Deed.{says}
use Rattle.run_defs.specs.Outcome.{outcome, deed_of, routes_refused}
use Rattle.run_defs.proofs.Doing.{does, acted-settle}
use Rattle.run_defs.proofs.Doing.Doing.{determined, maps, circuits, routes}
use Rattle.run_defs.specs.Run.{IsDeed, hosts_by_address, map_pieces, routes_lines}
use Rattle.fab_report.specs.Printed.{PrintedState, printed_of}
use Rattle.map_making.specs.declared.making.MadeMap.{MadeMap}
use Rattle.map_making.specs.Circuit.{IsCircuitPrinted}
use Rattle.map_making.specs.Lines.{map_lines}
use Rattle.world_commands.specs.Done.{IsDone, session_of}
use Rattle.world_commands.proofs.Done.{one}
use Rattle.run_session.specs.declared.mapping.MapOrder.{MapOrder}
use Rattle.run_session.specs.Obeyed.{IsObeyed}
use Rattle.run_session.specs.Told.{AreRoutesTold, IsMadeOver, map_of}
use Rattle.run_session.proofs.Going.{goes_pulled, printed-on}
use Rattle.world_defs.specs.Logs as log

-- what was done over the world of a session
pub done_so : (c d : Command) (w v : WorldState) (made : Option LastMap) (found : Option LastRoutes) (p : PrintedState) → IsDone d w v p → d ≡ c → IsObeyed (session_of w made found) c (session_of v made found) p
done_so c d w v made found p done same = record {
  output = done.output;
  does = does (determined (ap (outcome (session_of w made found)) (sym same) ∙ done.determined made found));
  printed = done.printed;
}

-- a settle
pub settled_so : (w v : WorldState) (p : PrintedState) → v ≡ (log.settle w).world → OnlyPulled w.links.cables v.links.cables
    → p ≡ printed_of (fabric_of v) (OneLine (SettleLine (log.settle w).value.rounds (min (log.settle w).value.resets last_count) (unacknowledged_in (log.settle w).world)) ∷ []) → IsDone Settle w v p
settled_so w v p same pulled e =
    let l : Line = SettleLine (log.settle w).value.rounds (min (log.settle w).value.resets last_count) (unacknowledged_in (log.settle w).world) in
    one Settle l w v p (λ made found. ap (λ (u : WorldState). Some (record { output = OneLine l ∷ []; after = session_of u made found })) (acted-settle w ∙ sym same)) (e ∙ printed-on w v (OneLine l ∷ []) (goes_pulled w v pulled))

-- a command whose outcome is one line alone
only : (s : SessionState) (c : Command) (l : Line) (p : PrintedState) → deed_of s c ≡ Some (says (l ∷ [])) → p ≡ printed_of (fabric_of s.world) (OneLine l ∷ []) → IsObeyed s c s p
only s c l p is e = record { output = lines (l ∷ []); does = record { deed = says (l ∷ []); is = IsDeed.determined is; prints = refl; leaves = refl }; printed = e }

-- a map while a channel holds a packet
pub busy_so : (s : SessionState) (host depth tries : ℕ) (p : PrintedState) → is_idle s.world.links ≡ false → p ≡ printed_of (fabric_of s.world) (OneLine (MapBusy host) ∷ []) → IsObeyed s (Map host depth tries) s p
busy_so s host depth tries p busy e =
    only s (Map host depth tries) (MapBusy host) p (ap (λ b. if b then None else Some (says (MapBusy host ∷ []))) busy) e

-- a map that was made is the last one
pub mapped_so : (w v : WorldState) (order : MapOrder) (m : MadeMap) (packets : ℕ) (last now : Option LastMap) (p : PrintedState) → is_idle w.links ≡ true → IsMadeOver order w v m packets
    → now ≡ Some (record { mapper = order.host; words = m.words; made = m.map; began = w.links.cables.changes }) → p ≡ printed_of (fabric_of w) (map_lines order.host m packets)
    → (found : Option LastRoutes) → IsObeyed (session_of w last found) (map_of order) (session_of v now found) p
mapped_so w v order m packets last now p idle over is e = λ found.
    record {
      output = map_lines order.host m packets;
      does = does (maps v over.journal m.map m.words idle over.mapped
          (ap (λ n. OneLine (MapLine order.host m.words n packets) ∷ map_pieces m.words m.map) over.asks
          ∙ ap (λ n. OneLine (MapLine order.host m.words (length over.journal) n) ∷ map_pieces m.words m.map) over.injected)
          (ap (λ (o : Option LastMap). session_of v o found) is));
      printed = e;
    }

-- circuit links: the session stays
pub circuit_so : (w : WorldState) (made : Option LastMap) (found : Option LastRoutes) (host depth : ℕ) (p : PrintedState) → IsCircuitPrinted (fabric_of w) host depth p
    → IsObeyed (session_of w made found) (Circuit host depth) (session_of w made found) p
circuit_so w made found host depth p is = record { output = is.output; does = does (circuits is.is_told refl); printed = is.printed }

-- routes where the last map isn't complete
pub no_map_so : (w : WorldState) (made : Option LastMap) (found : Option LastRoutes) (p : PrintedState) → complete_map made ≡ None → p ≡ printed_of (fabric_of w) (OneLine NoMap ∷ [])
    → IsObeyed (session_of w made found) Routes (session_of w made found) p
no_map_so w made found p none e = only (session_of w made found) Routes NoMap p (ap routes_refused none) e

-- routes that were computed, with their text
pub routes_told : (w : WorldState) (l : LastMap) (found : LastRoutes) (p : PrintedState) → found.mapper ≡ l.mapper → found.hosts ≡ hosts_by_address w l.made → found.began ≡ l.began → AreRoutesOf l.made (order_of l.made) found.routes
    → p ≡ printed_of (fabric_of w) (lines (routes_lines l.made found.routes)) → AreRoutesTold w l (Some found) p
routes_told w l found p mapper hosts began are e = record {
  routes = found.routes;
  are = are;
  last = ap (λ h. Some (record { mapper = h; hosts = found.hosts; routes = found.routes; began = found.began })) mapper
      ∙ ap (λ (hs : List ℕ). Some (record { mapper = l.mapper; hosts = hs; routes = found.routes; began = found.began })) hosts
      ∙ ap (λ k. Some (record { mapper = l.mapper; hosts = hosts_by_address w l.made; routes = found.routes; began = k })) began;
  printed = e;
}

-- routes that were computed are the last ones
pub routed_so : (w : WorldState) (made : Option LastMap) (l : LastMap) (found now : Option LastRoutes) (p : PrintedState) → complete_map made ≡ Some l → AreRoutesTold w l now p
    → IsObeyed (session_of w made found) Routes (session_of w made now) p
routed_so w made l found now p is told = record {
  output = lines (routes_lines l.made told.routes);
  does = does (routes l told.routes is told.are refl (ap (λ (o : Option LastRoutes). session_of w made o) told.last));
  printed = told.printed;
}
