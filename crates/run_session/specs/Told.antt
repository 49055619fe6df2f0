-- What is printed of a map that was made, of routes that were computed, and of an installation.
use Rattle.std.specs.Prelude.{◌≡◌, ℕ, ◌-◌, List, length, Option, Some}
use Rattle.net_defs.specs.declared.route.Route.{Route}
use Rattle.journal_defs.specs.declared.entry.Entry.{Entry}
use Rattle.map_defs.specs.Orientation.{order_of}
use Rattle.map_defs.specs.Routing.{AreRoutesOf}
use Rattle.world_defs.specs.World.{WorldState, fabric_of}
use Rattle.world_defs.specs.Acts.{acted_all}
use Rattle.run_defs.specs.declared.command.Command.{Command}
use Rattle.run_defs.specs.declared.command.Command.TheVariants.{Map as MapCommand}
use Rattle.run_defs.specs.Mapped.{IsMapped}
use Rattle.run_defs.specs.Output.{lines}
use Rattle.run_defs.specs.Run.{routes_lines, hosts_by_address}
use Rattle.run_defs.specs.Outcome.{install}
use Rattle.run_defs.specs.Session.{LastMap, LastRoutes}
use Rattle.fab_report.specs.Printed.{PrintedState, printed_of}
use Rattle.map_making.specs.declared.making.MadeMap.{MadeMap}
use Rattle.run_session.specs.declared.mapping.MapOrder.{MapOrder}

-- the command that makes a map
abbrev pub map_of : MapOrder → Command
map_of m = MapCommand m.host m.depth m.tries

-- A map was made over a world: by the asks of a journal, whose number is reported with the packets that they injected.
pub record IsMadeOver (order : MapOrder) (before after : WorldState) (m : MadeMap) (packets : ℕ) : Type 0 where
  pub journal : List Entry
  pub mapped : IsMapped order.host order.depth order.tries before after journal m.map m.words
  pub asks : m.asks ≡ length journal
  pub injected : packets ≡ after.injected - before.injected

-- Routes were computed of a map and reported: they are the last ones, with the map's mapper, its hosts by address, and
-- the changes of cables before it.
pub record AreRoutesTold (w : WorldState) (l : LastMap) (found : Option LastRoutes) (told : PrintedState) : Type 0 where
  pub routes : List Route
  pub are : AreRoutesOf l.made (order_of l.made) routes
  pub last : found ≡ Some (record {
    mapper = l.mapper;
    hosts = hosts_by_address w l.made;
    routes = routes;
    began = l.began;
  })
  pub printed : told ≡ printed_of (fabric_of w) (lines (routes_lines l.made routes))

-- The last routes, where there are any, were installed over a world or that was refused, and it is reported.
pub record IsInstallTold (w : WorldState) (last : Option LastRoutes) (tries : ℕ) (after : WorldState)
    (told : PrintedState) : Type 0 where
  pub printed : told ≡ printed_of (fabric_of w) (install w tries last).output
  pub left : after ≡ acted_all w (install w tries last).acts
