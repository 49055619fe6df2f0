-- That a session keeps maps and routes that were right.
use Rattle.std.proofs.Common.{◌≡◌, ℕ, ◌≤◌, true, List, length, Option, Some, None, refl, sym, ◌∙◌, ap, subst, arith}
use Rattle.world_defs.specs.History.{CableHistory, fabric_at}
use Rattle.net_defs.specs.declared.route.Route.{Route}
use Rattle.world_defs.specs.Links.{is_idle}
use Rattle.net_defs.specs.declared.vertex.Vertex.TheVariants.{Host}
use Rattle.net_defs.specs.Network.{Network, has_vertex}
use Rattle.map_defs.specs.NetMap.{NetMap, IsConnected, switches_of}
use Rattle.map_defs.specs.Orientation.{order_of}
use Rattle.map_defs.specs.Routing.{AreRoutesOf}
use Rattle.map_defs.specs.Sameness.{IsMapOfPart}
use Rattle.map_laws.proofs.Size.{right_map_is_no_larger}
use Rattle.world_defs.specs.World.{WorldState, fabric_of}
use Rattle.run_defs.specs.declared.line.MapWords.{MapWords}
use Rattle.run_defs.specs.declared.line.MapWords.TheVariants.{Complete, Doubtful, IncompleteDepth, IncompleteNodes}
use Rattle.run_defs.specs.Mapped.{IsMapped}
use Rattle.run_defs.specs.Run.{hosts_by_address}
use Rattle.run_defs.specs.Session.{LastMap, LastRoutes}
use Rattle.mapping_laws.specs.Laws.{CanMap}
use Rattle.mapping_laws.proofs.Made.{made_map_is_connected, made_map_is_map, made_map_is_right}
use Rattle.map_canon.specs.Printing.{AreOfFabric}
use Rattle.map_making.specs.declared.making.MadeMap.{MadeMap}
use Rattle.fab_report.specs.Printed.{PrintedState}
use Rattle.fab_world.specs.Held.{IsMoment}
use Rattle.route_making.specs.Listed.{map_hosts_below}
use Rattle.world_commands.specs.Done.{session_of}
use Rattle.world_commands.proofs.Calls.{host-there}
use Rattle.run_session.specs.declared.mapping.MapOrder.{MapOrder}
use Rattle.run_session.specs.Kept.{IsKeptMap, WasKeptMap, WereKeptRoutes, IsKept, IsLastMap, AreLastRoutes}
use Rattle.run_session.specs.Told.{IsMadeOver, AreRoutesTold}
use Rattle.run_session.proofs.Going.{of-fabric}

-- a session with neither a map nor routes keeps both
pub none_kept : (w : WorldState) → IsKept (session_of w None None)
none_kept w = record { complete = λ l e. cc; routes = λ l e. cc }

-- a map that was just made, where it says complete
pub kept_last : (h : CableHistory) (host : ℕ) (words : MapWords) (m : NetMap) (began : ℕ) → began ≤ h.changes → (words ≡ Complete → IsKeptMap (fabric_at h began) host m)
    → IsLastMap h (Some (record { mapper = host; words = words; made = m; began = began }))
kept_last h host Complete m began past right l e =
    let one : record { mapper = host; words = Complete; made = m; began = began } ≡ l = cc in
    subst (WasKeptMap h) one (record { past = past; kept = right refl })
kept_last h host (Doubtful drowned) m began past right l e = cc
kept_last h host IncompleteDepth m began past right l e = cc
kept_last h host IncompleteNodes m began past right l e = cc

-- a map can be made over a world at a moment
pub can-map : (order : MapOrder) (before : WorldState) → IsMoment before → is_idle before.links ≡ true → has_vertex (fabric_of before) (Host order.host) ≡ true → order.depth ≤ 32 → CanMap order.host order.depth before
can-map order before now idle there shallow = record {
  history = now.history;
  world = now.world;
  idle = idle;
  is_host = host-there before order.host now there;
  byte_flips = now.plan;
  shallow = omega (arith, shallow);
}

-- routes can be computed of a map that was made over a world, where it says complete
pub kept-made : (order : MapOrder) (before after : WorldState) (m : MadeMap) (packets : ℕ) → IsMoment before → is_idle before.links ≡ true → has_vertex (fabric_of before) (Host order.host) ≡ true → order.depth ≤ 32
    → IsMadeOver order before after m packets → AreOfFabric (fabric_of before) m.map → m.words ≡ Complete → IsKeptMap (fabric_of before) order.host m.map
kept-made order before after m packets now idle there shallow over hosts says =
    let n : Network = fabric_of before in
    let host = order.host in
    let can : CanMap host order.depth before = can-map order before now idle there shallow in
    let j = over.journal in
    let made = over.mapped in
    let right : IsMapOfPart n host m.map = made_map_is_right host order.depth order.tries before after j m.map can (subst (IsMapped host order.depth order.tries before after j m.map) says made) in
    let small = (right_map_is_no_larger n host m.map now.fabric there right).switches in
    let few = now.fabric.few_switches in
    record {
      rules = made_map_is_map host order.depth order.tries before after j m.map m.words can made;
      right = right;
      hosts = hosts;
      connected = made_map_is_connected host order.depth order.tries before after j m.map m.words made;
      few = omega (arith, small, few);
    }

-- a map that routes can be computed of: it is connected, of few switches, and of the hosts that are there
pub was_connected : (h : CableHistory) (l : LastMap) → WasKeptMap h l → IsConnected l.made
was_connected h l was = was.kept.connected

pub was_few : (h : CableHistory) (l : LastMap) → WasKeptMap h l → length (switches_of l.made.vertices) ≤ 64
was_few h l was = was.kept.few

pub was_there : (w : WorldState) (l : LastMap) (n : Network) → n ≡ fabric_of w → WasKeptMap w.links.cables l → AreOfFabric n l.made
was_there w l n same was = of-fabric (fabric_at w.links.cables l.began) n l.made (sym (ap (λ (k : Network). k.hosts) same)) was.kept.hosts

-- the last routes of a map, with its hosts by address
abbrev routes_of : WorldState → LastMap → List Route → LastRoutes
routes_of w l routes = record { mapper = l.mapper; hosts = hosts_by_address w l.made; routes = routes; began = l.began }

-- routes that were computed of such a map
kept-routes : (w : WorldState) (l : LastMap) (routes : List Route) → IsMoment w → WasKeptMap w.links.cables l → AreRoutesOf l.made (order_of l.made) routes → WereKeptRoutes w.links.cables (routes_of w l routes)
kept-routes w l routes now was are = record {
  past = was.past;
  kept = record {
    made = l.made;
    kept = was.kept;
    are = are;
    hosts = ap (λ count. map_hosts_below count l.made) now.world.hosts;
  };
}

-- they are the last ones
pub kept_last_routes : (w : WorldState) (l : LastMap) (found : Option LastRoutes) (p : PrintedState) → IsMoment w → WasKeptMap w.links.cables l → AreRoutesTold w l found p → AreLastRoutes w.links.cables found
kept_last_routes w l found p now was told x e =
    let one : routes_of w l told.routes ≡ x = some-same (sym told.last ∙ e) in
    subst (WereKeptRoutes w.links.cables) one (kept-routes w l told.routes now was told.are)
  where
    some-same : {a b : LastRoutes} → Some a ≡ Some b → a ≡ b
    some-same p = cc
