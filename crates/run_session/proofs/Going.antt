-- Worlds go on: hosts, switches and the fabric of the past stay, and so does what a session keeps of them.
use Rattle.std.proofs.Common.{◌≡◌, ℕ, true, List, [], ◌∷◌, length, Option, refl, sym, ◌∙◌, ap, subst, arith}
use Rattle.std.specs.Prelude.{◌<◌, nat_lt}
use Rattle.std.specs.List.{AllByRecursion}
use Rattle.net_defs.specs.declared.route.Route.{Route}
use Rattle.net_defs.specs.declared.vertex.Vertex.TheVariants.{Host}
use Rattle.net_defs.specs.Network.{Network, has_vertex}
use Rattle.world_defs.specs.History.{CableHistory, fabric_at}
use Rattle.world_defs.specs.Later.{IsLater, OnlyPulled}
use Rattle.world_defs.proofs.CablesLater.{later-kept, later-past, pulled-later}
use Rattle.world_defs.proofs.Now.{last_is_now}
use Rattle.world_defs.specs.Links.{empty_links}
use Rattle.map_defs.specs.declared.vertex.MapVertex.{MapVertex}
use Rattle.map_defs.specs.declared.vertex.MapVertex.TheVariants.{Host as MapHost, Switch as MapSwitch}
use Rattle.map_defs.specs.NetMap.{NetMap}
use Rattle.world_defs.specs.declared.event.Event.{Event}
use Rattle.world_defs.specs.World.{WorldState, fabric_of, adopted_by}
use Rattle.world_defs.specs.Step.{step, after_all}
use Rattle.world_defs.specs.Row.{IsPartWay}
use Rattle.world_defs.proofs.Kept.{step-later}
use Rattle.world_defs.specs.Acts.{Act, Adopts, acted}
use Rattle.world_defs.proofs.ActsKept.{acted-kept}
use Rattle.run_defs.specs.Output.{Piece}
use Rattle.run_defs.specs.Session.{LastMap, LastRoutes}
use Rattle.map_canon.specs.Printing.{IsOfFabric, AreOfFabric}
use Rattle.fab_report.specs.Printed.{printed_of}
use Rattle.fab_report.proofs.Names.{printed-named}
use Rattle.fab_world.specs.Held.{IsMoment}
use Rattle.world_commands.specs.Done.{session_of}
use Rattle.run_session.specs.declared.walking.WalkLinks.{WalkLinks}
use Rattle.run_session.specs.Holding.{AreWalkLinks}
use Rattle.run_session.specs.Kept.{IsKeptMap, AreKeptRoutes, WasKeptMap, WereKeptRoutes, IsLastMap, AreLastRoutes, IsKept, GoesOn}

-- by nothing, and by one after another
pub goes_same : (w : WorldState) → GoesOn w w
goes_same w = record { vertices = (refl, refl); changes = omega arith; past = λ k low. refl }

pub goes-as : (w v : WorldState) → v ≡ w → GoesOn w v
goes-as w v same = subst (GoesOn w) (sym same) (goes_same w)

pub goes-on : (u v w : WorldState) → GoesOn u v → GoesOn v w → GoesOn u w
goes-on u v w a b =
    let i = a.changes in
    let j = b.changes in
    record {
      vertices = (b.vertices.0 ∙ a.vertices.0, b.vertices.1 ∙ a.vertices.1);
      changes = omega (arith, i, j);
      past = λ k low. b.past k (omega (arith, low, i)) ∙ a.past k low;
    }

-- by changes of cables
pub goes-later : (w v : WorldState) → IsLater w.links.cables v.links.cables → GoesOn w v
goes-later w v l =
    let k = later-kept l in
    record { vertices = (k.hosts, k.switches); changes = k.changes; past = λ j low. later-past j low l }

pub goes_pulled : (w v : WorldState) → OnlyPulled w.links.cables v.links.cables → GoesOn w v
goes_pulled w v p = goes-later w v (pulled-later p)

-- by events, or a part of them
pub goes-events : (w : WorldState) (es : List Event) → GoesOn w (after_all w es)
goes-events w [] = goes_same w
goes-events w (e ∷ es) = goes-on w (step w e).1 (after_all (step w e).1 es) (goes-later w (step w e).1 (step-later w e)) (goes-events (step w e).1 es)

pub goes-way : (w v : WorldState) (es : List Event) → IsPartWay w es v → GoesOn w v
goes-way w v es p = subst (GoesOn w) (sym p.there) (goes-events w p.done)

-- by an adoption
goes-act : (w : WorldState) (a : Act) → GoesOn w (acted w a)
goes-act w a = let k = acted-kept w a in record { vertices = (k.hosts, k.switches); changes = k.changes; past = k.past }

pub goes-adopted : (w v : WorldState) (mapper : ℕ) (routes : List Route) → v ≡ adopted_by w mapper routes → GoesOn w v
goes-adopted w v mapper routes there = subst (GoesOn w) (sym there) (goes-act w (Adopts mapper routes))

-- the fabric after the changes so far is the one that stands
pub stands-now : (w : WorldState) (k : ℕ) → IsMoment w → k ≡ w.links.cables.changes → fabric_at w.links.cables k ≡ fabric_of w
stands-now w k now same = last_is_now w.links.cables k now.history (omega (arith, same))

pub stood-before : (w v : WorldState) → IsMoment w → GoesOn w v → fabric_at v.links.cables w.links.cables.changes ≡ fabric_of w
stood-before w v now g = g.past w.links.cables.changes (omega arith) ∙ stands-now w w.links.cables.changes now refl

-- so routes of the fabric as it stood then are routes of the fabric as it stands, where no cable changed since
pub routes-now : (w : WorldState) (l : LastRoutes) → IsMoment w → l.began ≡ w.links.cables.changes → WereKeptRoutes w.links.cables l → AreKeptRoutes (fabric_of w) l
routes-now w l now same were = subst (λ n. AreKeptRoutes n l) (stands-now w l.began now same) were.kept

-- what is printed has the same names
pub printed-on : (w v : WorldState) (out : List Piece) → GoesOn w v → printed_of (fabric_of v) out ≡ printed_of (fabric_of w) out
printed-on w v out g = printed-named (fabric_of v) (fabric_of w) g.vertices.0 g.vertices.1 out

-- a map's hosts are of a fabric, whatever its cables
of-vertices : (f g : Network) (vs : List MapVertex) → f.hosts ≡ g.hosts → AllByRecursion (IsOfFabric f) vs → AllByRecursion (IsOfFabric g) vs
of-vertices f g [] same all = tt
of-vertices f g (MapHost h ∷ vs) same all = (subst (λ (hs : List (List ℕ)). h < length hs) same all.0, of-vertices f g vs same all.1)
of-vertices f g (MapSwitch s ∷ vs) same all = (tt, of-vertices f g vs same all.1)

pub of-fabric : (f g : Network) (m : NetMap) → f.hosts ≡ g.hosts → AreOfFabric f m → AreOfFabric g m
of-fabric f g m same all = of-vertices f g m.vertices same all

-- and hosts are there
pub host-stays : (w v : WorldState) (h : ℕ) → GoesOn w v → has_vertex (fabric_of w) (Host h) ≡ true → has_vertex (fabric_of v) (Host h) ≡ true
host-stays w v h g there = subst (λ (hs : List (List ℕ)). nat_lt h (length hs) ≡ true) (sym g.vertices.0) there

-- what is kept over one world is kept over one that it goes on to
pub map-over : (w v : WorldState) (l : LastMap) → GoesOn w v → WasKeptMap w.links.cables l → WasKeptMap v.links.cables l
map-over w v l g was =
    let past = was.past in
    let on = g.changes in
    record { past = omega (arith, past, on); kept = subst (λ n. IsKeptMap n l.mapper l.made) (sym (g.past l.began past)) was.kept }

pub routes-over : (w v : WorldState) (l : LastRoutes) → GoesOn w v → WereKeptRoutes w.links.cables l → WereKeptRoutes v.links.cables l
routes-over w v l g were =
    let past = were.past in
    let on = g.changes in
    record { past = omega (arith, past, on); kept = subst (λ n. AreKeptRoutes n l) (sym (g.past l.began past)) were.kept }

pub last-over : (w v : WorldState) (made : Option LastMap) → GoesOn w v → IsLastMap w.links.cables made → IsLastMap v.links.cables made
last-over w v made g kept l e = map-over w v l g (kept l e)

pub kept-over : (w v : WorldState) (made : Option LastMap) (found : Option LastRoutes) → GoesOn w v → IsLastMap w.links.cables made → AreLastRoutes w.links.cables found → IsKept (session_of v made found)
kept-over w v made found g map routes = record {
  complete = last-over w v made g map;
  routes = λ l e. routes-over w v l g (routes l e);
}

pub links-over : (w v : WorldState) (l : WalkLinks) → GoesOn w v → AreWalkLinks w.links.cables l → AreWalkLinks v.links.cables l
links-over w v l g are =
    let past = are.past in
    let on = g.changes in
    record { past = omega (arith, past, on); empty = are.empty ∙ ap empty_links (sym (g.past l.made past)) }

-- links that were made of the fabric as it stands are links for walks, and they stay those of the fabric that stands while no cable changes
pub links_now : (w : WorldState) (l : WalkLinks) → IsMoment w → l.made ≡ w.links.cables.changes → l.links ≡ empty_links (fabric_of w) → AreWalkLinks w.links.cables l
links_now w l now made empty = record { past = omega (arith, made); empty = empty ∙ ap empty_links (sym (stands-now w l.made now made)) }

pub links_still : (w : WorldState) (l : WalkLinks) → IsMoment w → l.made ≡ w.links.cables.changes → AreWalkLinks w.links.cables l → l.links ≡ empty_links (fabric_of w)
links_still w l now made are = are.empty ∙ ap empty_links (stands-now w l.made now made)

-- links that are the same ones
pub links_same : (h : CableHistory) (l m : WalkLinks) → m.links ≡ l.links → m.made ≡ l.made → AreWalkLinks h l → AreWalkLinks h m
links_same h l m links made are =
    let past = are.past in
    record { past = omega (arith, past, made); empty = links ∙ are.empty ∙ ap (λ k. empty_links (fabric_at h k)) (sym made) }
