-- A run's session holds a map that was right where it says complete, and routes that were.
use Rattle.std.proofs.Common.{◌≡◌, ◌⊎◌, inl, inr, ℕ, ◌≤◌, true, false, not, nat_eq, List, [], ◌∷◌, map, Option, Some, None, cond, refl, sym, ◌∙◌, ap, subst, arith}
use Rattle.std.specs.List.{AllByRecursion}
use Rattle.std.proofs.lemmas.Bool.{and_parts}
use Rattle.std.proofs.lemmas.Bool.Decides.{Decides-eqb}
use Rattle.net_defs.specs.declared.route.Route.{Route}
use Rattle.net_defs.specs.Network.{Network}
use Rattle.world_defs.specs.History.{CableHistory, IsHistory, fabric_at}
use Rattle.world_defs.proofs.Now.{last_is_now}
use Rattle.world_defs.specs.Acts.{Happens, acted_all}
use Rattle.world_defs.proofs.AdoptedEpochs.{may-from}
use Rattle.world_defs.proofs.ActsKept.{CablesKept}
use Rattle.map_defs.specs.Orientation.{order_of}
use Rattle.map_defs.proofs.Places.{places_are_an_order}
use Rattle.map_laws.specs.RouteSets.{AreRightRoutes}
use Rattle.map_laws.proofs.RightRoutes.{routes_of_a_right_map_are_right}
use Rattle.world_defs.specs.declared.event.Event.{Event}
use Rattle.world_defs.specs.Table.{Adoption}
use Rattle.world_defs.specs.World.{WorldState, fabric_of, adopted_by, may_adopt}
use Rattle.world_defs.specs.Step.{step}
use Rattle.run_defs.specs.declared.command.Command.{Command}
use Rattle.run_defs.specs.declared.line.MapWords.{MapWords}
use Rattle.run_defs.specs.declared.line.MapWords.TheVariants.{Complete, Doubtful, IncompleteDepth, IncompleteNodes}
use Rattle.run_defs.specs.Mapped.{IsMapped}
use Rattle.run_defs.specs.Output.{Piece}
use Rattle.run_defs.specs.Session.{SessionState, LastMap, LastRoutes, new_session, is_complete, complete_map}
use Rattle.run_defs.specs.Deed.{Deed, session_after}
use Rattle.run_defs.specs.Outcome.{Kind, kind_of, Outcome, outcome, set_of, installation, may_install}
use Rattle.run_defs.specs.Run.{Does, Runs}
use Rattle.run_defs.proofs.Doing.{Doing, doing, does}
use Rattle.run_defs.proofs.Doing.Doing.{determined, maps, circuits, routes}
use Rattle.run_defs.proofs.ByKind.{IsLaw, by-kind, outcome-law}
use Rattle.run_defs.specs.Run.Runs.{ended, goes_on}
use Rattle.run_defs.specs.Headline.{FitsFabric}
use Rattle.mapping_laws.specs.Runs.{IsSessionOf}
use Rattle.mapping_laws.specs.Held.{IsRightMap, WasRightMap, WereRightRoutes, HoldsRight, RunHoldsRight}
use Rattle.mapping_laws.proofs.Made.{mapping_keeps, made_map_is_map, made_map_is_right, made_map_is_connected}
use Rattle.install_laws.proofs.Worlds.{event-set}
use Rattle.mapping_laws.proofs.Sessions.{can-map-now, mapped-stays, does-keep, does-stays, new-session}

-- where routes may be installed, no change came since their map began
pub can-install : (w : WorldState) (l : LastRoutes) → not (may_install w l) ≡ false → (l.began ≡ w.links.cables.changes) × (may_adopt w l.routes ≡ true)
can-install w l e =
    let both = and_parts (nat_eq l.began w.links.cables.changes) (may_adopt w l.routes) (may-from (may_install w l) e) in
    ((Decides-eqb l.began w.links.cables.changes).0 both.0, both.1)

-- the last routes were adopted, before any change since their map began
pub record IsLastAdopted (s : SessionState) (o : Option Adoption) : Type 0 where
  pub last : LastRoutes
  pub are : s.last_routes ≡ Some last
  pub unchanged : last.began ≡ s.world.links.cables.changes
  pub is : o ≡ Some (set_of s.world last)

-- a session after another that holds the same, but may have adopted the last routes
pub record HeldBy (s next : SessionState) : Type 0 where
  pub last_map : next.last_map ≡ s.last_map
  pub last_routes : next.last_routes ≡ s.last_routes
  pub adopted : (next.world.adopted ≡ s.world.adopted) ⊎ IsLastAdopted s next.world.adopted

held-world : (s : SessionState) (w : WorldState) → w.adopted ≡ s.world.adopted → HeldBy s (record s { world = w })
held-world s w e = record { last_map = refl; last_routes = refl; adopted = inl e }

-- events keep the adopted set
pub set-events : (w : WorldState) (es : List Event) → (acted_all w (map Happens es)).adopted ≡ w.adopted
set-events w [] = refl
set-events w (e ∷ es) = set-events (step w e).1 es ∙ event-set w e

abbrev HeldAfter : SessionState → Deed → Type 0
HeldAfter s d = HeldBy s (session_after s d)

held-law : (s : SessionState) (k : Kind) → IsLaw (HeldAfter s) s k
held-law s k = record {
  reads = λ ls. held-world s s.world refl;
  happens = λ es ls of_k. held-world s (acted_all s.world (map Happens es)) (set-events s.world es);
  plans = λ ahead fault is. record { last_map = refl; last_routes = refl; adopted = inl refl };
  installs = λ l tries is are may. record {
    last_map = refl;
    last_routes = refl;
    adopted = inr (record { last = l; are = are; unchanged = (can-install s.world l may).0; is = set-events (adopted_by s.world l.mapper l.routes) (installation s.world l tries).events });
  };
  restarts = λ e is. record { last_map = refl; last_routes = refl; adopted = inl refl };
}

pub outcome-held : (s : SessionState) (c : Command) (o : Outcome) → outcome s c ≡ Some o → HeldBy s o.after
outcome-held s c o e = outcome-law (λ o. HeldBy s o.after) s c o (by-kind (HeldAfter s) s (kind_of c) (held-law s (kind_of c))) e

-- what was right stays so
map-past : (w v : WorldState) (l : LastMap) → CablesKept w v → WasRightMap w.links.cables l → WasRightMap v.links.cables l
map-past w v l k is =
    let low = is.past in
    let more = k.changes in
    record { past = omega (arith, low, more); right = subst (λ n. IsRightMap n l) (sym (k.past l.began low)) is.right }

routes-past : (w v : WorldState) (began mapper : ℕ) (rs : List Route) → CablesKept w v → WereRightRoutes w.links.cables began mapper rs → WereRightRoutes v.links.cables began mapper rs
routes-past w v began mapper rs k is =
    let low = is.past in
    let more = k.changes in
    record { past = omega (arith, low, more); right = subst (λ n. AreRightRoutes n mapper rs) (sym (k.past began low)) is.right }

-- the adopted set was right
abbrev AdoptedRight : CableHistory → Adoption → Type 0
AdoptedRight h a = WereRightRoutes h a.at a.mapper a.routes

adopted-past : (w v : WorldState) (a : Adoption) → CablesKept w v → AdoptedRight w.links.cables a → AdoptedRight v.links.cables a
adopted-past w v a k is = routes-past w v a.at a.mapper a.routes k is

adopted-right : (s : SessionState) (o : Option Adoption) → HoldsRight s → (o ≡ s.world.adopted) ⊎ IsLastAdopted s o → (a : Adoption) → o ≡ Some a → AdoptedRight s.world.links.cables a
adopted-right s o h (inl e) a is = h.adopted a (sym e ∙ is)
adopted-right s o h (inr k) a is =
    let one : set_of s.world k.last ≡ a = cc in
    let last : AdoptedRight s.world.links.cables (set_of s.world k.last) = subst (λ b. WereRightRoutes s.world.links.cables b k.last.mapper k.last.routes) k.unchanged (h.routes k.last k.are) in
    subst (AdoptedRight s.world.links.cables) one last

held-right : (s next : SessionState) → CablesKept s.world next.world → HeldBy s next → HoldsRight s → HoldsRight next
held-right s next c k h = record {
  complete = λ l e. map-past s.world next.world l c (h.complete l (ap complete_map (sym k.last_map) ∙ e));
  routes = λ l e. routes-past s.world next.world l.began l.mapper l.routes c (h.routes l (sym k.last_routes ∙ e));
  adopted = λ a e. adopted-past s.world next.world a c (adopted-right s next.world.adopted h k.adopted a e);
}

-- a map that was just made, where it says complete
kept-map : (h : CableHistory) (r l : LastMap) → (r.words ≡ Complete → WasRightMap h r) → complete_map (Some r) ≡ Some l → WasRightMap h l
kept-map h r l right e = by r.words refl e
  where
    by : (words : MapWords) → r.words ≡ words → cond (is_complete words) (Some r) None ≡ Some l → WasRightMap h l
    by Complete is p = let one : r ≡ l = cc in subst (WasRightMap h) one (right is)
    by (Doubtful drowned) is p = cc
    by IncompleteDepth is p = cc
    by IncompleteNodes is p = cc

kept-routes : (h : CableHistory) (r l : LastRoutes) → WereRightRoutes h r.began r.mapper r.routes → Some r ≡ Some l → WereRightRoutes h l.began l.mapper l.routes
kept-routes h r l right e = let one : r ≡ l = cc in subst (λ (x : LastRoutes). WereRightRoutes h x.began x.mapper x.routes) one right

-- a map is right in the fabric as it stood before it, over the cables after it
map-now : (w v : WorldState) (r : LastMap) → IsHistory w.links.cables → CablesKept w v → r.began ≡ w.links.cables.changes → IsRightMap (fabric_of w) r → WasRightMap v.links.cables r
map-now w v r is k e right =
    let low : r.began ≤ w.links.cables.changes = omega (arith, e) in
    let high : w.links.cables.changes ≤ r.began = omega (arith, e) in
    map-past w v r k (record { past = low; right = subst (λ n. IsRightMap n r) (sym (last_is_now w.links.cables r.began is high)) right })

holds-so : {s next : SessionState} {c : Command} {out : List Piece} → (n : Network) → FitsFabric n c → IsSessionOf n s → HoldsRight s → Doing s c out next → HoldsRight next
holds-so {s = s} {next = next} {c = c} {out = out} n of_n is h (determined e) = held-right s next (does-keep {s = s} {next = next} {c = c} n of_n (does (determined e))).cables (outcome-held s c (record { output = out; after = next }) e) h
holds-so {s = s} {next = next} n of_n is h (maps {host = host} {depth = depth} {tries = tries} after j m words idle made printed left) =
    let can = can-map-now n s host depth tries of_n is idle in
    let r : LastMap = record { mapper = host; words = words; made = m; began = s.world.links.cables.changes } in
    let set = (mapping_keeps host depth tries s.world after j m words can made).0.adopted in
    let c : CablesKept s.world after = (mapped-stays s.world after host tries j made.led).cables in
    subst HoldsRight (sym left) (record {
      complete = λ l e. kept-map after.links.cables r l (λ says. map-now s.world after r is.history c refl (record {
        rules = made_map_is_map host depth tries s.world after j m words can made;
        right = made_map_is_right host depth tries s.world after j m can (subst (IsMapped host depth tries s.world after j m) says made);
        connected = made_map_is_connected host depth tries s.world after j m words made;
      })) e;
      routes = λ l e. routes-past s.world after l.began l.mapper l.routes c (h.routes l e);
      adopted = λ a e. adopted-past s.world after a c (h.adopted a (sym set ∙ e));
    })
holds-so {s = s} {next = next} n of_n is h (circuits told left) = subst HoldsRight (sym left) h
holds-so {s = s} {next = next} n of_n is h (routes l found complete are printed left) =
    let k = h.complete l complete in
    let past : Network = fabric_at s.world.links.cables l.began in
    let right = routes_of_a_right_map_are_right past l.mapper l.made (order_of l.made) found (is.history.fabrics l.began) k.right.rules k.right.right (places_are_an_order l.made) are in
    subst HoldsRight (sym left) (record { complete = h.complete; routes = λ x e. kept-routes s.world.links.cables _ x (record { past = k.past; right = right }) e; adopted = h.adopted })

pub does-hold : {s next : SessionState} {c : Command} {out : List Piece} → (n : Network) → FitsFabric n c → IsSessionOf n s → HoldsRight s → Does s c out next → HoldsRight next
does-hold n of_n is h d = holds-so n of_n is h (doing d)

runs-hold : {s last : SessionState} {cs : List Command} {out : List Piece} → (n : Network) → AllByRecursion (FitsFabric n) cs → IsSessionOf n s → HoldsRight s → Runs s cs out last → HoldsRight last
runs-hold n all is h ended = h
runs-hold n all is h (goes_on d r e) = runs-hold n all.1 (does-stays n all.0 is d) (does-hold n all.0 is h d) r

pub new-holds : (n : Network) → HoldsRight (new_session n)
new-holds n = record { complete = λ l e. cc; routes = λ l e. cc; adopted = λ a e. cc }

pub run_holds_right : RunHoldsRight
run_holds_right n commands out last f all r = runs-hold n all (new-session n f) (new-holds n) r
