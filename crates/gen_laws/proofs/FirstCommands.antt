-- The first commands of a generated run: its map says complete, its routes lead from each host to each other one, and they are installed on all hosts.
use Rattle.std.proofs.Common.{◌≡◌, ◌≢◌, ◌≤◌, ◌<◌, ◌+◌, ◌*◌, ◌-◌, ℕ, zero, suc, Bool, true, false, ◌&&◌, List, [], ◌∷◌, ◌++◌, map, length, length-append, find, nat_eq, cond, if◌then◌else◌, Option, Some, None, is_some, option_map, ◌⊎◌, inl, inr, refl, sym, ap, ◌∙◌, subst, arith, true≢false}
use Rattle.std.specs.Prelude.{slice_get, option_and_then}
use Rattle.std.specs.List.{AllByRecursion, filter, list_any, range_with_len}
use Rattle.std.specs.Map.{lookup}
use Rattle.std.proofs.lemmas.Bool.{cases_lt}
use Rattle.std.proofs.lemmas.Bool.Decides.{Decides-eqb, nat_tests}
use Rattle.std.proofs.lemmas.Option.{same_Some}
use Rattle.std.proofs.lemmas.List.{length-replicate}
use Rattle.std.proofs.lemmas.List.FromFn.{length-range_with_len}
use Rattle.net_defs.specs.declared.route.Route.{Route}
use Rattle.net_defs.specs.declared.vertex.Vertex.{Vertex}
use Rattle.net_defs.specs.declared.vertex.Vertex.TheVariants.{Host, Switch}
use Rattle.net_defs.specs.Network.{Network}
use Rattle.net_defs.specs.RouteSet.{HasRoute}
use Rattle.net_defs.proofs.Distinct.{all-weaker}
use Rattle.journal_defs.specs.declared.entry.Entry.{Entry}
use Rattle.journal_defs.specs.Depth.{enough_depth, EachSwitchHasAHost}
use Rattle.journal_defs.specs.Part.{IsInPart}
use Rattle.journal_defs.proofs.Members.{all-join}
use Rattle.journal_defs.proofs.Order.{or-left, or-right}
use Rattle.map_defs.specs.declared.vertex.MapVertex.{MapVertex}
use Rattle.map_defs.specs.declared.vertex.MapVertex.TheVariants.{Host as MapHost, Switch as MapSwitch}
use Rattle.map_defs.specs.NetMap.{NetMap, host_at, host_of_vertex, hosts_of}
use Rattle.map_defs.specs.Orientation.{order_of}
use Rattle.map_defs.specs.Sameness.{IsMapOfPart, address_of}
use Rattle.map_laws.proofs.Listed.{host-below}
use Rattle.world_defs.specs.Acts.{acted_all}
use Rattle.world_defs.specs.Links.{is_idle}
use Rattle.world_defs.specs.Mapping.{RouteEntry}
use Rattle.world_defs.specs.Node.{new_node}
use Rattle.world_defs.specs.Table.{ActiveTable, TableState, may_adopt_in, entries_from, table_route}
use Rattle.world_defs.specs.World.{WorldState, fabric_of, host_count, node_at, last_count, addresses, standing_of, may_adopt, adopted_by}
use Rattle.world_defs.proofs.First.{first_stands}
use Rattle.world_defs.proofs.LogRows.{asks-row}
use Rattle.world_defs.proofs.Shapes.{empty-idle}
use Rattle.world_laws.proofs.Along.{row-along}
use Rattle.world_laws.proofs.Unplanned.{Unplanned, is_change, along-unplanned}
use Rattle.install_laws.specs.Premises.{CanInstall}
use Rattle.install_laws.specs.Tables.{has_table}
use Rattle.run_defs.specs.declared.command.Command.{Command}
use Rattle.run_defs.specs.declared.command.Command.TheVariants.{Map, Routes, Install}
use Rattle.run_defs.specs.declared.figure.Figure.TheVariants.{Installed as FigureInstalled, Routed}
use Rattle.run_defs.specs.declared.line.Line.TheVariants.{Map as MapLine, MapBusy, Installed as InstalledLine}
use Rattle.run_defs.specs.declared.line.MapWords.{MapWords}
use Rattle.run_defs.specs.declared.line.MapWords.TheVariants.{Complete}
use Rattle.run_defs.specs.Deed.{Deed, says}
use Rattle.run_defs.specs.Headline.{IsQuiet}
use Rattle.run_defs.specs.Mapped.{IsMapped, asks_of}
use Rattle.run_defs.specs.Outcome.{Outcome, seen, outcome, routes_refused, set_of, table_line, installation, may_install, install_now}
use Rattle.run_defs.specs.Output.{Piece, OneLine, MapLines, lines}
use Rattle.run_defs.specs.Run.{Does, IsRun, map_pieces, hosts_by_address}
use Rattle.run_defs.specs.Session.{SessionState, LastMap, LastRoutes, new_session, complete_map}
use Rattle.run_defs.specs.Summary.{figures_in}
use Rattle.run_defs.proofs.Doing.{Doing, does-world, acted-installation}
use Rattle.run_defs.proofs.Doing.Doing.{determined, maps, routes}
use Rattle.mapping_laws.specs.Laws.{CanMap}
use Rattle.mapping_laws.proofs.Made.{made_map_is_right, mapping_keeps, deep_map_is_complete}
use Rattle.mapping_laws.proofs.Sessions.{can-map, new-session}
use Rattle.run_laws.specs.Acts.{IsActOf}
use Rattle.run_laws.specs.InstallLines.{IsInstalledLine}
use Rattle.run_laws.proofs.InstallLines.{run-can_install, line-true}
use Rattle.run_laws.proofs.RunsOnce.{runs-more}
use Rattle.injection_bounds.proofs.Running.{runs-inject-few}
use Rattle.fab_script.specs.Ranges.{IsCommandOf}
use Rattle.promise_laws.proofs.Said.{said-act}
use Rattle.fabric_gen.specs.Text.{below, depth}
use Rattle.input_texts.specs.Generated.{gen_fabric}
use Rattle.gen_laws.proofs.Calm.{counts-all}
use Rattle.gen_laws.proofs.Chains.{IsMappedWhole}
use Rattle.gen_laws.proofs.Figures.{routes-figures, installs-now, install-figures}
use Rattle.gen_laws.proofs.Pairs.{map-routes-count}

-- the hosts of a map
host-any : (vs : List MapVertex) (v h : ℕ) → host_at (slice_get vs v) ≡ Some h → list_any (nat_eq h) (hosts_of vs) ≡ true
host-any [] v h e = cc
host-any (MapHost g ∷ vs) zero h e = let one : h ≡ g = cc in or-left (nat_eq h g) (list_any (nat_eq h) (hosts_of vs)) ((Decides-eqb h g).1 one)
host-any (MapHost g ∷ vs) (suc v) h e = or-right (nat_eq h g) (list_any (nat_eq h) (hosts_of vs)) (host-any vs v h e)
host-any (MapSwitch s ∷ vs) zero h e = cc
host-any (MapSwitch s ∷ vs) (suc v) h e = host-any vs v h e

part-host : (n : Network) (host h : ℕ) (m : NetMap) → IsMapOfPart n host m → IsInPart n host (Host h) → (v : ℕ) × (host_of_vertex m v ≡ Some h)
part-host n host h m same there =
    let v : ℕ = same.origin (Host h) in
    (v, sym (same.addresses v (same.origin_in (Host h) there)) ∙ ap address_of (same.image_origin (Host h) there))

address-host : (v : Vertex) (h : ℕ) → address_of v ≡ Some h → v ≡ Host h
address-host (Host g) h e = let one : g ≡ h = cc in ap Host one
address-host (Switch s) h e = cc

host-part : (n : Network) (host v h : ℕ) (m : NetMap) → IsMapOfPart n host m → host_of_vertex m v ≡ Some h → IsInPart n host (Host h)
host-part n host v h m same e =
    let low : v < length m.vertices = host-below m.vertices v h e in
    subst (IsInPart n host) (address-host (same.image v) h (same.addresses v low ∙ e)) (same.image_in v low)

all-passed : {X : Type 0} (t : X → Bool) (xs : List X) → AllByRecursion (λ x. t x ≡ true) xs → filter t xs ≡ xs
all-passed t [] all = refl
all-passed t (x ∷ xs) all = ap (λ b. cond b (x ∷ filter t xs) (filter t xs)) all.0 ∙ ap (λ l. x ∷ l) (all-passed t xs all.1)

each-of : (P : ℕ → Type 0) (a k : ℕ) → ((i : ℕ) → i < a + k → P i) → AllByRecursion P (range_with_len a k)
each-of P a zero f = tt
each-of P a (suc k) f = (f a (omega arith), each-of P (a + 1) k (λ i low. f i (omega (arith, low))))

-- what the map leaves
pub record IsFirstMap (n : ℕ) (out : List Piece) (s : SessionState) : Type 0 where
  pub asks : ℕ
  pub packets : ℕ
  pub made : NetMap
  pub printed : out ≡ OneLine (MapLine 0 Complete asks packets) ∷ MapLines made ∷ []
  pub kept : s.last_map ≡ Some (record { mapper = 0; words = Complete; made = made; began = 0 })
  pub right : IsMapOfPart (gen_fabric n) 0 made
  pub idle : is_idle s.world.links ≡ true
  pub changes : s.world.links.cables.changes ≡ 0
  pub adopted : s.world.adopted ≡ None
  pub hosts : host_count s.world ≡ n
  pub unplanned : (number : ℕ) → lookup (nat_eq number) s.world.plan ≡ None

-- and what the routes leave
pub record IsRouted (n : ℕ) (out : List Piece) (s : SessionState) : Type 0 where
  pub figures : figures_in out ≡ Routed (n * (n - 1)) ∷ []
  pub last : LastRoutes
  pub are : s.last_routes ≡ Some last
  pub began : last.began ≡ 0
  pub hosts : last.hosts ≡ below n
  pub joined : (a b : ℕ) → a < n → b < n → a ≢ b → HasRoute last.routes a b
  pub idle : is_idle s.world.links ≡ true
  pub changes : s.world.links.cables.changes ≡ 0
  pub adopted : s.world.adopted ≡ None
  pub unplanned : (number : ℕ) → lookup (nat_eq number) s.world.plan ≡ None

-- and what the installation leaves
pub record IsInstalled (n : ℕ) (out : List Piece) (s : SessionState) : Type 0 where
  pub figures : figures_in out ≡ FigureInstalled n n ∷ []
  pub routed : (h dest : ℕ) → h < n → dest < n → dest ≢ h → is_some (table_route (node_at s.world h).table dest) ≡ true

-- a table of a set's routes leads where the set has a route
entry-there : (rs : List Route) (place h dest : ℕ) (r : Route) → slice_get rs place ≡ Some r → r.from ≡ h → r.to ≡ dest → is_some (option_map (λ (e : RouteEntry). e.walk) (find (λ e. nat_eq e.to dest) (entries_from rs h))) ≡ true
entry-there [] place h dest r at from to = cc
entry-there (x ∷ rs) place h dest r at from to = by (nat_eq x.from h) (nat_eq x.to dest) refl refl place at (λ p e. entry-there rs p h dest r e from to)
  where
    leads : List RouteEntry → Bool
    leads es = is_some (option_map (λ (e : RouteEntry). e.walk) (find (λ e. nat_eq e.to dest) es))

    entry : Route → RouteEntry
    entry y = record { to = y.to; walk = y.walk }

    rest : List RouteEntry
    rest = map entry (filter (λ y. nat_eq y.from h) rs)

    first : (b : Bool) → nat_eq x.to dest ≡ b → leads (entry x ∷ rest) ≡ is_some (option_map (λ (e : RouteEntry). e.walk) (if b then Some (entry x) else find (λ e. nat_eq e.to dest) rest))
    first b e = ap (λ z. is_some (option_map (λ (e : RouteEntry). e.walk) (if z then Some (entry x) else find (λ e. nat_eq e.to dest) rest))) e

    by : (b c : Bool) → nat_eq x.from h ≡ b → nat_eq x.to dest ≡ c → (p : ℕ) → slice_get (x ∷ rs) p ≡ Some r → ((q : ℕ) → slice_get rs q ≡ Some r → leads rest ≡ true) → leads (map entry (if b then x ∷ filter (λ y. nat_eq y.from h) rs else filter (λ y. nat_eq y.from h) rs)) ≡ true
    by true true e f p there later = first true f
    by true false e f zero there later =
        let same : x.to ≡ dest = ap (λ (y : Route). y.to) (same_Some x r there) ∙ to in
        absurd (grind (arith, nat_tests))
    by true false e f (suc p) there later = first false f ∙ later p there
    by false c e f zero there later =
        let same : x.from ≡ h = ap (λ (y : Route). y.from) (same_Some x r there) ∙ from in
        absurd (grind (arith, nat_tests))
    by false c e f (suc p) there later = later p there

table-leads : (t : TableState) (rs : List Route) (h dest : ℕ) → is_some t.active ≡ true → ((a : ActiveTable) → t.active ≡ Some a → a.entries ≡ entries_from rs h) → HasRoute rs h dest → is_some (table_route t dest) ≡ true
table-leads t rs h dest has of_set r = by t.active refl has
  where
    by : (o : Option ActiveTable) → t.active ≡ o → is_some o ≡ true → is_some (table_route t dest) ≡ true
    by None e some = absurd (true≢false (sym some))
    by (Some a) e some =
        ap (λ o. is_some (option_and_then (λ (x : ActiveTable). option_map (λ (y : RouteEntry). y.walk) (find (λ y. nat_eq y.to dest) x.entries)) o)) e
        ∙ ap (λ es. is_some (option_map (λ (y : RouteEntry). y.walk) (find (λ y. nat_eq y.to dest) es))) (of_set a e) ∙ entry-there rs r.place h dest r.route r.there r.from r.to

all-below : (P : ℕ → Type 0) (from count i : ℕ) → from ≤ i → i < from + count → AllByRecursion P (range_with_len from count) → P i
all-below P from zero i low high all = absurd (omega (arith, low, high))
all-below P from (suc count) i low high all = by (cases_lt from i) (λ less. all-below P (from + 1) count i (omega (arith, less)) (omega (arith, high)) all.1)
  where
    by : (from < i) ⊎ (i ≤ from) → (from < i → P i) → P i
    by (inl less) later = later less
    by (inr most) later = let same : from ≡ i = omega (arith, low, most) in subst P same all.0

-- the session before it
abbrev start : ℕ → SessionState
start n = new_session (gen_fabric n)

module _ (n : ℕ) (two : 2 ≤ n) (few : n ≤ 24) (k : IsMappedWhole n) where
  idle-first : is_idle (start n).world.links ≡ true
  idle-first = empty-idle (gen_fabric n)

  now-first : fabric_of (start n).world ≡ gen_fabric n
  now-first = (first_stands (gen_fabric n) 0).0

  some-hosts : 0 < length (gen_fabric n).hosts
  some-hosts = let c = k.count in omega (arith, c, two)

  can-first : CanMap 0 (depth n) (start n).world
  can-first = can-map (gen_fabric n) (start n) 0 (depth n) some-hosts (omega (arith, few)) (new-session (gen_fabric n) k.fabric) idle-first

  quiet-first : (after : WorldState) → IsQuiet 0 (start n).world after
  quiet-first after = record {
    idle = idle-first;
    unplanned = tt;
    injections_left = let none : (start n).world.injected ≡ 0 = refl in omega (arith, none);
    small = inr (subst (λ f. EachSwitchHasAHost f 0) (sym now-first) k.hosts);
  }

  -- the asks leave the cables
  cables-first : (j : List Entry) → (asks_of 0 1 j (start n).world).world.links.cables ≡ (start n).world.links.cables
  cables-first j =
      let u : Unplanned (start n).world (asks_of 0 1 j (start n).world).world = row-along along-unplanned
      (asks-row {Q = λ e. is_change e ≡ false} (record { advance = λ c. refl; inject = λ h. refl; give_up = λ h. refl }) (λ h walk looped. refl) (start n).world.links.cables.changes 0 1 (map (λ (e : Entry). e.walk) j) (start n).world) in
      u.cables (λ number low high. refl)

  first-made : {out : List Piece} {next : SessionState} (after : WorldState) (j : List Entry) (m : NetMap) (words : MapWords) (packets : ℕ) → IsMapped 0 (depth n) 1 (start n).world after j m words
      → out ≡ OneLine (MapLine 0 words (length j) packets) ∷ map_pieces words m → next ≡ record (start n) { world = after; last_map = Some (record { mapper = 0; words = words; made = m; began = 0 }) } → IsFirstMap n out next
  first-made {out = out} {next = next} after j m words packets made printed left =
      let word : words ≡ Complete = deep_map_is_complete 0 (depth n) 1 (start n).world after j m words can-first made (quiet-first after) (omega arith) (omega arith) (subst (λ f. enough_depth f 0 ≤ depth n) (sym now-first) k.deep) in
      let right : IsMapOfPart (fabric_of (start n).world) 0 m = made_map_is_right 0 (depth n) 1 (start n).world after j m can-first (subst (λ x. IsMapped 0 (depth n) 1 (start n).world after j m x) word made) in
      let keeps = mapping_keeps 0 (depth n) 1 (start n).world after j m words can-first made in
      let world : next.world ≡ after = ap (λ (x : SessionState). x.world) left in
      record {
        asks = length j;
        packets = packets;
        made = m;
        printed = printed ∙ ap (λ x. OneLine (MapLine 0 x (length j) packets) ∷ map_pieces x m) word;
        kept = ap (λ (x : SessionState). x.last_map) left ∙ (λ i. Some (record { mapper = 0; words = word i; made = m; began = 0 }));
        right = subst (λ f. IsMapOfPart f 0 m) now-first right;
        idle = ap (λ (w : WorldState). is_idle w.links) world ∙ keeps.1.idle;
        changes = ap (λ (w : WorldState). w.links.cables.changes) (world ∙ made.led) ∙ ap (λ h. h.changes) (cables-first j);
        adopted = ap (λ (w : WorldState). w.adopted) world ∙ keeps.0.adopted;
        hosts = ap host_count world ∙ keeps.0.hosts ∙ length-replicate (length (gen_fabric n).hosts) (new_node (length (gen_fabric n).hosts)) ∙ k.count;
        unplanned = λ number. ap (λ (w : WorldState). lookup (nat_eq number) w.plan) world ∙ keeps.0.unplanned number refl;
      }

  pub first-map : {out : List Piece} {next : SessionState} → Doing (start n) (Map 0 (depth n) 1) out next → IsFirstMap n out next
  first-map {out = out} {next = next} (determined e) =
      let none : outcome (start n) (Map 0 (depth n) 1) ≡ None = ap (λ b. option_map (seen (start n)) (if b then None else Some (says (MapBusy 0 ∷ [])))) idle-first in
      let got : Outcome = record { output = out; after = next } in
      let bad : None ≡ Some got = sym none ∙ e in
      cc
  first-map (maps after j m words idle made printed left) = first-made after j m words _ made printed left

  -- the routes
  mapped-hosts : (w : WorldState) (m : NetMap) → host_count w ≡ n → IsMapOfPart (gen_fabric n) 0 m → hosts_by_address w m ≡ below n
  mapped-hosts w m count right =
      let t : ℕ → Bool = λ h. list_any (nat_eq h) (hosts_of m.vertices) in
      let passed : AllByRecursion (λ h. t h ≡ true) (addresses w) = each-of (λ h. t h ≡ true) 0 (host_count w) (λ h low. let v = part-host (gen_fabric n) 0 h m right ((k.joined h).0 (omega (arith, low, count))) in host-any m.vertices v.0 h v.1) in
      all-passed t (addresses w) passed ∙ ap below count

  same-map : (l m : LastMap) → Some l ≡ Some m → l ≡ m
  same-map l m e = cc

  pub routed : {s next : SessionState} {o out : List Piece} → IsFirstMap n o s → Doing s Routes out next → IsRouted n out next
  routed {s = s} {next = next} {out = out} f (determined e) =
      let l : LastMap = record { mapper = 0; words = Complete; made = f.made; began = 0 } in
      let none : outcome s Routes ≡ None = ap (λ x. option_map (seen s) (routes_refused (complete_map x))) f.kept in
      let got : Outcome = record { output = out; after = next } in
      let bad : None ≡ Some got = sym none ∙ e in
      cc
  routed {s = s} {next = next} {out = out} f (routes l found complete are printed left) =
      let one : l ≡ record { mapper = 0; words = Complete; made = f.made; began = 0 } = same-map l _ (sym complete ∙ ap complete_map f.kept) in
      let right : IsMapOfPart (gen_fabric n) 0 l.made = subst (λ (x : LastMap). IsMapOfPart (gen_fabric n) 0 x.made) (sym one) f.right in
      let world : next.world ≡ s.world = ap (λ (x : SessionState). x.world) left in
      let count : length found ≡ n * (n - 1) =
      map-routes-count n l.made (order_of l.made) found (omega (arith, few)) (λ v h e. (k.joined h).1 (host-part (gen_fabric n) 0 v h l.made right e)) (λ h low. part-host (gen_fabric n) 0 h l.made right ((k.joined h).0 low)) are in
      record {
        figures = ap figures_in printed ∙ routes-figures l.made found ∙ ap (λ c. Routed c ∷ []) count;
        last = record { mapper = l.mapper; hosts = hosts_by_address s.world l.made; routes = found; began = l.began };
        are = ap (λ (x : SessionState). x.last_routes) left;
        began = ap (λ (x : LastMap). x.began) one;
        hosts = mapped-hosts s.world l.made f.hosts right;
        joined = λ a b low below other.
            let v = part-host (gen_fabric n) 0 a l.made right ((k.joined a).0 low) in
            let u = part-host (gen_fabric n) 0 b l.made right ((k.joined b).0 below) in
            are.whole v.0 u.0 a b v.1 u.1 other;
        idle = ap (λ (w : WorldState). is_idle w.links) world ∙ f.idle;
        changes = ap (λ (w : WorldState). w.links.cables.changes) world ∙ f.changes;
        adopted = ap (λ (w : WorldState). w.adopted) world ∙ f.adopted;
        unplanned = λ number. ap (λ (w : WorldState). lookup (nat_eq number) w.plan) world ∙ f.unplanned number;
      }

  -- the installation
  may-now : (s : SessionState) (out : List Piece) (r : IsRouted n out s) → may_install s.world r.last ≡ true
  may-now s out r =
      let w : WorldState = s.world in
      let same : nat_eq r.last.began w.links.cables.changes ≡ true = (Decides-eqb r.last.began w.links.cables.changes).1 (r.began ∙ sym r.changes) in
      ap (λ b. b && may_adopt w r.last.routes) same ∙ ap (may_adopt_in (standing_of w) r.last.routes) r.adopted

  pub installed-all : {s next : SessionState} {o printed out : List Piece} {cs : List Command} → AllByRecursion (IsCommandOf (gen_fabric n)) cs → length cs ≤ 4 → IsCommandOf (gen_fabric n) (Install 1)
      → IsRun (gen_fabric n) cs printed s → IsRouted n o s → Does s (Install 1) out next → IsInstalled n out next
  installed-all {s = s} {next = next} {o = o} {printed = printed} {out = out} {cs = cs} said short one run r d =
      let g : Network = gen_fabric n in
      let l : LastRoutes = r.last in
      let may : may_install s.world l ≡ true = may-now s o r in
      let is : d.deed ≡ install_now s.world l 1 = installs-now l 1 r.are r.idle may d.is in
      let w : WorldState = adopted_by s.world l.mapper l.routes in
      let after : next.world ≡ (installation s.world l 1).world = does-world d ∙ ap (λ (x : Deed). acted_all s.world x.acts) is ∙ acted-installation s.world l 1 in
      let cost = runs-inject-few g (cs ++ Install 1 ∷ []) (printed ++ out) next k.fabric (all-join (IsCommandOf g) cs (Install 1 ∷ []) said (one, tt)) (runs-more (Install 1) out run d) in
      let long = length-append cs (Install 1 ∷ []) in
      let low : next.world.injected < last_count = omega (arith, cost, long, short) in
      let left : (installation s.world l 1).world.injected < last_count = subst (λ (v : WorldState). v.injected < last_count) after low in
      let acts : AllByRecursion (IsActOf g) cs = all-weaker (IsCommandOf g) (IsActOf g) cs (said-act g) said in
      let can : CanInstall (set_of s.world l) l.hosts w = run-can_install g cs printed s l k.fabric acts run r.are r.idle may in
      let counts : (installation s.world l 1).value ≡ length l.hosts = counts-all (set_of s.world l) l.hosts 1 w can (omega arith) left r.unplanned in
      let all : length l.hosts ≡ n = ap length r.hosts ∙ length-range_with_len 0 n in
      let shown : List Piece = lines (map (table_line (installation s.world l 1).world) l.hosts) in
      let prints : out ≡ OneLine (InstalledLine n n) ∷ shown = d.prints ∙ ap (λ (x : Deed). x.output) is ∙ (λ i. OneLine (InstalledLine ((counts ∙ all) i) (all i)) ∷ shown) in
      let line : IsInstalledLine s next 1 n n = line-true g cs printed shown s next 1 n n k.fabric acts run (subst (λ x. Does s (Install 1) x next) prints d) in
      let same : line.last ≡ l = same_Some line.last l (sym line.are ∙ r.are) in
      let tables : AllByRecursion (λ h. has_table next.world h ≡ true) (below n) = subst (AllByRecursion (λ h. has_table next.world h ≡ true)) (ap (λ (x : LastRoutes). x.hosts) same ∙ r.hosts) (line.all_tables refl) in
      record {
        figures = ap figures_in d.prints ∙ ap (λ (x : Deed). figures_in x.output) is ∙ install-figures s.world l 1 ∙ (λ i. FigureInstalled ((counts ∙ all) i) (all i) ∷ []);
        routed = λ h dest below there other.
            table-leads (node_at next.world h).table l.routes h dest (all-below (λ j. has_table next.world j ≡ true) 0 n h (omega arith) (omega (arith, below)) tables)
            (λ t e. subst (λ (x : LastRoutes). t.entries ≡ entries_from x.routes h) same (line.of_set h t e).entries) (r.joined h dest below there (λ e. other (sym e)));
      }
