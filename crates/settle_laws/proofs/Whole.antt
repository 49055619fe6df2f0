-- An adopted route of whose cables none was pulled leads its packets to its host, over cables of which none is new.
use Rattle.std.proofs.Common.{◌≡◌, ℕ, Bool, true, false, not, ◌&&◌, nat_eq, ℤ, List, [], ◌∷◌, map, Option, Some, None, is_some, option_map, refl, sym, ap, ◌∙◌, if◌then◌else◌}
use Rattle.std.specs.Prelude.{find}
use Rattle.std.specs.List.{AllByRecursion, filter, list_any}
use Rattle.std.specs.Option.{option_map_or}
use Rattle.net_defs.specs.declared.vertex.Vertex.{Vertex}
use Rattle.net_defs.specs.declared.vertex.Vertex.TheVariants.{Host, Switch}
use Rattle.net_defs.specs.declared.vertex.End.{End}
use Rattle.net_defs.specs.declared.place.Place.TheVariants.{Host as AtHostPlace}
use Rattle.net_defs.specs.declared.route.Route.{Route}
use Rattle.net_defs.specs.Network.{Network, ports_of, far}
use Rattle.net_defs.specs.Turn.{IsTurn}
use Rattle.net_defs.specs.Route.{entered_after, place, place_at, place_at_vertex, leaving_port, host_port}
use Rattle.world_defs.specs.History.{CableHistory, IsHistory, fabric_now}
use Rattle.world_defs.specs.Crossed.{channel_by, channels_by, channels_at, leaving, life_head, is_new, is_cut}
use Rattle.world_defs.proofs.Fewer.{none-far}
use Rattle.world_defs.proofs.ForLife.{leaving_over}
use Rattle.packet_defs.specs.declared.kind.Kind.TheVariants.{Gm}
use Rattle.packet_defs.specs.Packet.{packet_of, front_turn}
use Rattle.packet_defs.proofs.Packets.{packet_of-front}
use Rattle.world_defs.specs.declared.moved.Course.TheVariants.{Arrives, Enters, Drops}
use Rattle.world_defs.specs.declared.moved.Why.TheVariants.{NewCable}
use Rattle.world_defs.specs.Kinds.{is_mapping}
use Rattle.world_defs.specs.Switch.{out_by, aim_of}
use Rattle.world_defs.specs.Advance.{course, course_by_channel, course_out, course_at, course_into}
use Rattle.world_defs.specs.Mapping.{RouteEntry}
use Rattle.gm_defs.specs.declared.frame.ConnectionKey.{ConnectionKey}
use Rattle.world_defs.specs.Table.{at_in, route_of, table_route, entries_from}
use Rattle.world_defs.specs.Traffic.{adopted_routes, route_channels, is_cut_walk, is_broken}
use Rattle.world_defs.specs.World.{WorldState, node_at}
use Rattle.world_defs.specs.Acts.{IsReached}
use Rattle.world_defs.proofs.Cables.{reached-cables}
use Rattle.table_laws.proofs.Uncut.{StillLeaves, still-leaves, no-host, Uncut, none-any, test, stood, first-uncut, on-by}
use Rattle.settle_laws.proofs.Leading.{LeadsTo}
use Rattle.settle_laws.proofs.Routes.{route_by, has-active, table-route, route-leads}

-- The routes between two hosts, each unbroken.
pub record IsWhole (key : ConnectionKey) (w : WorldState) : Type 0 where
  pub there : is_broken w key.src key.dst ≡ false
  pub back : is_broken w key.dst key.src ≡ false

pub whole-same : (key : ConnectionKey) (w v : WorldState) → v.links.cables ≡ w.links.cables → v.adopted ≡ w.adopted → IsWhole key w → IsWhole key v
whole-same key w v c a is = record { there = same key.src key.dst ∙ is.there; back = same key.dst key.src ∙ is.back }
  where
    same : (from to : ℕ) → is_broken v from to ≡ is_broken w from to
    same from to =
        ap (λ h. option_map_or (λ walk. list_any (is_cut h) (channels_at h (at_in v.adopted) from walk)) (route_of (adopted_routes v) from to) false) c
        ∙ ap (λ o. is_broken (record w { adopted = o }) from to) a

-- The cable of a host, which isn't new.
pub record IsCabled (h : CableHistory) (host : ℕ) : Type 0 where
  pub channel : ℕ
  pub out : leaving h (host_port host) ≡ Some channel
  pub old : is_new h channel ≡ false

-- The walk leads from the host's cable, whatever the packet holds.
pub record WholeRoute (h : CableHistory) (from to : ℕ) (walk : List ℤ) : Type 0 where
  pub cabled : IsCabled h from
  pub leads : (payload : List ℕ) → LeadsTo h payload to walk cabled.channel

module _ (h : CableHistory) (is : IsHistory h) (payload : List ℕ) (to : ℕ) where
  -- the last channel
  arrives : (c : ℕ) (wire : List ℕ) → place_at (life_head h c) ≡ AtHostPlace to → course h c wire ≡ Arrives to
  arrives c wire e = by (life_head h c) e
    where
      at : (v : Vertex) (p : ℕ) → place_at_vertex v p ≡ AtHostPlace to → course_at h v p wire ≡ Arrives to
      at (Host a) p d = cc
      at (Switch s) p d = cc

      by : (o : Option End) → place_at o ≡ AtHostPlace to → course_into h o wire ≡ Arrives to
      by None d = cc
      by (Some d) g = at d.v d.p g

  -- the next channel
  enters : (c s p q next : ℕ) (turn : ℤ) (wire : List ℕ) → life_head h c ≡ Some (record { v = Switch s; p = p }) → front_turn wire ≡ Some turn → leaving_port (ports_of (stood h) (Switch s)) p turn ≡ Some q
      → StillLeaves h (record { v = Switch s; p = q }) next → course h c wire ≡ Enters next
  enters c s p q next turn wire comes front leaves still =
      let head : course h c wire ≡ course_into h (Some (record { v = Switch s; p = p })) wire = ap (λ o. course_into h o wire) comes in
      let by_turn : course_into h (Some (record { v = Switch s; p = p })) wire ≡ course_out h s wire (out_by (leaving_port (ports_of (fabric_now h) (Switch s)) p turn)) = ap (λ t. course_out h s wire (aim_of (ports_of (fabric_now h) (Switch s)) p t)) front in
      let by_port : course_out h s wire (out_by (leaving_port (ports_of (fabric_now h) (Switch s)) p turn)) ≡ course_by_channel h wire (leaving h (record { v = Switch s; p = q })) = ap (λ o. course_out h s wire (out_by o)) leaves in
      let by_channel : course_by_channel h wire (leaving h (record { v = Switch s; p = q })) ≡ course_by_channel h wire (Some next) = ap (course_by_channel h wire) still.out in
      let through : course_by_channel h wire (Some next) ≡ Enters next = ap (λ b. if b && not (is_mapping wire) then Drops NewCable else Enters next) still.old in
      head ∙ by_turn ∙ by_port ∙ by_channel ∙ through

  exit-leads : (turns : List ℤ) (x : End) (c : ℕ) → AllByRecursion IsTurn turns → channel_by (test h) 0 h.wires x ≡ Some c → place_at (entered_after (stood h) (far (stood h) x) turns) ≡ AtHostPlace to → Uncut h (channels_by h (test h) (Some x) turns) → LeadsTo h payload to turns c
  exit-leads [] x c all e at uncut = arrives c (packet_of [] Gm payload) (ap place_at (leaving_over h (test h) x c e).head ∙ at)
  exit-leads (turn ∷ turns) x c all e at uncut =
      let o = on-by h to turn turns x c e at uncut in
      let y : End = record { v = Switch o.switch; p = o.port } in
      let comes : life_head h c ≡ Some (record { v = Switch o.switch; p = o.entry }) = (leaving_over h (test h) x c e).head ∙ o.comes in
      let still = still-leaves h y o.next is o.out (first-uncut h y o.next turns o.out o.uncut) in
      (o.next, (enters c o.switch o.entry o.port o.next turn (packet_of (turn ∷ turns) Gm payload) comes (packet_of-front turn turns Gm payload all.0) o.leaves still, exit-leads turns y o.next all.1 o.out o.leads o.uncut))

pub route-whole : (h : CableHistory) (from to : ℕ) (walk : List ℤ) → IsHistory h → AllByRecursion IsTurn walk → place (stood h) from walk ≡ AtHostPlace to → list_any (is_cut h) (channels_at h h.accepted from walk) ≡ false → WholeRoute h from to walk
route-whole h from to walk is turns at uncut = by (channel_by (test h) 0 h.wires (host_port from)) refl
  where
    all : Uncut h (channels_at h h.accepted from walk)
    all = none-any h (channels_at h h.accepted from walk) uncut

    by : (o : Option ℕ) → channel_by (test h) 0 h.wires (host_port from) ≡ o → WholeRoute h from to walk
    by None e = absurd (no-host (stood h) to (far (stood h) (host_port from)) walk (none-far (test h) 0 h.wires (host_port from) e) at)
    by (Some c) e =
        let still = still-leaves h (host_port from) c is e (first-uncut h (host_port from) c walk e all) in
        record {
          cabled = record { channel = c; out = still.out; old = still.old };
          leads = λ payload. exit-leads h is payload to walk (host_port from) c turns e at all;
        }

-- the route of a set as a table has it is the set's
by-of : (routes : List Route) (from to : ℕ) → route_by routes from to ≡ route_of routes from to
by-of [] from to = refl
by-of (r ∷ rs) from to = by (nat_eq r.from from) (by-of rs from to)
  where
    rest : List RouteEntry
    rest = entries_from rs from

    found : (b : Bool) → route_by rs from to ≡ route_of rs from to
        → option_map (λ (e : RouteEntry). e.walk) (if b then Some (record { to = r.to; walk = r.walk }) else find (λ e. nat_eq e.to to) rest)
        ≡ option_map (λ (x : Route). x.walk) (if b then Some r else find (λ x. nat_eq x.from from && nat_eq x.to to) rs)
    found true e = refl
    found false e = e

    by : (a : Bool) → route_by rs from to ≡ route_of rs from to
        → option_map (λ (e : RouteEntry). e.walk) (find (λ e. nat_eq e.to to) (map (λ x. record { to = x.to; walk = x.walk }) (if a then r ∷ filter (λ x. nat_eq x.from from) rs else filter (λ x. nat_eq x.from from) rs)))
        ≡ option_map (λ (x : Route). x.walk) (if a && nat_eq r.to to then Some r else find (λ x. nat_eq x.from from && nat_eq x.to to) rs)
    by true e = found (nat_eq r.to to) e
    by false e = e

-- so a table's route that isn't broken leads from a cable to its host
pub table-whole : (n : Network) (w : WorldState) (h dest : ℕ) (walk : List ℤ) → IsReached n w → table_route (node_at w h).table dest ≡ Some walk → is_broken w h dest ≡ false → WholeRoute w.links.cables h dest walk
table-whole n w h dest walk is e whole =
    let k = reached-cables n w is in
    let led = route-leads n w h dest walk is e in
    let active = has-active (node_at w h).table dest (ap is_some e) in
    let route : route_of (adopted_routes w) h dest ≡ Some walk = sym (by-of (adopted_routes w) h dest) ∙ (sym (table-route n w h dest is active) ∙ e) in
    let uncut : list_any (is_cut w.links.cables) (route_channels w h walk) ≡ false = sym (ap (λ o. option_map_or (is_cut_walk w h) o false) route) ∙ whole in
    route-whole w.links.cables h dest walk k.history led.1 led.0 (ap (λ j. list_any (is_cut w.links.cables) (channels_at w.links.cables j h walk)) k.accepted ∙ uncut)
