-- Where a packet comes that was built, and what a host hears of it.
use Rattle.std.proofs.Common.{◌≡◌, ◌≢◌, ◌<◌, ◌+◌, ℕ, suc, true, false, nat_le, ℤ, List, [], ◌∷◌, length, Option, Some, None, Ok, Err, refl, sym, ap, ◌∙◌, subst, arith, if◌then◌else◌}
use Rattle.std.specs.List.{AllByRecursion, slice_get}
use Rattle.std.specs.Option.{option_and_then}
use Rattle.std.proofs.lemmas.List.{set-get_or}
use Rattle.std.proofs.lemmas.Bool.Decides.{nat_tests}
use Rattle.net_defs.specs.declared.vertex.Vertex.{Vertex}
use Rattle.net_defs.specs.declared.vertex.Vertex.TheVariants.{Host, Switch}
use Rattle.net_defs.specs.declared.vertex.End.{End}
use Rattle.net_defs.specs.declared.place.Place.{Place}
use Rattle.net_defs.specs.declared.place.Place.TheVariants.{Host as AtHostPlace, Nothing as Stuck}
use Rattle.net_defs.specs.Turn.{IsTurn}
use Rattle.net_defs.specs.Route.{place, place_at, host_port}
use Rattle.packet_defs.specs.declared.kind.Kind.{Kind}
use Rattle.packet_defs.specs.declared.kind.Kind.TheVariants.{Mapping}
use Rattle.packet_defs.specs.declared.host_drop.HostDrop.{HostDrop}
use Rattle.packet_defs.specs.declared.host_drop.HostDrop.TheVariants.{BadCrc, RouteLeft}
use Rattle.packet_defs.specs.Crc.{crc}
use Rattle.packet_defs.specs.RouteByte.{route_byte, turn_of}
use Rattle.packet_defs.specs.Packet.{head_of, packet_of, head, difference, front_turn, stripped}
use Rattle.packet_defs.specs.Host.{has_route, decode}
use Rattle.packet_defs.proofs.Packets.{head-push, packet_of-difference, packet_of-stripped}
use Rattle.packet_defs.proofs.Hosts.{decode-packet_of, decode-difference}
use Rattle.world_defs.specs.declared.moved.Why.{Why}
use Rattle.world_defs.specs.declared.moved.Why.TheVariants.{OutOfRange, NotRoute, NoCable, NewCable}
use Rattle.world_defs.specs.declared.moved.Course.{Course}
use Rattle.world_defs.specs.declared.moved.Course.TheVariants.{Drops}
use Rattle.world_defs.specs.declared.moved.Moved.{Moved}
use Rattle.world_defs.specs.declared.moved.Moved.TheVariants.{To, AtHost, Dropped as MovedDropped, Blocked as MovedBlocked, Empty}
use Rattle.world_defs.specs.History.{CableHistory, fabric_now}
use Rattle.world_defs.specs.Crossed.{leaving, life_head}
use Rattle.world_defs.specs.Advance.{course, course_into}
use Rattle.world_defs.specs.Lone.{dropped_place, ended_place, lone_place}
use Rattle.world_defs.proofs.HopsLeft.{course_into-enters}
use Rattle.world_defs.proofs.LonePackets.{lone-place}
use Rattle.world_defs.specs.Mapping.{MappingBody, mapping_bytes, is_mapping}
use Rattle.world_defs.proofs.Mappings.{mapping-read}
use Rattle.world_defs.specs.declared.effect.Effect.{Effect}
use Rattle.world_defs.specs.declared.arrival.Arrival.TheVariants.{Dropped}
use Rattle.world_defs.specs.Node.{NodeState, new_node}
use Rattle.world_defs.specs.Hearing.{OfMapper, mapping_read, hear_body, hear}
use Rattle.world_defs.specs.World.{WorldState, host_count, node_at, with_links}
use Rattle.world_defs.specs.Step.{arrived}
use Rattle.world_defs.proofs.Hearings.{heard-as}
use Rattle.ask_laws.proofs.Lone.{bare, Goes, goes-difference}
use Rattle.ask_laws.proofs.Drained.{told, landed_in}

-- a host takes the packet where its walk ends there, and else none takes it
pub data Comes (p : Place) (kind : Kind) (payload : List ℕ) (m : Moved (List ℕ)) : Type 0 where
  taken : (h : ℕ) → p ≡ AtHostPlace h → m ≡ AtHost h (packet_of [] kind payload) → Comes p kind payload m
  left_over : ((h : ℕ) → p ≢ AtHostPlace h) → ((h : ℕ) (wire : List ℕ) → m ≡ AtHost h wire → decode wire ≡ Err RouteLeft) → Comes p kind payload m

-- a packet with a turn left has a route, and one without turns has none
has_route-turn : (turn : ℤ) (route : List ℤ) (kind : Kind) (payload : List ℕ) → has_route (head (packet_of (turn ∷ route) kind payload)) ≡ true
has_route-turn turn route kind payload =
    let h = head_of (turn ∷ route) kind payload in
    let high : nat_le 128 (route_byte turn) ≡ true = grind (arith, nat_tests) in
    ap has_route (head-push h (crc h)) ∙ high

has_route-none : (kind : Kind) (payload : List ℕ) → has_route (head (packet_of [] kind payload)) ≡ false
has_route-none kind payload = let h = head_of [] kind payload in ap has_route (head-push h (crc h))

no_turn : (kind : Kind) (payload : List ℕ) (turn : ℤ) → front_turn (packet_of [] kind payload) ≡ Some turn → ⊥
no_turn kind payload turn e =
    let h = head_of [] kind payload in
    let none : front_turn (packet_of [] kind payload) ≡ None = ap (λ l. option_and_then turn_of (slice_get l 0)) (head-push h (crc h)) in
    let bad : None ≡ Some turn = sym none ∙ e in cc

route-left : (turn : ℤ) (route : List ℤ) (kind : Kind) (payload : List ℕ) → decode (packet_of (turn ∷ route) kind payload) ≡ Err RouteLeft
route-left turn route kind payload = rw (packet_of-difference (turn ∷ route) kind payload, has_route-turn turn route kind payload) refl

-- a switch that drops a packet is no host
dropped-elsewhere : (cables : CableHistory) (c : ℕ) (wire : List ℕ) (why : Why) (h : ℕ) → course cables c wire ≡ Drops why → dropped_place cables c why ≢ AtHostPlace h
dropped-elsewhere cables c wire OutOfRange h e is = cc
dropped-elsewhere cables c wire NoCable h e is = cc
dropped-elsewhere cables c wire NewCable h e is = cc
dropped-elsewhere cables c wire NotRoute h e is = by (life_head cables c) e is
  where
    at : (v : Vertex) (p : ℕ) → course_into cables (Some (record { v = v; p = p })) wire ≡ Drops NotRoute → place_at (Some (record { v = v; p = p })) ≢ AtHostPlace h
    at (Host g) p f q = cc
    at (Switch s) p f q = cc

    by : (o : Option End) → course_into cables o wire ≡ Drops NotRoute → place_at o ≢ AtHostPlace h
    by None f q = cc
    by (Some d) f q = at d.v d.p f q

abbrev ended_by : CableHistory → ℕ → List ℕ → ℕ → Course → Place
ended_by cables c wire k to = ended_place cables c wire (λ next. lone_place k cables next (stripped wire)) to

one_more : (m : ℕ) → suc m + 1 ≡ suc (m + 1)
one_more m = omega arith

-- the last turn is taken
comes-none : (cables : CableHistory) (c : ℕ) (kind : Kind) (payload : List ℕ) (m : Moved (List ℕ)) → Goes cables c (packet_of [] kind payload) m → Comes (ended_by cables c (packet_of [] kind payload) 0 (course cables c (packet_of [] kind payload))) kind payload m
comes-none cables c kind payload m (Goes.to_host h e is) =
    let wire : List ℕ = packet_of [] kind payload in
    Comes.taken h (ap (ended_by cables c wire 0) e ∙ ap (λ b. if b then Stuck else AtHostPlace h) (has_route-none kind payload)) is
comes-none cables c kind payload m (Goes.nowhere why e is) =
    let wire : List ℕ = packet_of [] kind payload in
    Comes.left_over (λ h p. dropped-elsewhere cables c wire why h e (sym (ap (ended_by cables c wire 0) e) ∙ p)) (λ h at p. let bad : MovedDropped why ≡ AtHost h at = sym is ∙ p in cc)
comes-none cables c kind payload m (Goes.further next e g) =
    let t = course_into-enters cables (life_head cables c) (packet_of [] kind payload) next e in absurd (no_turn kind payload t.0 t.1)

-- a turn is left
comes-turn : (cables : CableHistory) (c : ℕ) (turn : ℤ) (route : List ℤ) (kind : Kind) (payload : List ℕ) (m : Moved (List ℕ)) → Goes cables c (packet_of (turn ∷ route) kind payload) m
    → ((next : ℕ) → Goes cables next (packet_of route kind payload) m → Comes (lone_place (length route + 1) cables next (packet_of route kind payload)) kind payload m)
    → Comes (ended_by cables c (packet_of (turn ∷ route) kind payload) (length route + 1) (course cables c (packet_of (turn ∷ route) kind payload))) kind payload m
comes-turn cables c turn route kind payload m (Goes.to_host h e is) rest =
    let wire : List ℕ = packet_of (turn ∷ route) kind payload in
    let k : ℕ = length route + 1 in
    let stuck : ended_by cables c wire k (course cables c wire) ≡ Stuck = ap (ended_by cables c wire k) e ∙ ap (λ b. if b then Stuck else AtHostPlace h) (has_route-turn turn route kind payload) in
    Comes.left_over (λ g p. let bad : Stuck ≡ AtHostPlace g = sym stuck ∙ p in cc)
    (λ g at p. let same : at ≡ wire = at-same g at wire h (sym p ∙ is) in ap decode same ∙ route-left turn route kind payload)
  where
    at-same : (g : ℕ) (at wire : List ℕ) (h : ℕ) → (let r : Moved (List ℕ) = AtHost g at in r) ≡ AtHost h wire → at ≡ wire
    at-same g at wire h e = cc
comes-turn cables c turn route kind payload m (Goes.nowhere why e is) rest =
    let wire : List ℕ = packet_of (turn ∷ route) kind payload in
    let k : ℕ = length route + 1 in
    Comes.left_over (λ h p. dropped-elsewhere cables c wire why h e (sym (ap (ended_by cables c wire k) e) ∙ p)) (λ h at p. let bad : MovedDropped why ≡ AtHost h at = sym is ∙ p in cc)
comes-turn cables c turn route kind payload m (Goes.further next e g) rest =
    let wire : List ℕ = packet_of (turn ∷ route) kind payload in
    let k : ℕ = length route + 1 in
    let less : stripped wire ≡ packet_of route kind payload = packet_of-stripped turn route kind payload in
    let on : ended_by cables c wire k (course cables c wire) ≡ lone_place k cables next (packet_of route kind payload) = ap (ended_by cables c wire k) e ∙ ap (lone_place k cables next) less in
    subst (λ p. Comes p kind payload m) (sym on) (rest next (subst (λ x. Goes cables next x m) less g))

comes : (cables : CableHistory) (c : ℕ) (route : List ℤ) (kind : Kind) (payload : List ℕ) (m : Moved (List ℕ)) → Goes cables c (packet_of route kind payload) m → Comes (lone_place (length route + 1) cables c (packet_of route kind payload)) kind payload m
comes cables c [] kind payload m g = comes-none cables c kind payload m g
comes cables c (turn ∷ route) kind payload m g =
    let wire : List ℕ = packet_of (turn ∷ route) kind payload in
    let more : lone_place (length (turn ∷ route) + 1) cables c wire ≡ lone_place (suc (length route + 1)) cables c wire = ap (λ k. lone_place k cables c wire) (one_more (length route)) in
    subst (λ p. Comes p kind payload m) (sym more) (comes-turn cables c turn route kind payload m g (λ next h. comes cables next route kind payload m h))

-- a packet of the mapper's protocol that goes as it was built comes to the place of its walk
pub built-comes : (cables : CableHistory) (host c : ℕ) (route : List ℤ) (payload : List ℕ) (m : Moved (List ℕ)) → AllByRecursion IsTurn route → leaving cables (host_port host) ≡ Some c → Goes cables c (packet_of route Mapping payload) m → Comes (place (fabric_now cables) host route) Mapping payload m
built-comes cables host c route payload m turns at g =
    subst (λ p. Comes p Mapping payload m) (lone-place cables host route payload c turns at) (comes cables c route Mapping payload m g)

-- what a host hears of a body of the mapper's protocol
pub hear-body : (h hosts : ℕ) (n : NodeState) (b : MappingBody) → is_mapping b ≡ true → hear h hosts n (packet_of [] Mapping (mapping_bytes b)) ≡ hear_body h hosts n (OfMapper b)
hear-body h hosts n b is =
    heard-as h hosts n (packet_of [] Mapping (mapping_bytes b)) (Ok (Mapping, mapping_bytes b)) (decode-packet_of Mapping (mapping_bytes b)) ∙ ap (λ o. hear_body h hosts n (mapping_read o)) (mapping-read b is)

-- A packet left the links unheard.
pub record Unheard (v : WorldState) (r : Effect × WorldState) : Type 0 where
  pub heard : told (r.0 ∷ []) ≡ []
  pub nodes : r.1.nodes ≡ v.nodes
  pub clients : r.1.clients ≡ v.clients
  pub adopted : r.1.adopted ≡ v.adopted
  pub plan : r.1.plan ≡ v.plan
  pub injected : r.1.injected ≡ v.injected
  pub struck : r.1.struck ≡ v.struck
  pub harmed : r.1.harmed ≡ v.harmed

-- each host to which it comes drops it
pub record IsDropped (wire : List ℕ) : Type 0 where
  pub drop : HostDrop
  pub is : decode wire ≡ Err drop

pub unheard : (v : WorldState) (m : Moved (List ℕ)) → ((h : ℕ) (wire : List ℕ) → m ≡ AtHost h wire → IsDropped wire) → Unheard v (landed_in v m)
unheard v (To next) all = record { heard = refl; nodes = refl; clients = refl; adopted = refl; plan = refl; injected = refl; struck = refl; harmed = refl }
unheard v (MovedDropped why) all = record { heard = refl; nodes = refl; clients = refl; adopted = refl; plan = refl; injected = refl; struck = refl; harmed = refl }
unheard v (MovedBlocked next) all = record { heard = refl; nodes = refl; clients = refl; adopted = refl; plan = refl; injected = refl; struck = refl; harmed = refl }
unheard v Empty all = record { heard = refl; nodes = refl; clients = refl; adopted = refl; plan = refl; injected = refl; struck = refl; harmed = refl }
unheard v (AtHost h wire) all =
    let d = all h wire refl in
    let base : WorldState = with_links v (bare v.links) in
    let e : arrived base h (hear h (host_count v) (node_at v h) wire) ≡ arrived base h (Dropped d.drop, node_at v h) = ap (arrived base h) (heard-as h (host_count v) (node_at v h) wire (Err d.drop) d.is) in
    let same : Unheard v (arrived base h (Dropped d.drop, node_at v h)) = record { heard = refl; nodes = set-get_or v.nodes h (new_node 0); clients = refl; adopted = refl; plan = refl; injected = refl; struck = refl; harmed = refl } in
    subst (Unheard v) (sym e) same

-- a packet with a difference is dropped at each host
pub marred-dropped : (cables : CableHistory) (c : ℕ) (wire : List ℕ) (m : Moved (List ℕ)) → Goes cables c wire m → 0 < difference wire → (h : ℕ) (at : List ℕ) → m ≡ AtHost h at → IsDropped at
marred-dropped cables c wire m g some h at is =
    let e = goes-difference cables c wire m g h at is in
    record { drop = BadCrc; is = decode-difference at (subst (λ x. 0 < x) (sym e) some) }
