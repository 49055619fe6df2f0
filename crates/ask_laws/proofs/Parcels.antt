-- A packet of the mapper's protocol that is sent into idle links: a fault strikes it, or it comes where its route leads.
use Rattle.std.proofs.Common.{◌≡◌, ◌≢◌, ◌<◌, ◌≤◌, ◌+◌, ℕ, Bool, true, false, ◌&&◌, nat_eq, ℤ, List, [], ◌∷◌, ◌++◌, set, Option, Some, None, refl, sym, ap, ◌∙◌, subst, arith, true≢false}
use Rattle.std.specs.List.{AllByRecursion}
use Rattle.std.specs.Prelude.{option_to_list}
use Rattle.std.specs.Map.{lookup}
use Rattle.net_defs.specs.declared.place.Place.TheVariants.{Host as AtHostPlace, Nothing as Stuck}
use Rattle.net_defs.specs.declared.vertex.End.{End}
use Rattle.net_defs.specs.Turn.{IsTurn}
use Rattle.net_defs.specs.Route.{place, host_port}
use Rattle.world_defs.specs.History.{CableHistory, IsHistory, fabric_now, is_in_place}
use Rattle.world_defs.specs.Crossed.{leaving, is_standing, is_new}
use Rattle.world_defs.specs.Later.{OnlyPulled}
use Rattle.world_defs.proofs.ForLife.{leaving_has_its_end, standing_leaves}
use Rattle.world_defs.proofs.Fewer.{fewer_front}
use Rattle.world_defs.proofs.Now.{now_is_fabric}
use Rattle.world_defs.proofs.CablesLater.{pulled-later, later-kept, pulled-fewer, later_keeps_channels}
use Rattle.packet_defs.specs.declared.kind.Kind.TheVariants.{Mapping}
use Rattle.packet_defs.specs.declared.host_drop.HostDrop.TheVariants.{RouteLeft}
use Rattle.packet_defs.specs.Packet.{packet_of, difference}
use Rattle.packet_defs.proofs.Packets.{packet_of-difference}
use Rattle.world_defs.specs.declared.moved.Moved.{Moved}
use Rattle.world_defs.proofs.LonePackets.{no_channel-place}
use Rattle.world_defs.specs.Mapping.{MappingBody, mapping_bytes, is_mapping}
use Rattle.world_defs.specs.declared.effect.Effect.{Effect}
use Rattle.world_defs.specs.Node.{Outgoing, is_message, to_send, packet_for, after_sending}
use Rattle.world_defs.specs.Hearing.{OfMapper, hear_body}
use Rattle.world_defs.specs.World.{WorldState, fabric_of, host_count, last_count, node_at, with_links}
use Rattle.world_defs.specs.Step.{arrived}
use Rattle.world_defs.proofs.LogViews.{Sent, sends}
use Rattle.world_defs.specs.EightBits.{IsByteFault, HasByteFaults}
use Rattle.ask_laws.proofs.Lone.{bare, IsBare, Goes}
use Rattle.ask_laws.proofs.Drained.{told, landed_in, Lands}
use Rattle.ask_laws.proofs.Struck.{StrikeKeeps}
use Rattle.ask_laws.proofs.Sends.{IsOut, Flight, Unsent, Sending, sending}
use Rattle.ask_laws.proofs.Comes.{Comes, built-comes, hear-body, Unheard, unheard, marred-dropped}

-- What is sent is a packet of a route and a body by the rules.
pub record IsParcel (w : WorldState) (h : ℕ) (out : Outgoing) (route : List ℤ) (body : MappingBody) : Type 0 where
  pub written : packet_for h (w.injected + 1) out ≡ packet_of route Mapping (mapping_bytes body)
  pub turns : AllByRecursion IsTurn route
  pub valid : is_mapping body ≡ true

-- The world after a send of which nothing was heard.
pub record SendKeeps (w : WorldState) (h : ℕ) (out : Outgoing) (t : WorldState) : Type 0 where
  pub pulled : OnlyPulled w.links.cables t.links.cables
  pub bare : IsBare t.links
  pub nodes : t.nodes ≡ set w.nodes h (after_sending (node_at w h) out)
  pub clients : t.clients ≡ w.clients
  pub adopted : t.adopted ≡ w.adopted
  pub injected : t.injected ≡ w.injected + 1
  pub unplanned : (number : ℕ) → lookup (nat_eq number) w.plan ≡ None → lookup (nat_eq number) t.plan ≡ None
  pub byte_flips : HasByteFaults w → HasByteFaults t
  pub struck : w.struck ≤ t.struck
  pub harmed : w.harmed ≤ t.harmed

-- what a host made of a body
abbrev pub hears_in : WorldState → ℕ → MappingBody → Effect × WorldState
hears_in base g body = arrived base g (hear_body g (host_count base) (node_at base g) (OfMapper body))

-- What became of it.
pub data Delivery (w : WorldState) (h : ℕ) (out : Outgoing) (route : List ℤ) (body : MappingBody) (s : Sent) : Type 0 where
  no_cable : ((g : ℕ) → place (fabric_of s.world) h route ≢ AtHostPlace g) → s.used_up ≡ false → s.number ≡ None → told s.effects ≡ [] → s.world ≡ w → Delivery w h out route body s
  none_left : last_count ≤ w.injected → s.used_up ≡ true → s.number ≡ None → told s.effects ≡ [] → s.world ≡ w → Delivery w h out route body s
  struck : s.used_up ≡ false → s.number ≡ Some (w.injected + 1) → told s.effects ≡ [] → SendKeeps w h out s.world → w.harmed < s.world.harmed → lookup (nat_eq (w.injected + 1)) w.plan ≢ None → Delivery w h out route body s
  astray : s.used_up ≡ false → s.number ≡ Some (w.injected + 1) → told s.effects ≡ [] → SendKeeps w h out s.world → s.world.harmed ≡ w.harmed → ((g : ℕ) → place (fabric_of s.world) h route ≢ AtHostPlace g) → Delivery w h out route body s
  delivered : (g : ℕ) (base : WorldState) → w.injected < last_count → s.used_up ≡ false → s.number ≡ Some (w.injected + 1) → place (fabric_of base) h route ≡ AtHostPlace g → SendKeeps w h out base → base.harmed ≡ w.harmed → s.world ≡ (hears_in base g body).1 → told s.effects ≡ told ((hears_in base g body).0 ∷ []) → Delivery w h out route body s

-- the world after a strike, but for the links
record Rest (v t : WorldState) : Type 0 where
  cables : t.links.cables ≡ v.links.cables
  empty : IsBare t.links
  nodes : t.nodes ≡ v.nodes
  clients : t.clients ≡ v.clients
  adopted : t.adopted ≡ v.adopted
  plan : t.plan ≡ v.plan
  injected : t.injected ≡ v.injected
  struck : t.struck ≡ v.struck
  harmed : t.harmed ≡ v.harmed

keeps-of : (w : WorldState) (h c : ℕ) (out : Outgoing) (u v t : WorldState) → IsOut w h c out u → StrikeKeeps u v → Rest v t → SendKeeps w h out t
keeps-of w h c out u v t o k r =
    let s0 = o.struck in
    let s1 = k.struck in
    let s2 = r.struck in
    let h0 = o.harmed in
    let h1 = k.harmed in
    let h2 = r.harmed in
    record {
      pulled = subst (λ x. OnlyPulled x t.links.cables) o.cables (subst (λ x. OnlyPulled u.links.cables x) (sym r.cables) k.pulled);
      bare = r.empty;
      nodes = r.nodes ∙ k.nodes ∙ o.nodes;
      clients = r.clients ∙ k.clients ∙ o.clients;
      adopted = r.adopted ∙ k.adopted ∙ o.adopted;
      injected = r.injected ∙ k.injected ∙ o.injected;
      unplanned = λ number e. ap (lookup (nat_eq number)) r.plan ∙ k.unplanned number (ap (lookup (nat_eq number)) o.plan ∙ e);
      byte_flips = λ all. subst (AllByRecursion (λ f. IsByteFault f.1)) (sym r.plan) (k.byte_flips (subst (AllByRecursion (λ f. IsByteFault f.1)) (sym o.plan) all));
      struck = omega (arith, s0, s1, s2);
      harmed = omega (arith, h0, h1, h2);
    }

rest-same : (v t : WorldState) → IsBare v.links → t ≡ v → Rest v t
rest-same v t e is =
    subst (Rest v) (sym is) (record { cables = refl; empty = e; nodes = refl; clients = refl; adopted = refl; plan = refl; injected = refl; struck = refl; harmed = refl })

rest-bare : (v : WorldState) → Rest v (with_links v (bare v.links))
rest-bare v = record { cables = refl; empty = refl; nodes = refl; clients = refl; adopted = refl; plan = refl; injected = refl; struck = refl; harmed = refl }

rest-landed : (v : WorldState) (m : Moved (List ℕ)) (s : Sent) → Lands v m (s.effects, s.world) → Unheard v (landed_in v m) → Rest v s.world
rest-landed v m s l q = record {
  cables = ap (λ x. x.cables) l.links;
  empty = subst IsBare (sym l.links) refl;
  nodes = ap (λ x. x.nodes) l.world ∙ q.nodes;
  clients = ap (λ x. x.clients) l.world ∙ q.clients;
  adopted = ap (λ x. x.adopted) l.world ∙ q.adopted;
  plan = ap (λ x. x.plan) l.world ∙ q.plan;
  injected = ap (λ x. x.injected) l.world ∙ q.injected;
  struck = ap (λ x. x.struck) l.world ∙ q.struck;
  harmed = ap (λ x. x.harmed) l.world ∙ q.harmed;
}

-- the cables are still a history
history-struck : (w : WorldState) (h c : ℕ) (out : Outgoing) (u v : WorldState) → IsHistory w.links.cables → IsOut w h c out u → StrikeKeeps u v → IsHistory v.links.cables
history-struck w h c out u v is o k = let kept = later-kept (pulled-later k.pulled) in kept.history (subst IsHistory (sym o.cables) is)

came : (w : WorldState) (h c : ℕ) (out : Outgoing) (route : List ℤ) (body : MappingBody) (s : Sent) (u v : WorldState) (m : Moved (List ℕ)) → w.injected < last_count → s.used_up ≡ false → s.number ≡ Some (w.injected + 1) → is_mapping body ≡ true → IsOut w h c out u → StrikeKeeps u v → v.harmed ≡ w.harmed → Lands v m (s.effects, s.world) → Comes (place (fabric_of v) h route) Mapping (mapping_bytes body) m → Delivery w h out route body s
came w h c out route body s u v m low used number valid o k e l (Comes.taken g p q) =
    let base : WorldState = with_links v (bare v.links) in
    let r : landed_in v m ≡ hears_in base g body = ap (landed_in v) q ∙ ap (arrived base g) (hear-body g (host_count v) (node_at v g) body valid) in
    Delivery.delivered g base low used number p (keeps-of w h c out u v base o k (rest-bare v)) e (l.world ∙ ap (λ x. x.1) r) (l.heard ∙ ap (λ x. told (x.0 ∷ [])) r)
came w h c out route body s u v m low used number valid o k e l (Comes.left_over p q) =
    let quiet = unheard v m (λ g wire is. record { drop = RouteLeft; is = q g wire is }) in
    let r = rest-landed v m s l quiet in
    let same : fabric_of s.world ≡ fabric_of v = ap fabric_now r.cables in
    Delivery.astray used number (l.heard ∙ quiet.heard) (keeps-of w h c out u v s.world o k r) (r.harmed ∙ e) (λ g there. p g (sym (ap (λ x. place x h route) same) ∙ there))

-- a channel that stands after a strike is the one that leaves its host, as before
leaves-on : (w : WorldState) (h c : ℕ) (out : Outgoing) (u v : WorldState) → leaving w.links.cables (host_port h) ≡ Some c → IsHistory v.links.cables → IsOut w h c out u → StrikeKeeps u v → is_standing v.links.cables c ≡ is_standing w.links.cables c → leaving v.links.cables (host_port h) ≡ Some c
leaves-on w h c out u v at is o k stays =
    let l = leaving_has_its_end w.links.cables (host_port h) c at in
    let only : OnlyPulled w.links.cables v.links.cables = subst (λ x. OnlyPulled x v.links.cables) o.cables k.pulled in
    let kept = later_keeps_channels w.links.cables v.links.cables c (pulled-later only) l.there in
    standing_leaves v.links.cables c (host_port h) is (kept.tail ∙ l.tail) (stays ∙ l.in_place)

-- no channel, no place
stuck-place : (cables : CableHistory) (host h : ℕ) (route : List ℤ) → leaving cables (host_port host) ≡ None → place (fabric_now cables) host route ≢ AtHostPlace h
stuck-place cables host h route none is = let bad : Stuck ≡ AtHostPlace h = sym (no_channel-place cables host route none) ∙ is in cc

-- over fewer cables no other channel leaves a host
first-in : (o : Option ℕ) (c d : ℕ) (rest : List ℕ) → o ≡ Some c → option_to_list o ≡ d ∷ rest → d ≡ c
first-in o c d rest e f = let same : c ∷ [] ≡ d ∷ rest = sym (ap option_to_list e) ∙ f in cc

one-leaves : (g h : CableHistory) (x : End) (c d : ℕ) → IsHistory h → OnlyPulled h g → leaving h x ≡ Some c → leaving g x ≡ Some d → d ≡ c
one-leaves g h x c d is only e f =
    let front = fewer_front g h is_in_place is_in_place (Some x) [] (now_is_fabric h is) (pulled-fewer only) in
    first-in (leaving h x) c d front.rest e (front.whole ∙ ap (λ o. option_to_list o ++ front.rest) f)

-- so where its cable was pulled, a host has none
cut-place : (w : WorldState) (h c : ℕ) (out : Outgoing) (u v : WorldState) (route : List ℤ) (g : ℕ) → IsHistory w.links.cables → leaving w.links.cables (host_port h) ≡ Some c → IsOut w h c out u → StrikeKeeps u v → is_standing v.links.cables c ≡ false → place (fabric_of v) h route ≢ AtHostPlace g
cut-place w h c out u v route g is at o k gone there = by (leaving v.links.cables (host_port h)) refl
  where
    by : (x : Option ℕ) → leaving v.links.cables (host_port h) ≡ x → ⊥
    by None e = stuck-place v.links.cables h g route e there
    by (Some d) e =
        let only : OnlyPulled w.links.cables v.links.cables = subst (λ x. OnlyPulled x v.links.cables) o.cables k.pulled in
        let same : d ≡ c = one-leaves v.links.cables w.links.cables (host_port h) c d is only at e in
        let stands = (leaving_has_its_end v.links.cables (host_port h) d e).in_place in
        absurd (true≢false (sym stands ∙ ap (is_standing v.links.cables) same ∙ gone))

flown : (w : WorldState) (h c : ℕ) (out : Outgoing) (route : List ℤ) (body : MappingBody) (s : Sent) → HasByteFaults w → leaving w.links.cables (host_port h) ≡ Some c → IsHistory w.links.cables → w.injected < last_count → s.used_up ≡ false → s.number ≡ Some (w.injected + 1) → IsParcel w h out route body → Flight w h c out s → Delivery w h out route body s
flown w h c out route body s flips at is low used number parcel (Flight.lands u v m o k same e g l) =
    let goes : Goes w.links.cables c (packet_of route Mapping (mapping_bytes body)) m = subst (λ x. Goes w.links.cables c x m) parcel.written g in
    let comes = built-comes w.links.cables h c route (mapping_bytes body) m parcel.turns at goes in
    came w h c out route body s u v m low used number parcel.valid o k e l (subst (λ x. Comes (place (fabric_now x) h route) Mapping (mapping_bytes body) m) (sym same) comes)
flown w h c out route body s flips at is low used number parcel (Flight.cut_off u v o k more e b gone heard same) =
    let r = rest-same v s.world b same in
    let now : fabric_of s.world ≡ fabric_of v = ap fabric_now r.cables in
    Delivery.astray used number heard (keeps-of w h c out u v s.world o k r) (r.harmed ∙ e) (λ g there. cut-place w h c out u v route g is at o k gone (sym (ap (λ x. place x h route) now) ∙ there))
flown w h c out route body s flips at is low used number parcel (Flight.cut_on u v m o k more e stays g l) =
    let here = history-struck w h c out u v is o k in
    let goes : Goes v.links.cables c (packet_of route Mapping (mapping_bytes body)) m = subst (λ x. Goes v.links.cables c x m) parcel.written g in
    let comes = built-comes v.links.cables h c route (mapping_bytes body) m parcel.turns (leaves-on w h c out u v at here o k stays) goes in
    came w h c out route body s u v m low used number parcel.valid o k e l comes
flown w h c out route body s flips at is low used number parcel (Flight.lost u v o k more planned b heard same) =
    let harm : w.harmed < s.world.harmed = subst (λ x. w.harmed < x.harmed) (sym same) more in
    Delivery.struck used number heard (keeps-of w h c out u v s.world o k (rest-same v s.world b same)) harm planned
flown w h c out route body s flips at is low used number parcel (Flight.marred u v wire m o k more planned differs g l) =
    let none : difference (packet_for h (w.injected + 1) out) ≡ 0 = ap difference parcel.written ∙ packet_of-difference route Mapping (mapping_bytes body) in
    let quiet = unheard v m (marred-dropped w.links.cables c wire m g (differs flips none)) in
    let r = rest-landed v m s l quiet in
    let same = r.harmed in
    Delivery.struck used number (l.heard ∙ quiet.heard) (keeps-of w h c out u v s.world o k r) (omega (arith, more, same)) planned

some-same : (a b : Outgoing) → (let r : Option Outgoing = Some a in r) ≡ Some b → a ≡ b
some-same a b e = cc

second-true : (a b : Bool) → (a && b) ≡ true → b ≡ true
second-true true b e = e
second-true false b e = absurd (true≢false (sym e))

delivery : (w : WorldState) (h : ℕ) (out : Outgoing) (route : List ℤ) (body : MappingBody) (s : Sent) → HasByteFaults w → IsHistory w.links.cables → is_message out ≡ false → to_send h (node_at w h) ≡ Some out → (w.injected < last_count → IsParcel w h out route body) → Sending w h s → Delivery w h out route body s
delivery w h out route body s flips history plain is parcel (Sending.unsent (Unsent.no_cable used at) number heard same) =
    Delivery.no_cable (λ g there. stuck-place w.links.cables h g route at (sym (ap (λ x. place (fabric_of x) h route) same) ∙ there)) used number heard same
delivery w h out route body s flips history plain is parcel (Sending.unsent (Unsent.no_packet none) number heard same) = let bad : None ≡ Some out = sym none ∙ is in cc
delivery w h out route body s flips history plain is parcel (Sending.unsent (Unsent.none_left used most) number heard same) = Delivery.none_left most used number heard same
delivery w h out route body s flips history plain is parcel (Sending.unsent (Unsent.kept_out used c other at this kept) number heard same) =
    let alike : other ≡ out = some-same other out (sym this ∙ is) in
    absurd (true≢false (sym (second-true (is_new w.links.cables c) (is_message other) kept) ∙ ap is_message alike ∙ plain))
delivery w h out route body s flips history plain is parcel (Sending.sent c other at this low used number f) =
    let same : other ≡ out = some-same other out (sym this ∙ is) in
    flown w h c out route body s flips at history low used number (parcel low) (subst (λ o. Flight w h c o s) same f)

pub deliver : (w : WorldState) (h : ℕ) (out : Outgoing) (route : List ℤ) (body : MappingBody) → IsBare w.links → HasByteFaults w → IsHistory w.links.cables → is_message out ≡ false → to_send h (node_at w h) ≡ Some out → (w.injected < last_count → IsParcel w h out route body) → Delivery w h out route body (sends w h)
deliver w h out route body e flips history plain is parcel = delivery w h out route body (sends w h) flips history plain is parcel (sending w h e)
