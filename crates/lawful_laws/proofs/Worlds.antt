-- Every act keeps each packet a probe's or led by a route of the set, and what hosts have staged on walks of the set.
use Rattle.std.proofs.Common.{◌≡◌, ◌<◌, ◌+◌, ℕ, ℤ, true, false, List, [], ◌∷◌, Option, Some, None, IfSome, Ok, inr, refl, sym, ap, ◌∙◌, subst, true≢false, arith}
use Rattle.std.specs.List.{AllByRecursion, list_all}
use Rattle.net_defs.specs.Turn.{is_turn, IsTurn}
use Rattle.net_defs.proofs.Ends.{both}
use Rattle.net_defs.specs.declared.vertex.End.{End}
use Rattle.net_defs.specs.Network.{Network}
use Rattle.net_defs.specs.Route.{host_port}
use Rattle.world_defs.specs.History.{CableHistory, IsHistory, fabric_at, may_plug, with_plugged}
use Rattle.world_defs.specs.Crossed.{life_channels, is_standing, pulled_at}
use Rattle.world_defs.specs.Later.{IsLater}
use Rattle.world_defs.proofs.ForLife.{leaving_has_its_end}
use Rattle.world_defs.proofs.CablesLater.{kept-pull, kept-plug}
use Rattle.world_defs.proofs.Left.{standing-low, standing-before, unplugged-old, plugged-pull, plugged-plug}
use Rattle.world_defs.proofs.Now.{now_is_fabric}
use Rattle.packet_defs.specs.declared.kind.Kind.{Kind}
use Rattle.packet_defs.specs.Packet.{front_turn, stripped, packet_of}
use Rattle.packet_defs.specs.Host.{decode}
use Rattle.packet_defs.proofs.Packets.{packet_of-stripped}
use Rattle.world_defs.specs.declared.moved.Course.TheVariants.{Enters}
use Rattle.world_defs.specs.Kinds.{is_gm}
use Rattle.world_defs.specs.Links.{Held, Caught, LinkState, packet_in}
use Rattle.world_defs.proofs.KindsKept.{gm-is}
use Rattle.world_defs.specs.Advance.{course}
use Rattle.world_defs.specs.declared.event.Event.{Event}
use Rattle.world_defs.specs.declared.effect.Effect.{Effect}
use Rattle.world_defs.specs.EightBits.{IsByteFault, IsByteEvent}
use Rattle.world_defs.specs.Table.{Adoption, epoch_in, revoked_table, table_route}
use Rattle.world_defs.specs.Node.{NodeState, StagedProbe, StagedPart}
use Rattle.world_defs.specs.World.{WorldState, host_count, node_at, epoch_of}
use Rattle.world_defs.specs.Traffic.{routes_in, adopted_routes}
use Rattle.table_laws.specs.Set.{IsPartOfSet, IsFitPart}
use Rattle.table_laws.specs.Packets.{IsHonest}
use Rattle.table_laws.specs.Bodies.{IsBody}
use Rattle.table_laws.proofs.Sets.{RouteFits, routes-fit, part_for-fits}
use Rattle.lawful_laws.specs.Probes.{IsWalkEvent}
use Rattle.world_defs.proofs.Cables.{HasCables}
use Rattle.lawful_laws.proofs.Ahead.{goes_on, host-near, next-stands, message-old, led-next, led-pull, led-plug}
use Rattle.lawful_laws.proofs.Stands.{Stands, step-stands}
use Rattle.lawful_laws.proofs.Walks.{Era, IsWalkFrom, route_of-walk, part-back, table-walk}
use Rattle.lawful_laws.proofs.Sends.{HasWayBack, IsProbeBody, IsWay, IsOnWay, IsSent, IsOwn, to_send-out, packet-on_way}
use Rattle.lawful_laws.proofs.Hears.{hear-own}
use Rattle.world_defs.specs.Step.{step}
use Rattle.world_defs.specs.Acts.{Happens}
use Rattle.world_defs.proofs.Views.{HostChange, Change, view}
use Rattle.world_defs.proofs.Calls.{call_view}
use Rattle.world_defs.proofs.Hosts.{NodeChange, change-nodes, each_node}
use Rattle.world_defs.proofs.Kept.{change-later, change-adopted, change-plan}
use Rattle.table_laws.proofs.Medium.{Holds, Carries, weaker-holds, no_turn, honest-read}
use Rattle.table_laws.proofs.Keeping.{HoldsOfNew, acted-holds}
use Rattle.table_laws.proofs.Steps.{IsOfSet, IsAdopted, adopted-fits, hosts-active}
use Rattle.lawful_laws.proofs.Calls.{after_sending-own, given_up-own, staged-own, table-own, node_expired-own, call-own}

-- a move keeps a packet on its way
probe-next : (Fair : Type 0) (turns : List ℤ) (t : ℤ) (whole : List ℤ) (kind : Kind) (payload : List ℕ) → whole ≡ t ∷ turns → IsProbeBody Fair whole kind payload → IsProbeBody Fair turns kind payload
probe-next Fair turns t whole kind payload same p = record {
  of_mapping = p.of_mapping;
  body = p.body;
  bytes = p.bytes;
  probe = p.probe;
  reads = λ f. let x = p.reads f in ((subst (AllByRecursion IsTurn) same x.0).1, x.1);
}

why-next : (Fair : Type 0) (cables : CableHistory) (era : Era) (c next born : ℕ) (wire : List ℕ) (t : ℤ) (whole turns : List ℤ) (kind : Kind) (payload : List ℕ) → IsHistory cables → is_standing cables c ≡ true → wire ≡ packet_of whole kind payload → course cables c wire ≡ Enters next → whole ≡ t ∷ turns → IsWay Fair cables era c born wire whole kind payload → IsWay Fair cables era next born (stripped wire) turns kind payload
why-next Fair cables era c next born wire t whole turns kind payload history stands written e same (IsWay.probe p) = IsWay.probe (probe-next Fair turns t whole kind payload same p)
why-next Fair cables era c next born wire t whole turns kind payload history stands written e same (IsWay.older low) = IsWay.older low
why-next Fair cables era c next born wire t whole turns kind payload history stands written e same (IsWay.former p) = IsWay.former p
why-next Fair cables era c next born wire t whole turns kind payload history stands written e same (IsWay.plugged q p) = IsWay.plugged q p
why-next Fair cables era c next born wire t whole turns kind payload history stands written e same (IsWay.part q p l) = IsWay.part q p (led-next cables era.routes c wire next history stands e (unplugged-old cables next q) l)
why-next Fair cables era c next born wire t whole turns kind payload history stands written e same (IsWay.led gm all l) =
    let is : is_gm wire ≡ true = ap is_gm (written ∙ ap (λ k. packet_of whole k payload) gm) ∙ gm-is whole payload all in
    let rest = both (is_turn t) (list_all is_turn turns) (ap (list_all is_turn) (sym same) ∙ all) in
    IsWay.led gm rest.1 (led-next cables era.routes c wire next history stands e (message-old cables c wire next e is) l)

way-next : (Fair : Type 0) (cables : CableHistory) (era : Era) (c next born : ℕ) (wire : List ℕ) (turns : List ℤ) (b : IsOnWay Fair cables era c born wire) → IsHistory cables → is_standing cables c ≡ true → course cables c wire ≡ Enters next → b.turns ≡ turns → IsOnWay Fair cables era next born (stripped wire)
way-next Fair cables era c next born wire [] b history stands e same =
    let x = goes_on cables c wire next e in
    absurd (no_turn b.kind b.payload x.turn (ap (λ r. front_turn (packet_of r b.kind b.payload)) (sym same) ∙ ap front_turn (sym b.written) ∙ x.front))
way-next Fair cables era c next born wire (t ∷ turns) b history stands e same = record {
  turns = turns;
  kind = b.kind;
  payload = b.payload;
  written = ap stripped (b.written ∙ ap (λ r. packet_of r b.kind b.payload) same) ∙ packet_of-stripped t turns b.kind b.payload;
  good = b.good;
  way = why-next Fair cables era c next born wire t b.turns turns b.kind b.payload history stands b.written e same b.way;
}

-- a packet of a cable in place, sent so
pub record IsThere (Fair : Type 0) (cables : CableHistory) (era : Era) (c : ℕ) (held : Held) : Type 0 where
  pub stands : is_standing cables c ≡ true
  pub sent : IsSent Fair cables era c held

carries-there : (Fair : Type 0) (cables : CableHistory) (era : Era) → IsHistory cables → Carries cables (IsThere Fair cables era)
carries-there Fair cables era history = record {
  strip = λ c next held e is. record {
    stands = next-stands cables c held.wire next e;
    sent = record { born = is.sent.born; unflipped = λ m. let b = is.sent.unflipped m in way-next Fair cables era c next held.born held.wire b.turns b history is.stands e refl };
  };
  flip = λ c bit pattern held low e is. record { stands = is.stands; sent = record { born = is.sent.born; unflipped = λ m. absurd (true≢false m) } };
}

-- later changes keep a packet on its way, while its cable is in place
way-pull : (Fair : Type 0) (cables : CableHistory) (at : End) (era : Era) (c born : ℕ) (wire : List ℕ) (turns : List ℤ) (kind : Kind) (payload : List ℕ) → IsHistory cables → c < life_channels cables → IsWay Fair cables era c born wire turns kind payload → IsWay Fair (pulled_at cables at) era c born wire turns kind payload
way-pull Fair cables at era c born wire turns kind payload history low (IsWay.probe p) = IsWay.probe p
way-pull Fair cables at era c born wire turns kind payload history low (IsWay.older before) = IsWay.older before
way-pull Fair cables at era c born wire turns kind payload history low (IsWay.former p) = IsWay.former p
way-pull Fair cables at era c born wire turns kind payload history low (IsWay.plugged q p) = IsWay.plugged (plugged-pull cables at ∙ q) p
way-pull Fair cables at era c born wire turns kind payload history low (IsWay.part q p l) = IsWay.part (plugged-pull cables at ∙ q) p (led-pull cables at era.routes c wire history low l)
way-pull Fair cables at era c born wire turns kind payload history low (IsWay.led gm all l) = IsWay.led gm all (led-pull cables at era.routes c wire history low l)

way-plug : (Fair : Type 0) (cables : CableHistory) (a b : End) (era : Era) (c born : ℕ) (wire : List ℕ) (turns : List ℤ) (kind : Kind) (payload : List ℕ) → IsHistory cables → may_plug cables a b ≡ true → c < life_channels cables → IsWay Fair cables era c born wire turns kind payload → IsWay Fair (with_plugged cables a b) era c born wire turns kind payload
way-plug Fair cables a b era c born wire turns kind payload history may low (IsWay.probe p) = IsWay.probe p
way-plug Fair cables a b era c born wire turns kind payload history may low (IsWay.older before) = IsWay.older before
way-plug Fair cables a b era c born wire turns kind payload history may low (IsWay.former p) = IsWay.former p
way-plug Fair cables a b era c born wire turns kind payload history may low (IsWay.plugged q p) = IsWay.plugged (plugged-plug cables a b history) p
way-plug Fair cables a b era c born wire turns kind payload history may low (IsWay.part q p l) = IsWay.plugged (plugged-plug cables a b history) p
way-plug Fair cables a b era c born wire turns kind payload history may low (IsWay.led gm all l) = IsWay.led gm all (led-plug cables a b era.routes c wire history may low l)

on-way : {Fair : Type 0} {h g : CableHistory} {era : Era} {c born : ℕ} {wire : List ℕ} (b : IsOnWay Fair h era c born wire) → IsWay Fair g era c born wire b.turns b.kind b.payload → IsOnWay Fair g era c born wire
on-way b way = record { turns = b.turns; kind = b.kind; payload = b.payload; written = b.written; good = b.good; way = way }

pub there-later : {Fair : Type 0} {h g : CableHistory} {era : Era} (c : ℕ) (held : Held) → IsLater h g → IsHistory h → is_standing g c ≡ true → IsThere Fair h era c held → IsThere Fair g era c held
there-later c held IsLater.still history stands is = is
there-later {Fair = Fair} {h = h} {era = era} c held (IsLater.pulls at rest) history stands is =
    let k = kept-pull h at in
    let more = k.channels in
    let low : c < life_channels h = standing-low h c is.stands in
    let here : is_standing (pulled_at h at) c ≡ true = standing-before c (omega (arith, low, more)) rest stands in
    let sent : IsSent Fair (pulled_at h at) era c held = record {
      born = is.sent.born;
      unflipped = λ m. let b = is.sent.unflipped m in on-way b (way-pull Fair h at era c held.born held.wire b.turns b.kind b.payload history low b.way);
    } in
    there-later c held rest (k.history history) stands (record { stands = here; sent = sent })
there-later {Fair = Fair} {h = h} {era = era} c held (IsLater.plugs a b may rest) history stands is =
    let k = kept-plug h a b may in
    let more = k.channels in
    let low : c < life_channels h = standing-low h c is.stands in
    let here : is_standing (with_plugged h a b) c ≡ true = standing-before c (omega (arith, low, more)) rest stands in
    let sent : IsSent Fair (with_plugged h a b) era c held = record {
      born = is.sent.born;
      unflipped = λ m. let x = is.sent.unflipped m in on-way x (way-plug Fair h a b era c held.born held.wire x.turns x.kind x.payload history may low x.way);
    } in
    there-later c held rest (k.history history) stands (record { stands = here; sent = sent })

-- The invariant. Fair stands for: each walk that was asked is one.
pub record IsLed (Fair : Type 0) (n : Network) (era : Era) (w : WorldState) : Type 0 where
  pub number : epoch_of w ≡ era.number
  pub adopted : adopted_routes w ≡ era.routes
  pub links : Holds (IsThere Fair w.links.cables era) w.links
  pub hosts : (h : ℕ) → IsOwn Fair era h (node_at w h)
  pub plan : AllByRecursion (λ f. IsByteFault f.1) w.plan

-- a packet has its way back, and a true mark
both-honest : (Fair : Type 0) (cables : CableHistory) (o : Option Adoption) (era : Era) (c : ℕ) (held : Held) → IsHonest (IsBody o) held → IsSent Fair cables era c held → IsHonest (HasWayBack era) held
both-honest Fair cables o era c held a b = record {
  mark = a.mark;
  built = λ m. let x = b.unflipped m in record { route = x.turns; kind = x.kind; payload = x.payload; written = x.written; good = x.good };
}

-- what a host reads has its way back
way-read : (Fair : Type 0) (n : Network) (era : Era) (w : WorldState) (c : ℕ) (packet : Held) → IsOfSet n w → IsLed Fair n era w → packet_in w.links c ≡ Some packet → (k : Kind) (body : List ℕ) → decode packet.wire ≡ Ok (k, body) → HasWayBack era k body
way-read Fair n era w c packet of is e k body d =
    let true_mark = subst (λ o. IfSome o (IsHonest (IsBody w.adopted))) e (of.links.in_channels c) in
    let there = subst (λ o. IfSome o (IsThere Fair w.links.cables era c)) e (is.links.in_channels c) in
    honest-read (HasWayBack era) packet k body (both-honest Fair w.links.cables w.adopted era c packet true_mark there.sent) d

-- one host
host-own : (Fair : Type 0) (n : Network) (era : Era) (w : WorldState) {e : Event} {x : Effect} {h : ℕ} {m : NodeState} → HasCables n w → (Fair → IsWalkEvent e) → IsOfSet n w → IsLed Fair n era w → HostChange w e x h m → IsOwn Fair era h m
host-own Fair n era w f asks of is (HostChange.asks {h = h} {walk = walk} {looped = looped}) = staged-own Fair era h (node_at w h) (StagedProbe walk looped) asks (is.hosts h)
host-own Fair n era w f asks of is (HostChange.stages {dst = dst} {part = part} a p by d e g) =
    let it : IsAdopted w.links.cables a = subst (λ o. IfSome o (IsAdopted w.links.cables)) d of.adopted in
    let same : a.routes ≡ era.routes = ap routes_in (sym d) ∙ is.adopted in
    let now : a.epoch ≡ era.number = ap epoch_in (sym d) ∙ is.number in
    let two : IsPartOfSet a.epoch a.routes p.dst p × IsFitPart p = part_for-fits a dst part p (adopted-fits w.links.cables a it) (routes-fit (fabric_at w.links.cables a.at) a.routes (f.history.fabrics a.at) it.adoptable.lead) e in
    staged-own Fair era a.mapper (node_at w a.mapper) (StagedPart p by)
    (inr (two.0.epoch ∙ now, subst (λ rs. IsWalkFrom rs a.mapper by × IsWalkFrom rs p.dst p.back) same (route_of-walk a.routes a.mapper dst by g, part-back a dst part p e)), two.1) (is.hosts a.mapper)
host-own Fair n era w f asks of is (HostChange.expires {h = h} {peer = peer} k) = node_expired-own Fair era h (node_at w h) peer (is.hosts h)
host-own Fair n era w f asks of is (HostChange.gives_up {h = h} k) = given_up-own Fair era h (node_at w h)
host-own Fair n era w f asks of is (HostChange.revokes {h = h} a d) = table-own Fair era h (node_at w h) (revoked_table (node_at w h).table a.epoch) (is.hosts h)

node-own : (Fair : Type 0) (n : Network) (era : Era) (w : WorldState) (e : Event) → HasCables n w → (Fair → IsWalkEvent e) → IsOfSet n w → IsLed Fair n era w → (h : ℕ) (m : NodeState) → NodeChange w (Happens e) h m → IsOwn Fair era h m
node-own Fair n era w e f asks of is h m (NodeChange.itself k) = host-own Fair n era w f asks of is k
node-own Fair n era w e f asks of is h m (NodeChange.hears {c = c} packet j d g) = hear-own Fair era h (host_count w) (node_at w h) packet.wire (is.hosts h) (way-read Fair n era w c packet of is d)
node-own Fair n era w e f asks of is h m (NodeChange.sends c out d g) = after_sending-own Fair era h (node_at w h) out (is.hosts h)
node-own Fair n era w e f asks of is h m (NodeChange.calls k) = call-own Fair era h (call_view k) (is.hosts h)

-- an injection
set-fits : (h : CableHistory) (o : Option Adoption) → IsHistory h → IfSome o (IsAdopted h) → AllByRecursion RouteFits (routes_in o)
set-fits h None f is = tt
set-fits h (Some a) f is = routes-fit (fabric_at h a.at) a.routes (f.fabrics a.at) is.adoptable.lead

new-there : (Fair : Type 0) (n : Network) (era : Era) (w v : WorldState) → HasCables n w → IsOfSet n w → IsLed Fair n era w → HoldsOfNew (IsThere Fair w.links.cables era) w v
new-there Fair n era w v f of is h c out i =
    let cables : CableHistory = w.links.cables in
    let fit : AllByRecursion RouteFits era.routes = subst (AllByRecursion RouteFits) is.adopted (set-fits cables w.adopted f.history of.adopted) in
    let walks : (peer : ℕ) (walk : List ℤ) → table_route (node_at w h).table peer ≡ Some walk → IsWalkFrom era.routes h walk = λ peer walk x. subst (λ rs. IsWalkFrom rs h walk) is.adopted (table-walk w.adopted h peer walk (node_at w h).table (hosts-active n w of h) x) in
    let left = i.left in
    let now : w.links.epoch ≡ era.number = of.epoch ∙ is.number in
    record {
      stands = (leaving_has_its_end cables (host_port h) c i.cable).in_place;
      sent = record {
        born = omega (arith, now);
        unflipped = λ m. packet-on_way Fair cables era c w.links.epoch h (w.injected + 1) out f.history fit i.cable i.allowed (host-near cables h c (now_is_fabric cables f.history) i.cable) (omega (arith, left)) (to_send-out Fair era h (node_at w h) out (is.hosts h) walks i.sends);
      };
    }

-- what holds of each packet so far, of those whose cables are still in place
both-holds : (F G H : ℕ → Held → Type 0) (s : LinkState) → ((c : ℕ) (held : Held) → F c held → G c held → H c held) → Holds F s → Holds G s → Holds H s
both-holds F G H s more a b = record {
  in_channels = λ c. both-if (F c) (G c) (H c) (packet_in s c) (more c) (a.in_channels c) (b.in_channels c);
  in_limbo = both-all s.limbo a.in_limbo b.in_limbo;
}
  where
    both-if : (P Q R : Held → Type 0) (o : Option Held) → ((held : Held) → P held → Q held → R held) → IfSome o P → IfSome o Q → IfSome o R
    both-if P Q R None f p q = tt
    both-if P Q R (Some held) f p q = f held p q

    both-all : (es : List (ℕ × Caught)) → AllByRecursion (λ e. F e.1.channel e.1.held) es → AllByRecursion (λ e. G e.1.channel e.1.held) es → AllByRecursion (λ e. H e.1.channel e.1.held) es
    both-all [] p q = tt
    both-all (e ∷ es) p q = (more e.1.channel e.1.held p.0 q.0, both-all es p.1 q.1)

-- every event
pub step-led : (Fair : Type 0) (n : Network) (era : Era) (w : WorldState) (e : Event) → HasCables n w → IsByteEvent e → (Fair → IsWalkEvent e) → IsOfSet n w → IsLed Fair n era w → IsLed Fair n era (step w e).1
step-led Fair n era w e f low asks of is =
    let v : WorldState = (step w e).1 in
    let k : Change w e (step w e) = view w e in
    let F : ℕ → Held → Type 0 = IsThere Fair w.links.cables era in
    let here : Holds F v.links = acted-holds F w (carries-there Fair w.links.cables era f.history) is.links is.plan (Happens e) low (new-there Fair n era w v f of is) in
    let stands : Holds (Stands v.links.cables) v.links = step-stands w e low is.plan (weaker-holds F (Stands w.links.cables) w.links (λ c held x. x.stands) is.links) in
    record {
      number = ap epoch_in (change-adopted k) ∙ is.number;
      adopted = ap routes_in (change-adopted k) ∙ is.adopted;
      links = both-holds F (Stands v.links.cables) (IsThere Fair v.links.cables era) v.links (λ c held x y. there-later c held (change-later k) f.history y x) here stands;
      hosts = each_node (IsOwn Fair era) (change-nodes k) is.hosts (node-own Fair n era w e f asks of is);
      plan = change-plan k is.plan;
    }
