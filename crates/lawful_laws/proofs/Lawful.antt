-- After every list of acts each packet that no flip has met is lawful, or needn't be.
use Rattle.std.proofs.Common.{◌≡◌, ◌<◌, ◌⊎◌, inl, inr, ℕ, ℤ, Bool, true, false, if◌then◌else◌, List, [], ◌∷◌, length, ◌+◌, Option, Some, None, IfSome, refl, sym, ap, ◌∙◌, subst, arith}
use Rattle.std.specs.List.{AllByRecursion, slice_get}
use Rattle.net_defs.specs.declared.route.Route.{Route}
use Rattle.net_defs.specs.Network.{Network}
use Rattle.packet_defs.specs.declared.kind.Kind.{Kind}
use Rattle.packet_defs.specs.Packet.{packet_of}
use Rattle.world_defs.specs.History.{CableHistory, is_in_place, was_plugged}
use Rattle.world_defs.specs.Crossed.{channels_at, is_standing, is_new}
use Rattle.world_defs.proofs.Left.{unplugged-old}
use Rattle.world_defs.specs.Kinds.{is_gm}
use Rattle.world_defs.specs.Links.{Held, Caught, LinkState, packet_in}
use Rattle.world_defs.specs.Fault.{accept}
use Rattle.world_defs.proofs.KindsKept.{gm-is}
use Rattle.world_defs.specs.Table.{Adoption, epoch_in, at_in, whole_table}
use Rattle.world_defs.specs.Node.{NodeState, Staged, StagedProbe, StagedPart, StagedAck, new_node}
use Rattle.world_defs.specs.World.{WorldState, new_world, node_at, epoch_of, standing_of, keeps_epoch, adoption_of, adopted_by}
use Rattle.world_defs.specs.Traffic.{routes_in, adopted_routes, ahead_by, MeetsNoNewCable, IsLawful}
use Rattle.world_defs.specs.Acts.{Act, Happens, Plans, Adopts, acted, acted_all, MayAct, MayActAll, IsReached}
use Rattle.world_defs.proofs.AdoptedEpochs.{Adopting, adopting}
use Rattle.world_defs.proofs.Cables.{HasCables, new-cables, cables-kept, reached-cables}
use Rattle.world_defs.proofs.ActsKept.{acted-kept}
use Rattle.table_laws.proofs.Medium.{weaker-holds, empty-holds}
use Rattle.table_laws.proofs.Keeping.{accepted-holds}
use Rattle.world_defs.proofs.Kept.{with-all}
use Rattle.table_laws.proofs.Steps.{IsOfSet, acted-of, new-of}
use Rattle.lawful_laws.specs.Probes.{IsProbe, IsReadAsProbe, IsWalkAct}
use Rattle.lawful_laws.specs.Former.{is_of_parts, is_former, IsPacketOf, IsExcused}
use Rattle.lawful_laws.specs.Lawful.{UnflippedIsLawful, UnflippedIsRead, LimboIsLawful, LimboIsRead}
use Rattle.lawful_laws.proofs.Ahead.{IsLedBy}
use Rattle.lawful_laws.proofs.Walks.{Era, IsOfEra, all-at}
use Rattle.lawful_laws.proofs.Sends.{HasWayBack, IsProbeBody, IsWay, IsOwnStaged, IsOwn}
use Rattle.lawful_laws.proofs.ProbePackets.{probe-is_read}
use Rattle.world_defs.proofs.Lists.{each-set, each-replicate}
use Rattle.lawful_laws.proofs.Worlds.{IsThere, IsLed, step-led}

-- what is of an epoch is of one before, once a later one begins
later-of : (era following : Era) (epoch : ℕ) (P Q : Type 0) → era.number < following.number → IsOfEra era epoch P → IsOfEra following epoch Q
later-of era following epoch P Q up (inl low) = inl (omega (arith, up, low))
later-of era following epoch P Q up (inr (same, p)) = inl (omega (arith, up, same))

later-back : (era following : Era) (kind : Kind) (payload : List ℕ) → era.number < following.number → HasWayBack era kind payload → HasWayBack following kind payload
later-back era following kind payload up good = record { part = λ p k d. later-of era following p.epoch _ _ up (good.part p k d) }

-- an adoption may accept the cables, and leaves them in place
accepted-stands : (s : LinkState) (b : Bool) (c : ℕ) → is_standing (if b then s else accept s).cables c ≡ is_standing s.cables c
accepted-stands s true c = refl
accepted-stands s false c = refl

later-there : (Fair : Type 0) (cables then_cables : CableHistory) (era following : Era) (c : ℕ) (held : Held) → era.number < following.number → is_standing then_cables c ≡ is_standing cables c → IsThere Fair cables era c held → IsThere Fair then_cables following c held
later-there Fair cables then_cables era following c held up same is =
    let born = is.sent.born in
    record {
      stands = same ∙ is.stands;
      sent = record {
        born = omega (arith, up, born);
        unflipped = λ m.
            let b = is.sent.unflipped m in
            record { turns = b.turns; kind = b.kind; payload = b.payload; written = b.written; good = later-back era following b.kind b.payload up b.good; way = IsWay.older (omega (arith, up, born)) };
      };
    }

later-staged : (Fair : Type 0) (era following : Era) (h : ℕ) (s : Option Staged) → era.number < following.number → IfSome s (IsOwnStaged Fair era h) → IfSome s (IsOwnStaged Fair following h)
later-staged Fair era following h None up is = tt
later-staged Fair era following h (Some (StagedProbe walk looped)) up is = is
later-staged Fair era following h (Some (StagedPart p by)) up is = (later-of era following p.epoch _ _ up is.0, is.1)

later-ack : (era following : Era) (P Q : StagedAck → Type 0) (s : Option StagedAck) → era.number < following.number → IfSome s (λ a. IsOfEra era a.epoch (P a)) → IfSome s (λ a. IsOfEra following a.epoch (Q a))
later-ack era following P Q None up is = tt
later-ack era following P Q (Some a) up is = later-of era following a.epoch (P a) (Q a) up is

later-own : (Fair : Type 0) (era following : Era) (h : ℕ) (n : NodeState) → era.number < following.number → IsOwn Fair era h n → IsOwn Fair following h n
later-own Fair era following h n up is = record { staged = later-staged Fair era following h n.staged up is.staged; reply = is.reply; ack = later-ack era following _ _ n.part_ack up is.ack }

-- an adoption: what held of the routes of an epoch holds of those of the next one, or of the same
adopted-led : (Fair : Type 0) (n : Network) (era following : Era) (w : WorldState) (mapper : ℕ) (routes : List Route) → (adoption_of w mapper routes).epoch ≡ following.number → routes ≡ following.routes
    → ((c : ℕ) (held : Held) → IsThere Fair w.links.cables era c held → IsThere Fair (adopted_by w mapper routes).links.cables following c held) → ((h : ℕ) (m : NodeState) → IsOwn Fair era h m → IsOwn Fair following h m) → IsLed Fair n era w → IsLed Fair n following (adopted_by w mapper routes)
adopted-led Fair n era following w mapper routes number same sent own is =
    let v : WorldState = adopted_by w mapper routes in
    let m : NodeState = record (node_at w mapper) { table = whole_table routes mapper (adoption_of w mapper routes).epoch } in
    let here : IsOwn Fair following mapper m = let o = own mapper (node_at w mapper) (is.hosts mapper) in record { staged = o.staged; reply = o.reply; ack = o.ack } in
    record {
      number = number;
      adopted = same;
      links = accepted-holds (IsThere Fair v.links.cables following) w.links (keeps_epoch w routes) (weaker-holds (IsThere Fair w.links.cables era) (IsThere Fair v.links.cables following) w.links sent is.links);
      hosts = λ j. each-set (IsOwn Fair following) w.nodes mapper j m (new_node 0) here (λ k. own k (node_at w k) (is.hosts k));
      plan = is.plan;
    }

-- every act
record IsLedNow (Fair : Type 0) (n : Network) (w : WorldState) : Type 0 where
  era : Era
  led : IsLed Fair n era w

begun-led : (Fair : Type 0) (n : Network) (w : WorldState) (mapper : ℕ) (routes : List Route) (era following : Era) → (adoption_of w mapper routes).epoch ≡ following.number → routes ≡ following.routes → era.number < following.number → IsLed Fair n era w → IsLedNow Fair n (adopted_by w mapper routes)
begun-led Fair n w mapper routes era following number same up is = record {
  era = following;
  led = adopted-led Fair n era following w mapper routes number same (λ c held. later-there Fair w.links.cables (adopted_by w mapper routes).links.cables era following c held up (accepted-stands w.links (keeps_epoch w routes) c)) (λ h m. later-own Fair era following h m up) is;
}

adopting-led : (Fair : Type 0) (n : Network) (w : WorldState) (mapper : ℕ) (routes : List Route) {o : Option Adoption} {b : Adoption} {keeps : Bool} → w.adopted ≡ o → adoption_of w mapper routes ≡ b → keeps_epoch w routes ≡ keeps → Adopting (standing_of w) mapper routes o b keeps → IsLedNow Fair n w → IsLedNow Fair n (adopted_by w mapper routes)
adopting-led Fair n w mapper routes d e k Adopting.first is =
    let following : Era = record { number = 1; routes = routes } in
    let none : 0 ≡ is.era.number = ap epoch_in (sym d) ∙ is.led.number in
    begun-led Fair n w mapper routes is.era following (ap (λ (x : Adoption). x.epoch) e) refl (omega (arith, none)) is.led
adopting-led Fair n w mapper routes d e k (Adopting.keeps a same) is =
    let now : a.epoch ≡ is.era.number = ap epoch_in (sym d) ∙ is.led.number in
    let set : a.routes ≡ is.era.routes = ap routes_in (sym d) ∙ is.led.adopted in
    let cables : (adopted_by w mapper routes).links.cables ≡ w.links.cables = ap (λ b. (if b then w.links else accept w.links).cables) k in
    record { era = is.era; led = adopted-led Fair n is.era is.era w mapper routes (ap (λ (x : Adoption). x.epoch) e ∙ now) (same.same ∙ set) (λ c held x. subst (λ g. IsThere Fair g is.era c held) (sym cables) x) (λ h m x. x) is.led }
adopting-led Fair n w mapper routes d e k (Adopting.begins a none left) is =
    let following : Era = record { number = a.epoch + 1; routes = routes } in
    let now : a.epoch ≡ is.era.number = ap epoch_in (sym d) ∙ is.led.number in
    begun-led Fair n w mapper routes is.era following (ap (λ (x : Adoption). x.epoch) e) refl (omega (arith, now)) is.led

acted-led : (Fair : Type 0) (n : Network) (w : WorldState) (a : Act) → HasCables n w → MayAct w a → (Fair → IsWalkAct a) → IsOfSet n w → IsLedNow Fair n w → IsLedNow Fair n (acted w a)
acted-led Fair n w (Happens e) f may asks of is = record { era = is.era; led = step-led Fair n is.era w e f may asks of is.led }
acted-led Fair n w (Plans ahead fault) f may asks of is =
    let l = is.led in
    record { era = is.era; led = record { number = l.number; adopted = l.adopted; links = l.links; hosts = l.hosts; plan = with-all (w.injected + ahead) fault w.plan may.1 l.plan } }
acted-led Fair n w (Adopts mapper routes) f may asks of is = adopting-led Fair n w mapper routes {o = w.adopted} refl refl refl (adopting (standing_of w) mapper routes w.adopted may.1) is

acted_all-led : (Fair : Type 0) (n : Network) (w : WorldState) (acts : List Act) → HasCables n w → MayActAll w acts → (Fair → AllByRecursion IsWalkAct acts) → IsOfSet n w → IsLedNow Fair n w → IsLedNow Fair n (acted_all w acts)
acted_all-led Fair n w [] f may asks of is = is
acted_all-led Fair n w (a ∷ acts) f may asks of is = acted_all-led Fair n (acted w a) acts (cables-kept n w (acted w a) (acted-kept w a) f) may.1 (λ x. (asks x).1) (acted-of n w a f may.0 of) (acted-led Fair n w a f may.0 (λ x. (asks x).0) of is)

-- before any adoption
abbrev no_era : Era
no_era = record { number = 0; routes = [] }

new-own : (Fair : Type 0) (h k : ℕ) → IsOwn Fair no_era h (new_node k)
new-own Fair h k = record { staged = tt; reply = tt; ack = tt }

new-led : (Fair : Type 0) (n : Network) → IsLedNow Fair n (new_world n)
new-led Fair n =
    let k : ℕ = length n.hosts in
    record {
      era = no_era;
      led = record { number = refl; adopted = refl; links = empty-holds (IsThere Fair (new_world n).links.cables no_era) n; hosts = λ h. each-replicate (IsOwn Fair no_era h) k h (new_node k) (new_node 0) (new-own Fair h k) (new-own Fair h 0); plan = tt };
    }

-- every reached world
abbrev era_of : WorldState → Era
era_of w = record { number = epoch_of w; routes = adopted_routes w }

same-era : (a b : Era) → a.number ≡ b.number → a.routes ≡ b.routes → a ≡ b
same-era a b e f = λ i. record { number = e i; routes = f i }

pub reached-led : (Fair : Type 0) (n : Network) (w : WorldState) (r : IsReached n w) → (Fair → AllByRecursion IsWalkAct r.acts) → IsLed Fair n (era_of w) w
reached-led Fair n w r asks =
    let x : IsLedNow Fair n w = subst (IsLedNow Fair n) (sym r.leads) (acted_all-led Fair n (new_world n) r.acts (new-cables n r.fabric) r.may asks (new-of n) (new-led Fair n)) in
    subst (λ era. IsLed Fair n era w) (sym (same-era (era_of w) x.era x.led.number x.led.adopted)) x.led

-- what is led by the adopted routes is lawful, where it is a message, or meets no new cable
pub led-lawful : (w : WorldState) (c : ℕ) (held : Held) → w.links.cables.accepted ≡ at_in w.adopted → held.marked ≡ false → IsLedBy w.links.cables (adopted_routes w) c held.wire → (is_gm held.wire ≡ true) ⊎ MeetsNoNewCable w c held.wire → IsLawful w c held
led-lawful w c held at m l stopped = record {
  unmarked = m;
  accepted = l.accepted;
  place = l.place;
  route = l.route;
  behind = l.behind;
  beyond = l.beyond;
  there = l.there;
  within = ap (λ k. channels_at w.links.cables k l.route.from l.route.walk) (sym at) ∙ l.within;
  stopped = stopped;
}

-- where no cable was plugged none is met that is new
unmet : (h : CableHistory) (cs : List ℕ) → was_plugged h ≡ false → AllByRecursion (λ d. is_new h d ≡ false) cs
unmet h [] none = tt
unmet h (c ∷ cs) none = (unplugged-old h c none, unmet h cs none)

-- what no flip has met is a probe's packet, older than the epoch, of a part of an epoch before or where a cable was plugged, or lawful
data IsEither (Fair : Type 0) (w : WorldState) (c : ℕ) (held : Held) : Type 0 where
  of_probe : {turns : List ℤ} {kind : Kind} {payload : List ℕ} → held.wire ≡ packet_of turns kind payload → IsProbeBody Fair turns kind payload → IsEither Fair w c held
  of_older : held.born < epoch_of w → IsEither Fair w c held
  of_former : IsPacketOf (is_former (epoch_of w)) held.wire → IsEither Fair w c held
  of_plugged : was_plugged w.links.cables ≡ true → IsPacketOf is_of_parts held.wire → IsEither Fair w c held
  of_route : IsLawful w c held → IsEither Fair w c held

way-either : (Fair : Type 0) (w : WorldState) (c : ℕ) (held : Held) {turns : List ℤ} {kind : Kind} {payload : List ℕ} → w.links.cables.accepted ≡ at_in w.adopted → held.marked ≡ false → held.wire ≡ packet_of turns kind payload → IsWay Fair w.links.cables (era_of w) c held.born held.wire turns kind payload → IsEither Fair w c held
way-either Fair w c held at m e (IsWay.probe p) = IsEither.of_probe e p
way-either Fair w c held at m e (IsWay.older low) = IsEither.of_older low
way-either Fair w c held {turns = turns} at m e (IsWay.former p) = IsEither.of_former (record { route = turns; body = p.body; written = e ∙ (λ i. packet_of turns (p.of_mapping i) (p.bytes i)); holds = p.former })
way-either Fair w c held {turns = turns} at m e (IsWay.plugged q p) = IsEither.of_plugged q (record { route = turns; body = p.body; written = e ∙ (λ i. packet_of turns (p.of_mapping i) (p.bytes i)); holds = p.of_parts })
way-either Fair w c held at m e (IsWay.part q p l) = IsEither.of_route (led-lawful w c held at m l (inr (unmet w.links.cables (ahead_by w is_in_place c held.wire) q)))
way-either Fair w c held {turns = turns} {payload = payload} at m e (IsWay.led gm all l) =
    let is : is_gm held.wire ≡ true = ap is_gm (e ∙ ap (λ k. packet_of turns k payload) gm) ∙ gm-is turns payload all in
    IsEither.of_route (led-lawful w c held at m l (inl is))

there-either : (Fair : Type 0) (w : WorldState) (c : ℕ) (held : Held) → w.links.cables.accepted ≡ at_in w.adopted → IsThere Fair w.links.cables (era_of w) c held → held.marked ≡ false → IsEither Fair w c held
there-either Fair w c held at is m = let b = is.sent.unflipped m in way-either Fair w c held at m b.written b.way

channel-either : (Fair : Type 0) (n : Network) (w : WorldState) (c : ℕ) (held : Held) (r : IsReached n w) → (Fair → AllByRecursion IsWalkAct r.acts) → packet_in w.links c ≡ Some held → held.marked ≡ false → IsEither Fair w c held
channel-either Fair n w c held r asks e m =
    let l = reached-led Fair n w r asks in
    there-either Fair w c held (reached-cables n w r).accepted (subst (λ o. IfSome o (IsThere Fair w.links.cables (era_of w) c)) e (l.links.in_channels c)) m

either-lawful : (Fair : Type 0) (w : WorldState) (c : ℕ) (held : Held) → IsEither Fair w c held → IsExcused IsProbe w held ⊎ IsLawful w c held
either-lawful Fair w c held (IsEither.of_probe {turns = turns} e p) = inl (IsExcused.probe (record { route = turns; body = p.body; written = e ∙ (λ i. packet_of turns (p.of_mapping i) (p.bytes i)); probe = p.probe }))
either-lawful Fair w c held (IsEither.of_older low) = inl (IsExcused.older low)
either-lawful Fair w c held (IsEither.of_former p) = inl (IsExcused.former p)
either-lawful Fair w c held (IsEither.of_plugged q p) = inl (IsExcused.plugged q p)
either-lawful Fair w c held (IsEither.of_route l) = inr l

-- whatever was asked: so Fair is nothing that holds
pub unflipped-lawful : UnflippedIsLawful
unflipped-lawful n w c held r e m = either-lawful ⊥ w c held (channel-either ⊥ n w c held r (λ x. absurd x) e m)

-- where asked walks are fair, a probe is read as one
either-read : (w : WorldState) (c : ℕ) (held : Held) → IsEither (Unit {0}) w c held → IsExcused IsReadAsProbe w held ⊎ IsLawful w c held
either-read w c held (IsEither.of_probe {turns = turns} e p) =
    let fits = p.reads tt in
    inl (IsExcused.probe (subst IsReadAsProbe (sym (e ∙ (λ i. packet_of turns (p.of_mapping i) (p.bytes i)))) (probe-is_read turns p.body fits.0 fits.1 p.probe)))
either-read w c held (IsEither.of_older low) = inl (IsExcused.older low)
either-read w c held (IsEither.of_former p) = inl (IsExcused.former p)
either-read w c held (IsEither.of_plugged q p) = inl (IsExcused.plugged q p)
either-read w c held (IsEither.of_route l) = inr l

pub unflipped-read : UnflippedIsRead
unflipped-read n w c held r asks e m = either-read w c held (channel-either (Unit {0}) n w c held r (λ x. asks) e m)

limbo-either : (Fair : Type 0) (n : Network) (w : WorldState) (place serial : ℕ) (caught : Caught) (r : IsReached n w) → (Fair → AllByRecursion IsWalkAct r.acts) → slice_get w.links.limbo place ≡ Some (serial, caught) → caught.held.marked ≡ false → IsEither Fair w caught.channel caught.held
limbo-either Fair n w place serial caught r asks e m =
    let l = reached-led Fair n w r asks in
    let F : ℕ × Caught → Type 0 = λ x. IsThere Fair w.links.cables (era_of w) x.1.channel x.1.held in
    there-either Fair w caught.channel caught.held (reached-cables n w r).accepted (all-at F w.links.limbo place (serial, caught) l.links.in_limbo e) m

pub limbo-lawful : LimboIsLawful
limbo-lawful n w place serial caught r e m = either-lawful ⊥ w caught.channel caught.held (limbo-either ⊥ n w place serial caught r (λ x. absurd x) e m)

pub limbo-read : LimboIsRead
limbo-read n w place serial caught r asks e m = either-read w caught.channel caught.held (limbo-either (Unit {0}) n w place serial caught r (λ x. asks) e m)
