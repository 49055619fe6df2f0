-- What a host sends: a probe or a reply, or a packet that a route of the set leads.
use Rattle.std.proofs.Common.{◌≡◌, ◌<◌, ◌≤◌, ◌^◌, inl, inr, arith, nat_lt, ℕ, Bool, true, false, ◌&&◌, true≢false, ℤ, pos, List, [], ◌∷◌, ◌++◌, Option, Some, None, IfSome, option_map, refl, subst, if◌then◌else◌}
use Rattle.std.specs.Prelude.{option_and_then}
use Rattle.std.specs.List.{AllByRecursion, list_all}
use Rattle.std.proofs.lemmas.Bool.Decides.{nat_tests}
use Rattle.std.proofs.lemmas.Option.{same_Some}
use Rattle.net_defs.specs.Turn.{IsTurn, is_turn}
use Rattle.net_defs.specs.Route.{host_port}
use Rattle.world_defs.specs.History.{CableHistory, IsHistory, was_plugged}
use Rattle.world_defs.specs.Crossed.{leaving, is_new}
use Rattle.world_defs.proofs.Left.{unplugged-old}
use Rattle.packet_defs.specs.declared.kind.Kind.{Kind}
use Rattle.packet_defs.specs.declared.kind.Kind.TheVariants.{Mapping, Gm}
use Rattle.packet_defs.specs.Packet.{packet_of}
use Rattle.world_defs.specs.Links.{Held}
use Rattle.gm_defs.specs.declared.frame.FrameHead.{FrameHead}
use Rattle.gm_defs.specs.Body.{frame_bytes, ack_bytes}
use Rattle.world_defs.specs.Mapping.{RoutePart, MappingBody, is_route, is_mapping, decode_mapping, mapping_bytes}
use Rattle.world_defs.specs.Mapping.MappingBody.{HostProbe, HostReply, Loopback, Part, PartAck}
use Rattle.world_defs.specs.Table.{table_route}
use Rattle.world_defs.specs.Node.{NodeState, Staged, StagedReply, StagedAck, StagedProbe, StagedPart, Outgoing, Probe, TablePart, Reply, PartAnswer, FrameAnswer, Fragment, is_message, peer_of, takes_from, lane_at, lane_route, way_back, outgoing_staged, owed_on, due_on, due_frame, either, first_some, lanes_of, to_send, packet_for}
use Rattle.table_laws.specs.Set.{IsFitPart}
use Rattle.table_laws.proofs.Sets.{RouteFits}
use Rattle.table_laws.proofs.Written.{part-read}
use Rattle.lawful_laws.specs.Probes.{is_probe}
use Rattle.lawful_laws.specs.Former.{is_of_parts, is_former}
use Rattle.lawful_laws.proofs.Ahead.{IsLedBy}
use Rattle.lawful_laws.proofs.Walks.{Era, IsOfEra, IsWalkFrom, walk-turns, led-start}
use Rattle.lawful_laws.proofs.Bodies.{probe-no_part, ack-no_part}
use Rattle.lawful_laws.proofs.Turns.{both-true, two-fit, route-turns, back-route, loop-turns}
use Rattle.gm_defs.specs.Connection.{ack_on}

-- the way back of a part that is read of a body is a walk of the set from the host that it names
pub record HasWayBack (era : Era) (kind : Kind) (payload : List ℕ) : Type 0 where
  pub part : (p : RoutePart) → kind ≡ Mapping → decode_mapping payload ≡ Some (Part p) → IsOfEra era p.epoch (IsWalkFrom era.routes p.dst p.back)

-- a route, a kind and a payload of a probe or a reply: read as such, where asked walks are fair
pub record IsProbeBody (Fair : Type 0) (turns : List ℤ) (kind : Kind) (payload : List ℕ) : Type 0 where
  pub of_mapping : kind ≡ Mapping
  pub body : MappingBody
  pub bytes : payload ≡ mapping_bytes body
  pub probe : is_probe body ≡ true
  pub reads : Fair → AllByRecursion IsTurn turns × (is_mapping body ≡ true)

-- a kind and a payload of a part, or of the acknowledgement of one, of an epoch before
pub record IsFormerBody (number : ℕ) (kind : Kind) (payload : List ℕ) : Type 0 where
  pub of_mapping : kind ≡ Mapping
  pub body : MappingBody
  pub bytes : payload ≡ mapping_bytes body
  pub former : is_former number body ≡ true

-- a kind and a payload of a part, or of the acknowledgement of one
pub record IsPartBody (kind : Kind) (payload : List ℕ) : Type 0 where
  pub of_mapping : kind ≡ Mapping
  pub body : MappingBody
  pub bytes : payload ≡ mapping_bytes body
  pub of_parts : is_of_parts body ≡ true

-- why a packet is where it is: it is a probe's, older than the epoch, of a part of an epoch before, or of a part where a
-- cable was plugged since; or a route of the set leads it, as a part where none was plugged, or as a message
pub data IsWay (Fair : Type 0) (cables : CableHistory) (era : Era) (c born : ℕ) (wire : List ℕ) (turns : List ℤ) (kind : Kind) (payload : List ℕ) : Type 0 where
  probe : IsProbeBody Fair turns kind payload → IsWay Fair cables era c born wire turns kind payload
  older : born < era.number → IsWay Fair cables era c born wire turns kind payload
  former : IsFormerBody era.number kind payload → IsWay Fair cables era c born wire turns kind payload
  plugged : was_plugged cables ≡ true → IsPartBody kind payload → IsWay Fair cables era c born wire turns kind payload
  part : was_plugged cables ≡ false → IsPartBody kind payload → IsLedBy cables era.routes c wire → IsWay Fair cables era c born wire turns kind payload
  led : kind ≡ Gm → list_all is_turn turns ≡ true → IsLedBy cables era.routes c wire → IsWay Fair cables era c born wire turns kind payload

-- a packet on its way, as it was built
pub record IsOnWay (Fair : Type 0) (cables : CableHistory) (era : Era) (c born : ℕ) (wire : List ℕ) : Type 0 where
  pub turns : List ℤ
  pub kind : Kind
  pub payload : List ℕ
  pub written : wire ≡ packet_of turns kind payload
  pub good : HasWayBack era kind payload
  pub way : IsWay Fair cables era c born wire turns kind payload

-- no packet is of a later epoch, and each that no flip has met is on its way
pub record IsSent (Fair : Type 0) (cables : CableHistory) (era : Era) (c : ℕ) (held : Held) : Type 0 where
  pub born : held.born ≤ era.number
  pub unflipped : held.marked ≡ false → IsOnWay Fair cables era c held.born held.wire

-- a staged part goes by a walk of the set, and has one as its way back; a staged probe has a fair walk, if all are
abbrev pub IsOwnStaged : Type 0 → Era → ℕ → Staged → Type 0
IsOwnStaged Fair era host (StagedProbe walk looped) = Fair → is_route walk ≡ true
IsOwnStaged Fair era host (StagedPart p by) = IsOfEra era p.epoch (IsWalkFrom era.routes host by × IsWalkFrom era.routes p.dst p.back) × IsFitPart p

-- a reply's numbers fit
pub record IsFitReply (r : StagedReply) : Type 0 where
  pub number : r.number < 2 ^ 64
  pub back : is_route r.back ≡ true

-- what a host has staged goes by walks of the set from it, but for probes and replies
pub record IsOwn (Fair : Type 0) (era : Era) (host : ℕ) (n : NodeState) : Type 0 where
  pub staged : IfSome n.staged (IsOwnStaged Fair era host)
  pub reply : IfSome n.reply IsFitReply
  pub ack : IfSome n.part_ack (λ a. IsOfEra era a.epoch (IsWalkFrom era.routes host a.back))

-- and so does what it sends
abbrev pub IsOut : Type 0 → Era → ℕ → Outgoing → Type 0
IsOut Fair era host (Probe walk looped) = Fair → is_route walk ≡ true
IsOut Fair era host (TablePart p by) = IsOfEra era p.epoch (IsWalkFrom era.routes host by × IsWalkFrom era.routes p.dst p.back) × IsFitPart p
IsOut Fair era host (Reply r) = IsFitReply r
IsOut Fair era host (PartAnswer a) = IsOfEra era a.epoch (IsWalkFrom era.routes host a.back)
IsOut Fair era host (FrameAnswer lane next by) = IsWalkFrom era.routes host by
IsOut Fair era host (Fragment lane head bytes by) = IsWalkFrom era.routes host by

either-holds : {A : Type 0} (P : A → Type 0) (a b : Option A) → ((x : A) → a ≡ Some x → P x) → ((x : A) → b ≡ Some x → P x) → (x : A) → either a b ≡ Some x → P x
either-holds P (Some y) b f g x e = f x e
either-holds P None b f g x e = g x e

first_some-holds : {A : Type 0} (P : A → Type 0) (f : ℕ → Option A) → ((k : ℕ) (x : A) → f k ≡ Some x → P x) → (ks : List ℕ) (x : A) → first_some f ks ≡ Some x → P x
first_some-holds P f all [] x e = cc
first_some-holds P f all (k ∷ ks) x e = either-holds P (f k) (first_some f ks) (all k) (first_some-holds P f all ks) x e

staged-out : (Fair : Type 0) (era : Era) (host : ℕ) (s : Option Staged) (x : Outgoing) → IfSome s (IsOwnStaged Fair era host) → option_map outgoing_staged s ≡ Some x → IsOut Fair era host x
staged-out Fair era host None x is e = cc
staged-out Fair era host (Some (StagedProbe walk looped)) x is e = subst (IsOut Fair era host) (same_Some (Probe walk looped) x e) is
staged-out Fair era host (Some (StagedPart taken by)) x is e = subst (IsOut Fair era host) (same_Some (TablePart taken by) x e) is

reply-out : (Fair : Type 0) (era : Era) (host : ℕ) (s : Option StagedReply) (x : Outgoing) → IfSome s IsFitReply → option_map Reply s ≡ Some x → IsOut Fair era host x
reply-out Fair era host None x is e = cc
reply-out Fair era host (Some r) x is e = subst (IsOut Fair era host) (same_Some (Reply r) x e) is

answer-out : (Fair : Type 0) (era : Era) (host : ℕ) (s : Option StagedAck) (x : Outgoing) → IfSome s (λ a. IsOfEra era a.epoch (IsWalkFrom era.routes host a.back)) → option_map PartAnswer s ≡ Some x → IsOut Fair era host x
answer-out Fair era host None x is e = cc
answer-out Fair era host (Some a) x is e = subst (IsOut Fair era host) (same_Some (PartAnswer a) x e) is

owed-out : (Fair : Type 0) (era : Era) (host lane next : ℕ) (b : Bool) (r : Option (List ℤ)) (x : Outgoing) → ((walk : List ℤ) → r ≡ Some walk → IsWalkFrom era.routes host walk) → (if b then option_map (λ by. FrameAnswer lane next by) r else None) ≡ Some x → IsOut Fair era host x
owed-out Fair era host lane next true None x k e = cc
owed-out Fair era host lane next true (Some by) x k e = subst (IsOut Fair era host) (same_Some (FrameAnswer lane next by) x e) (k by refl)
owed-out Fair era host lane next false r x k e = cc

routed-out : (Fair : Type 0) (era : Era) (host lane : ℕ) (f : FrameHead × List ℕ) (r : Option (List ℤ)) (x : Outgoing) → ((walk : List ℤ) → r ≡ Some walk → IsWalkFrom era.routes host walk) → option_map (λ by. Fragment lane f.0 f.1 by) r ≡ Some x → IsOut Fair era host x
routed-out Fair era host lane f None x k e = cc
routed-out Fair era host lane f (Some by) x k e = subst (IsOut Fair era host) (same_Some (Fragment lane f.0 f.1 by) x e) (k by refl)

due-out : (Fair : Type 0) (era : Era) (host : ℕ) (n : NodeState) (lane : ℕ) (f : Option (FrameHead × List ℕ)) (x : Outgoing) → ((walk : List ℤ) → lane_route n lane ≡ Some walk → IsWalkFrom era.routes host walk)
    → option_and_then (λ f. option_map (λ by. Fragment lane f.0 f.1 by) (lane_route n lane)) f ≡ Some x → IsOut Fair era host x
due-out Fair era host n lane None x k e = cc
due-out Fair era host n lane (Some f) x k e = routed-out Fair era host lane f (lane_route n lane) x k e

-- what a host sends first, where its table has walks of the set alone
pub to_send-out : (Fair : Type 0) (era : Era) (host : ℕ) (n : NodeState) (x : Outgoing) → IsOwn Fair era host n → ((peer : ℕ) (walk : List ℤ) → table_route n.table peer ≡ Some walk → IsWalkFrom era.routes host walk) → to_send host n ≡ Some x → IsOut Fair era host x
unfolding to_send
to_send-out Fair era host n x is k e =
    let P : Outgoing → Type 0 = IsOut Fair era host in
    either-holds P (option_map outgoing_staged n.staged) _ (λ y. staged-out Fair era host n.staged y is.staged)
    (either-holds P (option_map Reply n.reply) _ (λ y. reply-out Fair era host n.reply y is.reply)
    (either-holds P (option_map PartAnswer n.part_ack) _ (λ y. answer-out Fair era host n.part_ack y is.ack)
    (either-holds P (first_some (owed_on n) (lanes_of n)) _
    (first_some-holds P (owed_on n) (λ lane y. owed-out Fair era host lane (lane_at n lane).taken (lane_at n lane).owes (lane_route n lane) y (k (peer_of lane))) (lanes_of n))
    (first_some-holds P (due_on host n) (λ lane y. due-out Fair era host n lane (due_frame host n lane) y (k (peer_of lane))) (lanes_of n)))))
    x e

-- its packet, in the channel of the host's port
gm_body : (era : Era) (payload : List ℕ) → HasWayBack era Gm payload
gm_body era payload = record { part = λ p e. absurd (apart e) }
  where
    apart : Gm ≡ Mapping → ⊥
    apart e = cc

probe-on_way : (Fair : Type 0) (cables : CableHistory) (era : Era) (c born : ℕ) (turns : List ℤ) (body : MappingBody) → is_probe body ≡ true → (Fair → AllByRecursion IsTurn turns × (is_mapping body ≡ true)) → IsOnWay Fair cables era c born (packet_of turns Mapping (mapping_bytes body))
probe-on_way Fair cables era c born turns body is reads = record {
  turns = turns;
  kind = Mapping;
  payload = mapping_bytes body;
  written = refl;
  good = record { part = λ p k e. absurd (probe-no_part body p is e) };
  way = IsWay.probe (record { of_mapping = refl; body = body; bytes = refl; probe = is; reads = reads });
}

message-on_way : (Fair : Type 0) (cables : CableHistory) (era : Era) (c born host : ℕ) (walk : List ℤ) (payload : List ℕ) → IsHistory cables → AllByRecursion RouteFits era.routes → leaving cables (host_port host) ≡ Some c → is_new cables c ≡ false → IsWalkFrom era.routes host walk → IsOnWay Fair cables era c born (packet_of walk Gm payload)
message-on_way Fair cables era c born host walk payload history fit e old x = record {
  turns = walk;
  kind = Gm;
  payload = payload;
  written = refl;
  good = gm_body era payload;
  way = IsWay.led refl (walk-turns era.routes host walk fit x) (led-start cables era.routes c host walk Gm payload history fit e old x);
}

-- a part of this epoch, or an acknowledgement of one
current-way : (Fair : Type 0) (cables : CableHistory) (era : Era) (c born host : ℕ) (walk : List ℤ) (body : MappingBody) → IsHistory cables → is_of_parts body ≡ true → AllByRecursion RouteFits era.routes → leaving cables (host_port host) ≡ Some c → IsWalkFrom era.routes host walk
    → IsWay Fair cables era c born (packet_of walk Mapping (mapping_bytes body)) walk Mapping (mapping_bytes body)
current-way Fair cables era c born host walk body history is fit e x = by (was_plugged cables) refl
  where
    of_part : IsPartBody Mapping (mapping_bytes body)
    of_part = record { of_mapping = refl; body = body; bytes = refl; of_parts = is }

    by : (b : Bool) → was_plugged cables ≡ b → IsWay Fair cables era c born (packet_of walk Mapping (mapping_bytes body)) walk Mapping (mapping_bytes body)
    by true p = IsWay.plugged p of_part
    by false p = IsWay.part p of_part (led-start cables era.routes c host walk Mapping (mapping_bytes body) history fit e (unplugged-old cables c p) x)

current-on_way : (Fair : Type 0) (cables : CableHistory) (era : Era) (c born host : ℕ) (walk : List ℤ) (body : MappingBody) → IsHistory cables → is_of_parts body ≡ true → AllByRecursion RouteFits era.routes → leaving cables (host_port host) ≡ Some c → IsWalkFrom era.routes host walk → HasWayBack era Mapping (mapping_bytes body)
    → IsOnWay Fair cables era c born (packet_of walk Mapping (mapping_bytes body))
current-on_way Fair cables era c born host walk body history is fit e x good =
    record { turns = walk; kind = Mapping; payload = mapping_bytes body; written = refl; good = good; way = current-way Fair cables era c born host walk body history is fit e x }

former-on_way : (Fair : Type 0) (cables : CableHistory) (era : Era) (c born : ℕ) (turns : List ℤ) (body : MappingBody) → is_former era.number body ≡ true → HasWayBack era Mapping (mapping_bytes body) → IsOnWay Fair cables era c born (packet_of turns Mapping (mapping_bytes body))
former-on_way Fair cables era c born turns body is good = record {
  turns = turns;
  kind = Mapping;
  payload = mapping_bytes body;
  written = refl;
  good = good;
  way = IsWay.former (record { of_mapping = refl; body = body; bytes = refl; former = is });
}

lower : (a b : ℕ) → a < b → nat_lt a b ≡ true
lower a b low = grind (arith, nat_tests)

part-on_way : (Fair : Type 0) (cables : CableHistory) (era : Era) (c born host : ℕ) (p : RoutePart) (by : List ℤ) → IsHistory cables → AllByRecursion RouteFits era.routes → leaving cables (host_port host) ≡ Some c → IsFitPart p → IsOfEra era p.epoch (IsWalkFrom era.routes host by × IsWalkFrom era.routes p.dst p.back) → IsOnWay Fair cables era c born (packet_of by Mapping (mapping_bytes (Part p)))
part-on_way Fair cables era c born host p by history fit e fits (inl low) =
    former-on_way Fair cables era c born by (Part p) (lower p.epoch era.number low) (record { part = λ q k d. subst (λ (r : RoutePart). IsOfEra era r.epoch (IsWalkFrom era.routes r.dst r.back)) (part-read p q fits d) (inl low) })
part-on_way Fair cables era c born host p by history fit e fits (inr (same, walks)) =
    current-on_way Fair cables era c born host by (Part p) history refl fit e walks.0 (record { part = λ q k d. subst (λ (r : RoutePart). IsOfEra era r.epoch (IsWalkFrom era.routes r.dst r.back)) (part-read p q fits d) (inr (same, walks.1)) })

ack-on_way : (Fair : Type 0) (cables : CableHistory) (era : Era) (c born host : ℕ) (a : StagedAck) → IsHistory cables → AllByRecursion RouteFits era.routes → leaving cables (host_port host) ≡ Some c → IsOfEra era a.epoch (IsWalkFrom era.routes host a.back) → IsOnWay Fair cables era c born (packet_of a.back Mapping (mapping_bytes (PartAck a.epoch host a.part)))
ack-on_way Fair cables era c born host a history fit e (inl low) =
    former-on_way Fair cables era c born a.back (PartAck a.epoch host a.part) (lower a.epoch era.number low) (record { part = λ p k d. absurd (ack-no_part a.epoch host a.part p d) })
ack-on_way Fair cables era c born host a history fit e (inr (same, walk)) =
    current-on_way Fair cables era c born host a.back (PartAck a.epoch host a.part) history refl fit e walk (record { part = λ p k d. absurd (ack-no_part a.epoch host a.part p d) })

-- a message isn't put into a new cable
sent-old : (b : Bool) → (b && true) ≡ false → b ≡ false
sent-old true e = absurd (true≢false e)
sent-old false e = refl

pub packet-on_way : (Fair : Type 0) (cables : CableHistory) (era : Era) (c born host number : ℕ) (x : Outgoing) → IsHistory cables → AllByRecursion RouteFits era.routes → leaving cables (host_port host) ≡ Some c → (is_new cables c && is_message x) ≡ false → host < 2 ^ 16 → number < 2 ^ 64 → IsOut Fair era host x → IsOnWay Fair cables era c born (packet_for host number x)
unfolding packet_for
packet-on_way Fair cables era c born host number (Probe walk true) history fit e allowed near low is = probe-on_way Fair cables era c born (walk ++ pos 0 ∷ way_back walk) (Loopback number host) refl (λ f. (loop-turns walk (is f), two-fit number host low near))
packet-on_way Fair cables era c born host number (Probe walk false) history fit e allowed near low is =
    probe-on_way Fair cables era c born walk (HostProbe number host (way_back walk)) refl (λ f. (route-turns walk (is f), both-true _ (is_route (way_back walk)) (two-fit number host low near) (back-route walk (is f))))
packet-on_way Fair cables era c born host number (TablePart p by) history fit e allowed near low is = part-on_way Fair cables era c born host p by history fit e is.1 is.0
packet-on_way Fair cables era c born host number (Reply r) history fit e allowed near low is = probe-on_way Fair cables era c born r.back (HostReply r.number host) refl (λ f. (route-turns r.back is.back, two-fit r.number host is.number near))
packet-on_way Fair cables era c born host number (PartAnswer a) history fit e allowed near low is = ack-on_way Fair cables era c born host a history fit e is
packet-on_way Fair cables era c born host number (FrameAnswer lane next by) history fit e allowed near low is =
    message-on_way Fair cables era c born host by (ack_bytes (ack_on (takes_from host lane) next)) history fit e (sent-old (is_new cables c) allowed) is
packet-on_way Fair cables era c born host number (Fragment lane head bytes by) history fit e allowed near low is =
    message-on_way Fair cables era c born host by (frame_bytes head bytes) history fit e (sent-old (is_new cables c) allowed) is
