-- What a host makes of a packet, by what was read of it: a view of `hear`.
use Rattle.std.proofs.Common.{◌≡◌, ◌<◌, ℕ, ℤ, Bool, true, false, ◌&&◌, List, [], ◌∷◌, nat_eq, nat_lt, Option, Some, None, option_map, Result, Ok, Err, refl, ap, arith}
use Rattle.std.proofs.lemmas.Bool.Decides.{nat_tests}
use Rattle.packet_defs.specs.declared.kind.Kind.{Kind}
use Rattle.packet_defs.specs.declared.kind.Kind.TheVariants.{Mapping, Gm}
use Rattle.packet_defs.specs.declared.host_drop.HostDrop.{HostDrop}
use Rattle.packet_defs.specs.declared.host_drop.HostDrop.TheVariants.{Malformed}
use Rattle.packet_defs.specs.Host.{decode as decode_packet}
use Rattle.gm_defs.specs.declared.frame.FrameHead.{FrameHead}
use Rattle.gm_defs.specs.declared.frame.Ack.{Ack}
use Rattle.gm_defs.specs.declared.frame.GmBody.{GmBody}
use Rattle.gm_defs.specs.declared.frame.GmBody.TheVariants.{Frame, Ack as Acknowledges}
use Rattle.gm_defs.specs.declared.frame.Malformed.{Malformed as NoBody}
use Rattle.gm_defs.specs.declared.token.Took.{Took}
use Rattle.gm_defs.specs.declared.token.Took.TheVariants.{NotNext as TookNotNext, NoToken as TookNoToken, Part as TookPart, Whole}
use Rattle.gm_defs.specs.Body.{decode, part_in}
use Rattle.gm_defs.specs.Port.{finished}
use Rattle.gm_defs.proofs.Choices.{both}
use Rattle.world_defs.specs.Mapping.{RoutePart, MappingBody, decode_mapping}
use Rattle.world_defs.specs.Mapping.MappingBody.{HostProbe, HostReply, Loopback, Part, PartAck}
use Rattle.world_defs.specs.declared.heard.Heard.{Heard}
use Rattle.world_defs.specs.declared.heard.Heard.TheVariants.{Probe, Reply, Loop, Routes, RoutesAck, Ack as AckHeard}
use Rattle.world_defs.specs.declared.arrival.Arrival.{Arrival}
use Rattle.world_defs.specs.declared.arrival.Arrival.TheVariants.{Heard as Hears, Dropped, NotMine}
use Rattle.world_defs.specs.Table.{applied}
use Rattle.world_defs.specs.Lane.{Ticket}
use Rattle.world_defs.specs.Node.{NodeState, port_at, with_port}
use Rattle.world_defs.specs.Hearing.{is_host, heard_if, is_part_for, part_heard, delivered_after, all_finished, frame_heard, frame_took, ack_heard, mapping_read, messages_read, packet_read, hear_body, hear}

-- A host, one of so many, stays as it is; or it was probed, or has a part of its table, a frame or an acknowledgement.
pub data Hearing (host hosts : ℕ) (n : NodeState) (wire : List ℕ) : Arrival × NodeState → Type 0 where
  stays : (a : Arrival) → Hearing host hosts n wire (a, n)
  probe : (body : List ℕ) (number mapper : ℕ) (back : List ℤ) → decode_packet wire ≡ Ok (Mapping, body) → decode_mapping body ≡ Some (HostProbe number mapper back)
      → Hearing host hosts n wire (Hears Probe, record n { reply = Some (record { number = number; back = back }) })
  part : (body : List ℕ) (p : RoutePart) → decode_packet wire ≡ Ok (Mapping, body) → decode_mapping body ≡ Some (Part p) → p.dst ≡ host → Hearing host hosts n wire (Hears Routes, part_heard n p (applied n.table p))
  frame : (body : List ℕ) (h : FrameHead) → decode_packet wire ≡ Ok (Gm, body) → decode body ≡ Ok (Frame h) → h.dst ≡ host → h.src < hosts
      → Hearing host hosts n wire (Hears (frame_heard n h (part_in body) (frame_took n h)).0, (frame_heard n h (part_in body) (frame_took n h)).1)
  ack : (body : List ℕ) (a : Ack) → decode_packet wire ≡ Ok (Gm, body) → decode body ≡ Ok (Acknowledges a) → a.dst ≡ host → a.src < hosts → Hearing host hosts n wire (Hears AckHeard, ack_heard n a)

module _ (host hosts : ℕ) (n : NodeState) (wire : List ℕ) where
  heard_if-view : (b : Bool) (r : Heard × NodeState) → (b ≡ true → Hearing host hosts n wire (Hears r.0, r.1)) → Hearing host hosts n wire (heard_if b n r)
  heard_if-view true (heard, after) k = k refl
  heard_if-view false (heard, after) k = Hearing.stays NotMine

  named : (dst src : ℕ) → (nat_eq dst host && is_host hosts src) ≡ true → (dst ≡ host) × (src < hosts)
  named dst src e =
      let t = both (nat_eq dst host) (nat_lt src hosts) e in
      let a = t.0 in
      let b = t.1 in
      (grind (arith, nat_tests), grind (arith, nat_tests))

  part-named : (p : RoutePart) → is_part_for host hosts p ≡ true → p.dst ≡ host
  part-named p e = (named p.dst p.mapper (both (nat_eq p.dst host && is_host hosts p.mapper) _ e).0).0

  mapping-view : (body : List ℕ) (o : Option MappingBody) → decode_packet wire ≡ Ok (Mapping, body) → decode_mapping body ≡ o → Hearing host hosts n wire (hear_body host hosts n (mapping_read o))
  mapping-view body None e d = Hearing.stays (Dropped Malformed)
  mapping-view body (Some (HostProbe number mapper back)) e d = heard_if-view (is_host hosts mapper) _ (λ t. Hearing.probe body number mapper back e d)
  mapping-view body (Some (HostReply number from)) e d = heard_if-view (is_host hosts from) _ (λ t. Hearing.stays (Hears (Reply number from)))
  mapping-view body (Some (Loopback number mapper)) e d = heard_if-view (nat_eq mapper host) _ (λ t. Hearing.stays (Hears (Loop number)))
  mapping-view body (Some (Part p)) e d = heard_if-view (is_part_for host hosts p) _ (λ t. Hearing.part body p e d (part-named p t))
  mapping-view body (Some (PartAck epoch from place)) e d = heard_if-view (is_host hosts from) _ (λ t. Hearing.stays (Hears (RoutesAck epoch from place)))

  messages-view : (body : List ℕ) (r : Result GmBody NoBody) → decode_packet wire ≡ Ok (Gm, body) → decode body ≡ r → Hearing host hosts n wire (hear_body host hosts n (messages_read body r))
  messages-view body (Err x) e d = Hearing.stays (Dropped Malformed)
  messages-view body (Ok (Frame h)) e d =
      heard_if-view (nat_eq h.dst host && is_host hosts h.src) (frame_heard n h (part_in body) (frame_took n h)) (λ t. let m = named h.dst h.src t in Hearing.frame body h e d m.0 m.1)
  messages-view body (Ok (Acknowledges a)) e d = heard_if-view (nat_eq a.dst host && is_host hosts a.src) _ (λ t. let m = named a.dst a.src t in Hearing.ack body a e d m.0 m.1)

  packet-view : (r : Result (Kind × List ℕ) HostDrop) → decode_packet wire ≡ r → Hearing host hosts n wire (hear_body host hosts n (packet_read r))
  packet-view (Err drop) e = Hearing.stays (Dropped drop)
  packet-view (Ok (Mapping, body)) e = mapping-view body (decode_mapping body) e refl
  packet-view (Ok (Gm, body)) e = messages-view body (decode body) e refl

  pub hearing : Hearing host hosts n wire (hear host hosts n wire)
  unfolding hear
  hearing = packet-view (decode_packet wire) refl

  -- and what is heard of bytes that are read so
  pub heard-as : (r : Result (Kind × List ℕ) HostDrop) → decode_packet wire ≡ r → hear host hosts n wire ≡ hear_body host hosts n (packet_read r)
  unfolding hear
  heard-as r e = ap (λ x. hear_body host hosts n (packet_read x)) e

-- a fragment that is delivered, and sends that are finished, change a host's ports alone
pub delivered_after-rest : (n : NodeState) (h : FrameHead) (bytes : List ℕ) (t : Took) → delivered_after n h bytes t ≡ record n { ports = (delivered_after n h bytes t).ports }
delivered_after-rest n h bytes TookNotNext = refl
delivered_after-rest n h bytes TookNoToken = refl
delivered_after-rest n h bytes TookPart = refl
delivered_after-rest n h bytes Whole = refl

pub all_finished-rest : (n : NodeState) (ts : List Ticket) → all_finished n ts ≡ record n { ports = (all_finished n ts).ports }
all_finished-rest n [] = refl
all_finished-rest n (t ∷ ts) = all_finished-rest (with_port n t.port (option_map (λ p. finished p t.token) (port_at n t.port))) ts

pub delivered_after-lanes : (n : NodeState) (h : FrameHead) (bytes : List ℕ) (t : Took) → (delivered_after n h bytes t).lanes ≡ n.lanes
delivered_after-lanes n h bytes t = ap (λ m. m.lanes) (delivered_after-rest n h bytes t)

pub all_finished-lanes : (n : NodeState) (ts : List Ticket) → (all_finished n ts).lanes ≡ n.lanes
all_finished-lanes n ts = ap (λ m. m.lanes) (all_finished-rest n ts)
