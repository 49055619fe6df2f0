-- Each packet that no flip has met is honest: what stands after the route bytes is what was built.
use Rattle.std.proofs.Common.{◌≡◌, ◌+◌, ◌*◌, ◌≤◌, ℕ, suc, Bool, true, false, ℤ, List, [], ◌∷◌, drop, None, IfSome, Ok, sym, ap, ◌∙◌, subst, arith, if◌then◌else◌}
use Rattle.std.specs.List.{prefix_len}
use Rattle.std.proofs.lemmas.Bool.Decides.{nat_tests}
use Rattle.packet_defs.specs.declared.kind.Kind.{Kind}
use Rattle.packet_defs.specs.declared.kind.Kind.TheVariants.{Mapping, Gm}
use Rattle.packet_defs.specs.RouteByte.{route_byte, is_route_byte}
use Rattle.packet_defs.specs.Crc.{crc}
use Rattle.packet_defs.specs.Packet.{head_of, head}
use Rattle.packet_defs.specs.Host.{kind_of, of_kind, body_of}
use Rattle.packet_defs.proofs.Packets.{head-push}
use Rattle.world_defs.specs.Links.{Held}
use Rattle.gm_defs.specs.declared.frame.GmBody.TheVariants.{Ack as Acknowledges}
use Rattle.world_defs.specs.World.{WorldState}
use Rattle.world_defs.specs.Kinds.{unrouted}
use Rattle.world_defs.specs.Traffic.{sent_on, IsHonest as IsHonestIn}
use Rattle.table_laws.specs.Packets.{IsHonest}
use Rattle.message_laws.specs.Says.{SaysTrue}
use Rattle.message_laws.proofs.Frames.{at-place}
use Rattle.message_laws.specs.Windows.{TrafficIsHonest}
use Rattle.message_laws.proofs.Windows.{IsWindowed, numbers_of, reached-windowed}

-- bytes without the route bytes in front
abbrev behind_route : List ℕ → List ℕ
behind_route bytes = drop (prefix_len is_route_byte bytes) bytes

-- no kind has a type that begins with a high byte
high-kind : (high low : ℕ) → 128 ≤ high → kind_of (256 * high + low) ≡ None
high-kind high low h = grind (arith, nat_tests)

high-body : (high : ℕ) (bytes : List ℕ) (r : Kind × List ℕ) → 128 ≤ high → body_of (high ∷ bytes) ≡ Ok r → ⊥
high-body high [] r h e = cc
high-body high (low ∷ bytes) r h e = let bad = sym (ap (λ k. of_kind k bytes) (high-kind high low h)) ∙ e in cc

-- what is read after the route of a packet is its kind and its payload
behind-read : (route : List ℤ) (kind k : Kind) (payload body : List ℕ) → body_of (behind_route (head_of route kind payload)) ≡ Ok (k, body) → ◌≡◌ {A = Kind × List ℕ} (kind, payload) (k, body)
behind-read [] Mapping k payload body e = cc
behind-read [] Gm k payload body e = cc
behind-read (turn ∷ route) kind k payload body e = by (is_route_byte (route_byte turn)) (behind-read route kind k payload body) e
  where
    rest : List ℕ
    rest = head_of route kind payload

    by : (b : Bool) → (body_of (behind_route rest) ≡ Ok (k, body) → ◌≡◌ {A = Kind × List ℕ} (kind, payload) (k, body)) → body_of (drop (if b then 1 + prefix_len is_route_byte rest else 0) (route_byte turn ∷ rest)) ≡ Ok (k, body) → ◌≡◌ {A = Kind × List ℕ} (kind, payload) (k, body)
    by true again d =
        let s : suc (prefix_len is_route_byte rest) ≡ 1 + prefix_len is_route_byte rest = omega arith in
        again (ap (λ j. body_of (drop j (route_byte turn ∷ rest))) s ∙ d)
    by false again d = absurd (high-body (route_byte turn) rest (k, body) (omega arith) d)

packet-read : (G : Kind → List ℕ → Type 0) (held : Held) (k : Kind) (body : List ℕ) → IsHonest G held → held.marked ≡ false → body_of (unrouted held.wire) ≡ Ok (k, body) → G k body
packet-read G held k body is m e =
    let b = is.built m in
    let same : head held.wire ≡ head_of b.route b.kind b.payload = ap head b.written ∙ head-push (head_of b.route b.kind b.payload) (crc (head_of b.route b.kind b.payload)) in
    let pair : ◌≡◌ {A = Kind × List ℕ} (b.kind, b.payload) (k, body) = behind-read b.route b.kind k b.payload body (ap (λ h. body_of (behind_route h)) (sym same) ∙ e) in
    subst (λ x. G x.0 x.1) pair b.good

held-honest : (w : WorldState) (held : Held) → IsHonest (SaysTrue (sent_on w)) held → IsHonest (numbers_of w) held → IsHonestIn w held
held-honest w held frames numbers = record {
  frames = λ h body m e d. packet-read (SaysTrue (sent_on w)) held Gm body frames m e h d;
  acks = λ a body m e d. packet-read (numbers_of w) held Gm body numbers m e (Acknowledges a) d;
}

pub traffic-honest : TrafficIsHonest
traffic-honest n w is =
    let r : IsWindowed w = reached-windowed n w is in
    record {
      in_channels = λ c held e. held-honest w held (subst (λ o. IfSome o (IsHonest (SaysTrue (sent_on w)))) e (r.ordered.links.in_channels c)) (subst (λ o. IfSome o (IsHonest (numbers_of w))) e (r.links.in_channels c));
      in_limbo = λ place serial caught e.
          held-honest w caught.held (at-place (λ x. IsHonest (SaysTrue (sent_on w)) x.1.held) w.links.limbo place (serial, caught) r.ordered.links.in_limbo e)
          (at-place (λ x. IsHonest (numbers_of w) x.1.held) w.links.limbo place (serial, caught) r.links.in_limbo e);
    }
