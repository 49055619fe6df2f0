-- What a host makes of a packet that was built, and of one that was flipped.
use Rattle.std.proofs.Common.{◌≡◌, ◌<◌, ◌≤◌, ◌+◌, ◌*◌, ℕ, Bool, true, false, nat_eq, List, [], length, Ok, Err, refl, sym, subst, arith, if◌then◌else◌}
use Rattle.std.proofs.lemmas.Bool.Decides.{nat_tests}
use Rattle.packet_defs.specs.declared.kind.Kind.{Kind}
use Rattle.packet_defs.specs.declared.kind.Kind.TheVariants.{Mapping, Gm}
use Rattle.packet_defs.specs.declared.host_drop.HostDrop.TheVariants.{BadCrc, RouteLeft}
use Rattle.packet_defs.specs.Crc.{crc}
use Rattle.packet_defs.specs.Packet.{head_of, packet_of, head, difference, stripped_times}
use Rattle.packet_defs.specs.Burst.{flipped}
use Rattle.packet_defs.specs.Host.{decode, has_route, body_of}
use Rattle.packet_defs.proofs.Packets.{head-push, packet_of-difference, strips_keep}
use Rattle.packet_defs.proofs.Bursts.{length-flipped, flip-seen}

body_of-head_of : (kind : Kind) (payload : List ℕ) → body_of (head_of [] kind payload) ≡ Ok (kind, payload)
body_of-head_of Mapping payload = refl
body_of-head_of Gm payload = refl

-- a packet without route bytes is what it was built of
pub decode-packet_of : (kind : Kind) (payload : List ℕ) → decode (packet_of [] kind payload) ≡ Ok (kind, payload)
decode-packet_of kind payload =
    let h = head_of [] kind payload in
    rw (packet_of-difference [] kind payload, head-push h (crc h)) (body_of-head_of kind payload)

-- a difference is seen
pub decode-difference : (wire : List ℕ) → 0 < difference wire → decode wire ≡ Err BadCrc
decode-difference wire h = by (nat_eq (difference wire) 0) refl
  where
    by : (t : Bool) → nat_eq (difference wire) 0 ≡ t → (if t then if has_route (head wire) then Err RouteLeft else body_of (head wire) else Err BadCrc) ≡ Err BadCrc
    by true e = absurd (grind (arith, nat_tests))
    by false e = refl

-- at every host, after any number of strips
pub decode-flipped : (n : ℕ) (wire : List ℕ) (bit pattern : ℕ) → difference wire ≡ 0 → 0 < pattern → pattern < 256 → bit + 8 ≤ 8 * length wire → n < length wire → decode (stripped_times n (flipped wire bit pattern)) ≡ Err BadCrc
decode-flipped n wire bit pattern none h k room few =
    let long = length-flipped wire bit pattern in
    let w = flipped wire bit pattern in
    decode-difference (stripped_times n w) (subst (λ x. 0 < x) (sym (strips_keep n w (omega (arith, long)))) (flip-seen wire bit pattern none h k room))
