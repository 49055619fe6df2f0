-- What a host hears leaves what it has staged on walks of the set.
use Rattle.std.proofs.Common.{◌≡◌, ◌<◌, ◌^◌, ℕ, ℤ, nat_lt, true, ◌&&◌, List, IfSome, refl, sym, subst, arith, Ok}
use Rattle.std.proofs.lemmas.Bool.Decides.{nat_tests}
use Rattle.packet_defs.specs.declared.kind.Kind.{Kind}
use Rattle.packet_defs.specs.declared.kind.Kind.TheVariants.{Mapping}
use Rattle.packet_defs.specs.Host.{decode as decode_packet}
use Rattle.gm_defs.specs.Body.{part_in}
use Rattle.world_defs.specs.Mapping.{RoutePart, is_route, is_mapping}
use Rattle.world_defs.specs.Mapping.MappingBody.{HostProbe}
use Rattle.gm_defs.proofs.Choices.{both}
use Rattle.world_defs.specs.declared.applied.Applied.{Applied}
use Rattle.world_defs.specs.declared.applied.Applied.TheVariants.{Part as OnePart, Active, Old}
use Rattle.world_defs.specs.declared.arrival.Arrival.{Arrival}
use Rattle.world_defs.specs.Table.{applied}
use Rattle.world_defs.specs.Lane.{tickets_finished}
use Rattle.world_defs.specs.Node.{NodeState, lane_at}
use Rattle.world_defs.specs.Hearing.{part_answer, frame_took, hear, ack_lane}
use Rattle.world_defs.proofs.Hearings.{Hearing, hearing, delivered_after-rest, all_finished-rest}
use Rattle.lawful_laws.proofs.Walks.{Era, IsOfEra, IsWalkFrom}
use Rattle.lawful_laws.proofs.Bodies.{decode-rules}
use Rattle.lawful_laws.proofs.Sends.{HasWayBack, IsFitReply, IsOwn}

probe-reply : (number mapper : ℕ) (back : List ℤ) → is_mapping (HostProbe number mapper back) ≡ true → IsFitReply (record { number = number; back = back })
probe-reply number mapper back rules =
    let a = both (nat_lt number (2 ^ 64) && nat_lt mapper (2 ^ 16)) (is_route back) rules in
    let b = both (nat_lt number (2 ^ 64)) (nat_lt mapper (2 ^ 16)) a.0 in
    let t = b.0 in
    let low : number < 2 ^ 64 = grind (arith, nat_tests) in
    record { number = low; back = a.1 }

pub hear-own : (Fair : Type 0) (era : Era) (host hosts : ℕ) (n : NodeState) (wire : List ℕ) → IsOwn Fair era host n → ((k : Kind) (body : List ℕ) → decode_packet wire ≡ Ok (k, body) → HasWayBack era k body) → IsOwn Fair era host (hear host hosts n wire).1
hear-own Fair era host hosts n wire is good = by (hearing host hosts n wire)
  where
    answered : (p : RoutePart) (a : Applied) → IsOfEra era p.epoch (IsWalkFrom era.routes host p.back) → IfSome (part_answer n.part_ack p a) (λ x. IsOfEra era x.epoch (IsWalkFrom era.routes host x.back))
    answered p OnePart back = back
    answered p Active back = back
    answered p Old back = is.ack

    by : {r : Arrival × NodeState} → Hearing host hosts n wire r → IsOwn Fair era host r.1
    by (Hearing.stays a) = is
    by (Hearing.probe body number mapper back e d) = record { staged = is.staged; reply = probe-reply number mapper back (decode-rules body (HostProbe number mapper back) d); ack = is.ack }
    by (Hearing.part body p e d mine) =
        let back = subst (λ h. IsOfEra era p.epoch (IsWalkFrom era.routes h p.back)) mine ((good Mapping body e).part p refl d) in
        record { staged = is.staged; reply = is.reply; ack = answered p (applied n.table p).0 back }
    by (Hearing.frame body h e d mine from) = subst (IsOwn Fair era host) (sym (delivered_after-rest _ h (part_in body) (frame_took n h))) (record { staged = is.staged; reply = is.reply; ack = is.ack })
    by (Hearing.ack body a e d mine from) = subst (IsOwn Fair era host) (sym (all_finished-rest _ (tickets_finished (lane_at n (ack_lane a)) a.next))) (record { staged = is.staged; reply = is.reply; ack = is.ack })
