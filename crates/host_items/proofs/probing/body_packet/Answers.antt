use Rattle.std.proofs.Common.{◌≡◌, [], ◌∷◌, ◌++◌, length, map, ◌∙◌, ap, subst, arith}
use Rattle.std.specs.Prelude.{IfOk}
use Rattle.std.proofs.lemmas.List.{length-append, length-map}
use Rattle.packet_defs.specs.declared.kind.Kind.TheVariants.{Mapping}
use Rattle.packet_defs.specs.Packet.{with_crc, head_of}
use Rattle.packet_defs.specs.RouteByte.{route_byte}
use Rattle.world_defs.specs.Mapping.{mapping_bytes}
use Rattle.myri_packet.proofs.Built.{front-behind}
use Rattle.probe.specs.Body.{said}
use Rattle.host_items.proofs.probing.body_packet.Goals as goal

pub seal-requires : goal.seal-requires
seal-requires c =
    let route = c.args.route.now in
    let body = mapping_bytes (said c.args.body.now) in
    let front = map route_byte route in
    let whole = ap length (c.in_ok-append.ensures.bytes ∙ ap (λ l. l ++ body) c.in_ok-bytes.ensures) in
    let behind = length-append (head_of route Mapping []) body in
    let two = length-append front (0 ∷ 5 ∷ []) in
    let turns = length-map route route_byte in
    let few = c.requires in
    let short = c.in_ok-append.ensures.few in
    omega (arith, whole, behind, two, turns, few, short)

pub returns : goal.returns
returns c =
    let body = mapping_bytes (said c.args.body.now) in
    subst (λ head. IfOk c.seal.result (λ p. p ≡ with_crc head))
    (c.in_ok-append.ensures.bytes ∙ ap (λ l. l ++ body) c.in_ok-bytes.ensures ∙ front-behind c.args.route.now Mapping body)
    c.seal.ensures
