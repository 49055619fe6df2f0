use Rattle.std.proofs.Common.{◌≡◌, [], ◌∷◌, ◌++◌, length, map, ◌∙◌, ap, subst, arith}
use Rattle.std.specs.Prelude.{IfOk}
use Rattle.std.proofs.lemmas.List.{length-append, length-map}
use Rattle.packet_defs.specs.declared.kind.Kind.TheVariants.{Mapping}
use Rattle.packet_defs.specs.Packet.{with_crc, head_of}
use Rattle.packet_defs.specs.RouteByte.{route_byte}
use Rattle.world_defs.specs.Mapping.{mapping_bytes}
use Rattle.world_defs.specs.Mapping.MappingBody.{Part}
use Rattle.myri_packet.proofs.Built.{front-behind}
use Rattle.host_items.proofs.Sizes.{part-short}
use Rattle.host_items.proofs.staged.part_packet.Goals as goal

pub seal-requires : goal.seal-requires
seal-requires c =
    let route = c.turns.result.now in
    let body = mapping_bytes (Part c.args.part.now) in
    let front = map route_byte route in
    let whole = ap length (c.in_ok-append.ensures ∙ ap (λ l. l ++ body) c.in_ok-bytes.ensures) in
    let behind = length-append (head_of route Mapping []) body in
    let two = length-append front (0 ∷ 5 ∷ []) in
    let turns = length-map route route_byte in
    let few = c.turns.ensures.short in
    let short = part-short c.args.part.now c.requires in
    omega (arith, whole, behind, two, turns, few, short)

pub returns : goal.returns
returns c =
    let body = mapping_bytes (Part c.args.part.now) in
    subst (λ head. IfOk c.seal.result (λ p. p ≡ with_crc head))
    (c.in_ok-append.ensures ∙ ap (λ l. l ++ body) c.in_ok-bytes.ensures ∙ front-behind c.turns.result.now Mapping body
    ∙ ap (λ walk. head_of walk Mapping body) c.turns.ensures.value)
    c.seal.ensures
