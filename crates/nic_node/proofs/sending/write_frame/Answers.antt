use Rattle.std.proofs.Common.{◌≡◌, [], ◌∷◌, ◌++◌, length, map, ◌∙◌, ap, subst, arith}
use Rattle.std.specs.Prelude.{OnOk}
use Rattle.std.proofs.lemmas.List.{length-append, length-map}
use Rattle.packet_defs.specs.declared.kind.Kind.TheVariants.{Gm}
use Rattle.packet_defs.specs.Packet.{with_crc, head_of}
use Rattle.packet_defs.specs.RouteByte.{route_byte}
use Rattle.gm_defs.specs.Body.{frame_bytes}
use Rattle.myri_packet.proofs.Built.{front-behind}
use Rattle.nic_node.proofs.sending.write_frame.Goals as goal

pub write-requires : goal.write-requires
write-requires c =
    let way = c.args.by.now in
    let body = frame_bytes c.args.head.now c.args.part.now in
    let whole = ap length (c.as_slice.ensures.value ∙ c.in_ok-append_frame.ensures.bytes ∙ ap (λ l. l ++ body) c.in_ok-write_front.ensures.front) in
    let behind = length-append (head_of way Gm []) body in
    let two = length-append (map route_byte way) (0 ∷ 8 ∷ []) in
    let turns = length-map way route_byte in
    let few = c.in_ok-write_front.ensures.short in
    let short = c.in_ok-append_frame.ensures.few in
    omega (arith, whole, behind, two, turns, few, short)

pub returns : goal.returns
returns c =
    let body = frame_bytes c.args.head.now c.args.part.now in
    subst (λ head. OnOk c.write.result (c.write.new.self ≡ with_crc head))
    (c.as_slice.ensures.value ∙ c.in_ok-append_frame.ensures.bytes ∙ ap (λ l. l ++ body) c.in_ok-write_front.ensures.front
    ∙ front-behind c.args.by.now Gm body)
    c.write.ensures.ok
