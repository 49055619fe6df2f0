use Rattle.std.proofs.Common.{◌≡◌, ◌++◌, ◌∙◌, ap, subst}
use Rattle.std.specs.Prelude.{IfOk}
use Rattle.packet_defs.specs.Packet.{with_crc}
use Rattle.myri_packet.proofs.Built.{front-behind}
use Rattle.myri_packet.proofs.building.encode.Goals as goal

pub returns : goal.returns
returns c =
    let payload = c.args.payload.now in
    subst (λ head. IfOk c.seal.result (λ p. p ≡ with_crc head))
    (c.in_ok-extend_from_slice.ensures.items ∙ ap (λ l. l ++ payload) c.in_ok-bytes.ensures ∙ front-behind c.args.route.now c.args.kind payload)
    c.seal.ensures
