use Rattle.std.proofs.Common.{ap, ◌∙◌}
use Rattle.std.specs.Int.Bits.{bit_xor}
use Rattle.packet_defs.specs.Crc.{crc}
use Rattle.myri_packet.specs.Kept.{wire_of}
use Rattle.myri_packet.proofs.Kept.{checked}
use Rattle.myri_packet.proofs.packet.Packet.with_check.Goals as goal

pub returns : goal.returns
returns c =
    let head = c.args.head.items in
    let check = c.args.check in
    ap (λ due. wire_of head (bit_xor check due)) (c.crc.ensures ∙ ap crc c.as_slice.ensures) ∙ checked head check
