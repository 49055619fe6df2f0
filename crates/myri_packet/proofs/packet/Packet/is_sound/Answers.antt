use Rattle.std.proofs.Common.{nat_eq, sym, ap, ◌∙◌}
use Rattle.packet_defs.specs.Packet.{difference}
use Rattle.myri_packet.proofs.Kept.{wire_of-difference}
use Rattle.myri_packet.proofs.packet.Packet.is_sound.Goals as goal

pub returns : goal.returns
returns c =
    let p = c.self.inside in
    ap (λ d. nat_eq d 0) (sym (wire_of-difference p.head.items p.difference) ∙ ap difference c.self.view_is)
