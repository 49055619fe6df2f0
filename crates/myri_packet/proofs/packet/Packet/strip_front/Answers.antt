use Rattle.std.proofs.Common.{◌≤◌, List, ℕ, length, sym, ap, subst, ◌∙◌}
use Rattle.packet_defs.specs.Packet.{stripped}
use Rattle.myri_packet.specs.Kept.{wire_of}
use Rattle.myri_packet.proofs.Kept.{strip-off}
use Rattle.myri_packet.proofs.packet.Packet.strip_front.Goals as goal

pub returns : goal.returns
returns c =
    let p = c.self.inside in
    ap (λ head. wire_of head p.difference) c.advance.ensures.items
    ∙ strip-off p.head.items p.difference (subst (λ (wire : List ℕ). 2 ≤ length wire) (sym c.self.view_is) c.requires)
    ∙ ap stripped c.self.view_is
