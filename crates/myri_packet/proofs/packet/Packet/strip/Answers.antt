use Rattle.std.proofs.Common.{ap, sym, ◌∙◌, is_some}
use Rattle.packet_defs.specs.Packet.{difference}
use Rattle.packet_defs.proofs.Packets.{strip_keeps}
use Rattle.myri_packet.proofs.Built.{two_bytes}
use Rattle.myri_packet.proofs.packet.Packet.strip.Goals as goal

pub returns-then-is_some-clause-difference : goal.returns-then-is_some-clause-difference
returns-then-is_some-clause-difference c =
    ap difference c.strip_front.ensures ∙ strip_keeps c.args.self.now (two_bytes c.args.self.now (ap is_some (sym c.front_turn-turn.ensures) ∙ sym c.is_some.ensures ∙ c.if-is_some.true))
