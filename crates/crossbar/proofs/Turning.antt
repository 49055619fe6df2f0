-- A packet that goes out has a turn in front, and keeps its difference.
use Rattle.std.proofs.Common.{◌≡◌, ℕ, true, List, Option, Some, None, is_some, refl, sym}
use Rattle.std.specs.Prelude.{ℤ}
use Rattle.packet_defs.specs.Packet.{difference, front_turn, stripped}
use Rattle.packet_defs.proofs.Packets.{strip_keeps}
use Rattle.world_defs.specs.declared.turned.Turned.{Turned}
use Rattle.world_defs.specs.declared.turned.Turned.TheVariants.{Out, OutOfRange, NotRoute}
use Rattle.world_defs.specs.Switch.{aim, aim_of, after_aim}
use Rattle.myri_packet.proofs.Built.{two_bytes}

pub out-turn : (ports entry port : ℕ) (wire : List ℕ) → aim ports entry wire ≡ Out port → is_some (front_turn wire) ≡ true
out-turn ports entry port wire e = by (front_turn wire) e
  where
    by : (o : Option ℤ) → aim_of ports entry o ≡ Out port → is_some o ≡ true
    by None e = cc
    by (Some turn) e = refl

out-keeps : (ports entry port : ℕ) (wire : List ℕ) → aim ports entry wire ≡ Out port → difference (stripped wire) ≡ difference wire
out-keeps ports entry port wire e = strip_keeps wire (two_bytes wire (out-turn ports entry port wire e))

pub aimed-keeps : (ports entry : ℕ) (wire : List ℕ) (t : Turned) → t ≡ aim ports entry wire → difference (after_aim t wire) ≡ difference wire
aimed-keeps ports entry wire (Out port) e = out-keeps ports entry port wire (sym e)
aimed-keeps ports entry wire OutOfRange e = refl
aimed-keeps ports entry wire NotRoute e = refl
