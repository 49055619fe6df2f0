-- Packets for worked examples.
use Rattle.std.specs.Prelude.{ℕ, pos, List, [], ◌∷◌}
use Rattle.packet_defs.specs.declared.kind.Kind.TheVariants.{Mapping, Gm}
use Rattle.packet_defs.specs.Packet.{packet_of}

-- a mapping packet with one turn and no payload
abbrev pub short_packet : List ℕ
short_packet = packet_of (pos 3 ∷ []) Mapping []

-- a frame of three bytes, `ABC`, from host 0 to port 1 of host 1, by a route of one turn
abbrev pub frame : List ℕ
frame = packet_of (pos 3 ∷ []) Gm (1 ∷ 1 ∷ 0 ∷ 0 ∷ 0 ∷ 1 ∷ 0 ∷ 1 ∷ 0 ∷ 0 ∷ 0 ∷ 0 ∷ 0 ∷ 0 ∷ 0 ∷ 0 ∷ 3 ∷ 0 ∷ 0 ∷ 0 ∷ 0
    ∷ 0 ∷ 3 ∷ 65 ∷ 66 ∷ 67 ∷ [])
