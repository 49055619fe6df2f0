-- Offsets between the ports of nodes (alignment of replicates, Mainwaring et al., SPAA 1997), as numbers that add.
use Rattle.std.specs.Prelude.{ℤ, ◌+ℤ◌, ◌-ℤ◌, nat_eq, if◌then◌else◌, Option, Some, None}
use Rattle.net_defs.specs.Turn.{is_turn}
use Rattle.port_align.specs.declared.frame.ClassFrame.{ClassFrame}

-- One offset after another: their sum, where it is from -15 to 15.
abbrev pub composed : ℤ → ℤ → Option ℤ
composed j k = if is_turn (j +ℤ k) then Some (j +ℤ k) else None

-- How far the ports of one node lie from another's: port p of the first is port p + k of the second. Only nodes of
-- one class have such a k.
abbrev pub apart : ClassFrame → ClassFrame → Option ℤ
apart u v = if nat_eq u.class v.class then Some (u.offset -ℤ v.offset) else None
