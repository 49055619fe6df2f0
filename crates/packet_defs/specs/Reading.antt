-- Why bytes are no turns.
use Rattle.std.specs.Prelude.{ℤ, List, Option, Some, None}
use Rattle.packet_defs.specs.declared.turns.TurnFault.{TurnFault}
use Rattle.packet_defs.specs.declared.turns.TurnFault.TheVariants.{Malformed}

-- why no turns were read: a byte among them stands for none
abbrev pub missing : Option (List ℤ) → Option TurnFault
missing None = Some Malformed
missing (Some turns) = None
