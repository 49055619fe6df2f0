-- What a host makes of a part of its table that was taken.
use Rattle.std.specs.Prelude.{ℕ, ℤ, List, Some}
use Rattle.world_defs.specs.declared.applied.Applied.{Applied}
use Rattle.world_defs.specs.declared.applied.Applied.TheVariants.{Part as OnePart, Active, Old}
use Rattle.world_defs.specs.Node.{NodeState}

-- a part that was taken is acknowledged by its way back, and an old one isn't
abbrev pub answered_part : NodeState → Applied → ℕ → ℕ → List ℤ → NodeState
answered_part n OnePart epoch part back =
    record n { part_ack = Some (record { epoch = epoch; part = part; back = back }) }
answered_part n Active epoch part back =
    record n { part_ack = Some (record { epoch = epoch; part = part; back = back }) }
answered_part n Old epoch part back = n
