use Rattle.std.proofs.Common.{◌≡◌, take, map}
use Rattle.world_defs.specs.History.{first_wire}
use Rattle.fabric_wiring.proofs.tables.wires_of.Given as goal

abbrev pub invariant-loop-k : goal.invariant-loop-k
invariant-loop-k l = l.wires.items ≡ map first_wire (take l.k l.f.cables)
