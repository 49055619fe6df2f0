-- Nothing goes by a lane before this one, and the numbers rise.
use Rattle.std.proofs.Common.{◌-◌, length}
use Rattle.world_defs.specs.Node.{owed_on}
use Rattle.nic_node.specs.Held.{state_of}
use Rattle.nic_node.proofs.Choosing.{NothingBelow}
use Rattle.nic_node.proofs.node.NicNode.next_answer.Given as goal

abbrev pub invariant-loop-owed : goal.invariant-loop-owed
invariant-loop-owed l = NothingBelow (owed_on (state_of l.self-inside.items l.self-inside.table l.self-inside.lanes l.self-inside.ports)) l.from

abbrev pub decreases-loop-owed : goal.decreases-loop-owed
decreases-loop-owed l = length l.self.state.lanes - l.from
