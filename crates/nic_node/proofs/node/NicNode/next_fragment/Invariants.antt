-- Nothing goes by a lane before this one, and the numbers rise.
use Rattle.std.proofs.Common.{◌-◌, length}
use Rattle.world_defs.specs.Node.{due_on}
use Rattle.nic_node.specs.Held.{state_of}
use Rattle.nic_node.proofs.Choosing.{NothingBelow}
use Rattle.nic_node.proofs.node.NicNode.next_fragment.Given as goal

abbrev pub invariant-loop-due : goal.invariant-loop-due
invariant-loop-due l = NothingBelow (due_on l.self-inside.lanes.host (state_of l.self-inside.items l.self-inside.table l.self-inside.lanes l.self-inside.ports)) l.from

abbrev pub decreases-loop-due : goal.decreases-loop-due
decreases-loop-due l = length l.self.state.lanes - l.from
