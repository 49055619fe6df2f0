-- The first so many sends are finished.
use Rattle.std.proofs.Common.{◌≡◌, take}
use Rattle.nic_node.specs.Messages.{finished_in}
use Rattle.nic_node.proofs.messages.finish.Given as goal

abbrev pub invariant-loop-place : goal.invariant-loop-place
invariant-loop-place l = l.ports ≡ finished_in l.initial.ports (take l.place l.lane.state.pending)
