use Rattle.std.proofs.Common.{◌≤◌, ◌+◌, ◌*◌, length}
use Rattle.std.specs.Prelude.{vec_capacity}
use Rattle.replicate_merge.specs.Nodes.{nodes_of}
use Rattle.replicate_merge.specs.Rounds.{KeepsSettling}
use Rattle.replicate_merge.proofs.settling.Joined.settle.Given as goal

abbrev pub invariant-settling : goal.invariant-settling
invariant-settling l = record {
  keeps : KeepsSettling (nodes_of l.walks) l.initial.self l.initial.self.todo.items l.self l.self.todo.items;
  room : 31 * length l.self.heads.names.items + length l.self.todo.items ≤ vec_capacity l.self.todo;
}

abbrev pub decreases-settling : goal.decreases-settling
decreases-settling l = 31 * length l.self.heads.names.items + length l.self.todo.items
