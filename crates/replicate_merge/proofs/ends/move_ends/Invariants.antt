use Rattle.std.proofs.Common.{◌≡◌, ◌≤◌, ◌+◌, length, vec_len, vec_capacity}
use Rattle.replicate_merge.specs.Ends.{known_ends, MovesBelow}
use Rattle.replicate_merge.proofs.ends.move_ends.Given as goal

abbrev pub invariant-loop-place : goal.invariant-loop-place
invariant-loop-place l = record {
  moved : MovesBelow l.place l.from l.to l.by (known_ends l.initial.ends.items) (known_ends l.ends.items) l.initial.todo.items l.todo.items;
  same : length l.ends.items ≡ length l.initial.ends.items;
  within : l.place ≤ 31;
  few : vec_len l.todo ≤ vec_len l.initial.todo + l.place;
  capacity : vec_capacity l.todo ≡ vec_capacity l.initial.todo;
}
