use Rattle.std.proofs.Common.{◌≡◌, ◌+◌, ◌≤◌, ◌++◌, length, map, vec_len, vec_capacity}
use Rattle.gm_port.proofs.buffers.list_provided.Given as goal

abbrev pub invariant-loop-taken : goal.invariant-loop-taken
invariant-loop-taken l = record {
  listed : l.listed.items ++ map (λ r. (r.token, r.buffer)) l.provided.items ≡ map (λ r. (r.token, r.buffer)) l.initial.provided.items;
  room : vec_len l.listed + length l.provided.items ≤ vec_capacity l.listed;
}

abbrev pub decreases-loop-taken : goal.decreases-loop-taken
decreases-loop-taken l = length l.provided.items
