-- So many places, all of them empty, and room for the others.
use Rattle.std.proofs.Common.{◌≡◌, None, vec_capacity, vec_len}
use Rattle.std.specs.Prelude.{replicate}
use Rattle.client_host.proofs.host.no_clients.Given as goal

abbrev pub invariant-loop : goal.invariant-loop
invariant-loop l = record {
  empty : l.clients.items ≡ replicate l.counter None;
  len : vec_len l.clients ≡ l.counter;
  room : vec_capacity l.clients ≡ 8;
}
