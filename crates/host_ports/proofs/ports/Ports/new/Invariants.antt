-- So many ports, all closed, and room for the others.
use Rattle.std.proofs.Common.{◌≡◌, None, vec_capacity, vec_len}
use Rattle.std.specs.Prelude.{replicate}
use Rattle.host_ports.proofs.ports.Ports.new.Given as goal

abbrev pub invariant-loop : goal.invariant-loop
invariant-loop l = record {
  closed : l.ports.items ≡ replicate l.counter None;
  len : vec_len l.ports ≡ l.counter;
  room : vec_capacity l.ports ≡ 8;
}
