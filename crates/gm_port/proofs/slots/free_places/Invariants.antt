use Rattle.std.proofs.Common.{◌≡◌, length, vec_capacity}
use Rattle.gm_port.specs.Table.{AreFree}
use Rattle.gm_port.proofs.slots.free_places.Given as goal

abbrev pub invariant-loop : goal.invariant-loop
invariant-loop g l = record {
  free : AreFree l.places.items;
  count : length l.places.items ≡ l.counter;
  room : vec_capacity l.places ≡ l.count;
}
