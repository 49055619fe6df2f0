use Rattle.std.proofs.Common.{◌≡◌, ◌≤◌, ◌++◌, length, take, vec_len, vec_capacity}
use Rattle.gm_port.specs.Table.{AreFree, held_in}
use Rattle.gm_port.proofs.slots.SendSlots.into_list.Given as goal

abbrev pub invariant-loop-ticket : goal.invariant-loop-ticket
invariant-loop-ticket l = record {
  listed : l.listed.items ++ held_in l.self ≡ held_in l.initial.self;
  free : AreFree (take l.ticket l.self);
  few : vec_len l.listed ≤ l.ticket;
  long : length l.self ≡ l.count;
  room : l.count ≤ vec_capacity l.listed;
}
