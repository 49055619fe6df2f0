-- So many connections, none of them used, and room for the others.
use Rattle.std.proofs.Common.{◌≡◌, vec_capacity, vec_len}
use Rattle.gm_conn.proofs.Places.{AreFirst}
use Rattle.gm_conn.proofs.lanes.Lanes.new.Given as goal

abbrev pub invariant-loop-lane : goal.invariant-loop-lane
invariant-loop-lane l = record {
  first : AreFirst l.host l.lane l.lanes.items;
  len : vec_len l.lanes ≡ l.lane;
  room : vec_capacity l.lanes ≡ l.count;
}
