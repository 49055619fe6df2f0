-- those counted so far, and then those from here on, are all; at most one was counted for each host
use Rattle.std.proofs.Common.{◌≡◌, ◌≤◌, ◌+◌, drop}
use Rattle.table_installing.specs.Installing.{acked_among}
use Rattle.table_installing.proofs.installing.acked_among.Given as goal

abbrev pub invariant-loop-host : goal.invariant-loop-host
invariant-loop-host l = record {
  counted : l.count + acked_among l.installer (drop l.host-index l.hosts) ≡ acked_among l.installer l.hosts;
  few : l.count ≤ l.host-index;
}
