-- What was counted bounds the hops of the channels that were passed.
use Rattle.std.proofs.Common.{◌≤◌, ◌*◌, ◌-◌, length}
use Rattle.faulty_links.proofs.HopsBelow.{hops_below}
use Rattle.faulty_links.proofs.reach.hops_bound.Given as goal

abbrev pub invariant-loop-c : goal.invariant-loop-c
invariant-loop-c l = record {
  within : l.from ≤ length l.links.channels;
  seen : hops_below l.links.channels l.from ≤ l.bound;
  few : l.bound ≤ 1107 * l.from;
}

abbrev pub decreases-loop-c : goal.decreases-loop-c
decreases-loop-c l = length l.links.channels - l.from
