use Rattle.std.proofs.Common.{◌≡◌}
use Rattle.route_making.specs.Listed.{map_hosts_below}
use Rattle.route_making.proofs.hosts.hosts_of_map.Given as goal

abbrev pub invariant-loop-h : goal.invariant-loop-h
invariant-loop-h l = l.list.items ≡ map_hosts_below l.h l.fn.m
