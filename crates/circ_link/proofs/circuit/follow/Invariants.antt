use Rattle.std.proofs.Common.{◌≡◌, ◌++◌, Some, take, drop}
use Rattle.net_defs.specs.Network.{far}
use Rattle.net_defs.specs.Route.{entered_after, host_port}
use Rattle.circ_link.specs.Exits.{exits_after, exits_of}
use Rattle.circ_link.proofs.circuit.follow.Given as goal

abbrev pub invariant-loop-at : goal.invariant-loop-at
invariant-loop-at l = record {
  exits : take l.at l.exits ++ exits_after l.f (Some l.exit) (drop l.at l.turns) ≡ exits_of l.f l.host l.turns;
  entered : entered_after l.f (far l.f l.exit) (drop l.at l.turns) ≡ entered_after l.f (far l.f (host_port l.host)) l.turns;
}
