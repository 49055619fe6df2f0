use Rattle.std.proofs.Common.{◌≡◌, drop}
use Rattle.circ_link.specs.Exits.{are_free}
use Rattle.circ_link.proofs.circuit.are_free.Given as goal

abbrev pub invariant-loop-at : goal.invariant-loop-at
invariant-loop-at l = are_free l.f l.both (drop l.at l.exits) ≡ are_free l.f l.both l.exits
