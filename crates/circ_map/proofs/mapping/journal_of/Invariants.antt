use Rattle.std.proofs.Common.{◌≡◌, take}
use Rattle.circ_map.proofs.mapping.journal_of.Given as goal

abbrev pub invariant-loop-at : goal.invariant-loop-at
invariant-loop-at l = l.journal ≡ record { host = l.host; entries = take l.at l.found }
