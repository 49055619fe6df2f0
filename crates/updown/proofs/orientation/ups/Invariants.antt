use Rattle.std.proofs.Common.{◌≡◌, map}
use Rattle.journal_defs.specs.Counting.{numbers_below}
use Rattle.map_defs.specs.Orientation.{is_up}
use Rattle.updown.specs.Oriented.{port_at}
use Rattle.updown.proofs.orientation.ups.Given as goal

abbrev pub invariant-loop-k : goal.invariant-loop-k
invariant-loop-k l = l.ups.items ≡ map (λ k. is_up l.m l.order (port_at k)) (numbers_below l.k)
