use Rattle.std.proofs.Common.{◌≡◌, map}
use Rattle.std.specs.Prelude.{slice_index}
use Rattle.journal_defs.specs.Counting.{numbers_below}
use Rattle.updown.proofs.places.levelled.Given as goal

abbrev pub invariant-loop-v : goal.invariant-loop-v
invariant-loop-v l = l.vertices.items ≡ map (λ v. (slice_index l.levels v, v)) (numbers_below l.v)
