use Rattle.std.proofs.Common.{◌≡◌, ◌<◌, ◌^◌, drop}
use Rattle.probe.specs.Chained.{hash_of}
use Rattle.probe.proofs.chains.hash_of.Given as goal

abbrev pub invariant-loop-turn : goal.invariant-loop-turn
invariant-loop-turn l = (hash_of l.hash (drop l.turn-index l.turns) ≡ hash_of 0 l.turns) × (l.hash < 2 ^ 32)
