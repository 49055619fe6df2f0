-- The vertices from this one on are reached exactly where all are.
use Rattle.std.proofs.Common.{◌≡◌, drop}
use Rattle.std.specs.List.{list_all}
use Rattle.fab_judge.specs.Checks.{reaches}
use Rattle.fab_judge.proofs.whole.host_reaches_all.Given as goal

abbrev pub invariant-loop-to : goal.invariant-loop-to
invariant-loop-to l = list_all (reaches l.routes l.a) (drop l.to-index l.vertices) ≡ list_all (reaches l.routes l.a) l.vertices
