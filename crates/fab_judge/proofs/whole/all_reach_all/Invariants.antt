-- From this vertex on all are reached exactly where all are from each.
use Rattle.std.proofs.Common.{◌≡◌, drop}
use Rattle.std.specs.List.{list_all}
use Rattle.fab_judge.specs.Checks.{reaches_all}
use Rattle.fab_judge.proofs.whole.all_reach_all.Given as goal

abbrev pub invariant-loop-from : goal.invariant-loop-from
invariant-loop-from l = list_all (reaches_all l.routes l.vertices) (drop l.from-index l.vertices) ≡ list_all (reaches_all l.routes l.vertices) l.vertices
