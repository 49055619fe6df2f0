-- The first route that leads astray is the first from this one on.
use Rattle.std.proofs.Common.{◌≡◌, drop}
use Rattle.fab_judge.specs.Checks.{astray_from}
use Rattle.fab_judge.proofs.route_checks.first_astray.Given as goal

abbrev pub invariant-loop-place : goal.invariant-loop-place
invariant-loop-place l = astray_from l.map l.place (drop l.place l.routes) ≡ astray_from l.map 0 l.routes
