use Rattle.std.proofs.Common.{◌≡◌, ◌+◌, drop}
use Rattle.route_install.specs.Collecting.{place_of}
use Rattle.route_install.proofs.collected.place_of.Given as goal

abbrev pub invariant-loop-place : goal.invariant-loop-place
invariant-loop-place l = place_of l.part l.parts ≡ place_of l.part (drop l.place l.parts) + l.place
