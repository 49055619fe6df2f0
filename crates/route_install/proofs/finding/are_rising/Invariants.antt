use Rattle.std.proofs.Common.{◌≡◌, ◌≤◌, ◌^◌, drop}
use Rattle.route_install.specs.Collecting.{joined_all}
use Rattle.route_install.specs.Finding.{rises_from}
use Rattle.route_install.proofs.finding.are_rising.Given as goal

abbrev pub invariant-loop-part : goal.invariant-loop-part
invariant-loop-part l = (rises_from l.least (joined_all (drop l.part-index l.parts)) ≡ rises_from 0 (joined_all l.parts)) × (l.least ≤ 2 ^ 16)
