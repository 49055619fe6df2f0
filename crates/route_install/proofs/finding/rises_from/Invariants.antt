use Rattle.std.proofs.Common.{◌≡◌, ◌≤◌, ◌^◌, drop}
use Rattle.route_install.specs.Finding.{rises_from}
use Rattle.route_install.proofs.finding.rises_from.Given as goal

abbrev pub invariant-loop-entry : goal.invariant-loop-entry
invariant-loop-entry l = (rises_from l.least (drop l.entry-index l.entries) ≡ rises_from l.first l.entries) × (l.least ≤ 2 ^ 16)
