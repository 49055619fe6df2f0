use Rattle.std.proofs.Common.{◌≡◌, drop, nat_eq}
use Rattle.std.specs.Prelude.{find}
use Rattle.route_install.specs.Collecting.{joined_all}
use Rattle.route_install.proofs.finding.first_route.Given as goal

abbrev pub invariant-loop-part : goal.invariant-loop-part
invariant-loop-part l = find (λ e. nat_eq e.to l.to) (joined_all l.parts) ≡ find (λ e. nat_eq e.to l.to) (joined_all (drop l.part-index l.parts))
