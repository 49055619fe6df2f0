use Rattle.std.proofs.Common.{◌≡◌, drop, nat_eq}
use Rattle.std.specs.Prelude.{find}
use Rattle.route_install.proofs.finding.walk_in.Given as goal

abbrev pub invariant-loop-entry : goal.invariant-loop-entry
invariant-loop-entry l = find (λ e. nat_eq e.to l.to) l.entries ≡ find (λ e. nat_eq e.to l.to) (drop l.entry-index l.entries)
