use Rattle.std.proofs.Common.{◌≡◌, ◌++◌, map, not, nat_eq, drop}
use Rattle.std.specs.List.{filter}
use Rattle.route_install.specs.Installing.{new_work}
use Rattle.route_install.proofs.installer.works_for.Given as goal

abbrev pub invariant-loop-host : goal.invariant-loop-host
invariant-loop-host l = map (new_work l.parts) (filter (λ h. not (nat_eq h l.mapper)) l.hosts) ≡ l.works.items ++ map (new_work l.parts) (filter (λ h. not (nat_eq h l.mapper)) (drop l.host-index l.hosts))
