use Rattle.std.proofs.Common.{◌≡◌, take, map}
use Rattle.fabric_wiring.proofs.tables.ports_of.Given as goal

abbrev pub invariant-loop-s : goal.invariant-loop-s
invariant-loop-s l = l.ports.items ≡ map (λ w. w.ports) (take l.s l.f.switches)
