use Rattle.std.proofs.Common.{◌≡◌, ℕ, ◌<◌, pos, ◌-ℤ◌, true, is_some}
use Rattle.net_defs.specs.Turn.{is_turn}
use Rattle.map_defs.specs.NetMap.{far_port}
use Rattle.fabric_map.proofs.Tables.{port_of_place}
use Rattle.fabric_map.proofs.cabling.Cabling.are_near.Given as goal

abbrev pub invariant-loop-k : goal.invariant-loop-k
invariant-loop-k l = (k : ℕ) → k < l.k → k < 31 → is_some (far_port l.self (port_of_place l.v k)) ≡ true → is_turn ((pos k -ℤ pos 15) -ℤ l.p) ≡ true
