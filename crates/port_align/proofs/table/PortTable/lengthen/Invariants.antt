use Rattle.std.proofs.Common.{◌≡◌, ℕ, ◌*◌, ◌-◌, length, None, get_or}
use Rattle.port_align.proofs.table.PortTable.lengthen.Given as goal

abbrev pub invariant-longer : goal.invariant-longer
invariant-longer l = (k : ℕ) → get_or l.self.items k None ≡ get_or l.initial.self.items k None

abbrev pub decreases-longer : goal.decreases-longer
decreases-longer l = 31 * l.numbers - length l.self.items
