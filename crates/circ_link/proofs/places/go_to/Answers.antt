use Rattle.std.proofs.Common.{◌≡◌, Bool, true, false, not, refl, take}
use Rattle.std.specs.Cmp.Rules.{signed_items}
use Rattle.circ_link.proofs.places.go_to.Goals as goal

shut : (b : Bool) → false ≡ not b → b ≡ true
shut true e = refl
shut false e = e

pub returns-else-ne-clause-turns : goal.returns-else-ne-clause-turns
returns-else-ne-clause-turns c = (signed_items (take c.args.walk.now.count c.args.walk.now.turns) c.args.turns.now).0 (shut _ c.if-ne.ensures)
