use Rattle.std.proofs.Common.{◌<◌, length, sym, subst, arith, rules}
use Rattle.fabric_map.proofs.Listings.{few_switches, index-switch}
use Rattle.fabric_map.proofs.vertices.Vertices.push_switch.Goals as goal

pub overflow_cast-self-inside : goal.overflow_cast-self-inside
overflow_cast-self-inside c =
    let r : length c.self.inside.vertices.items < 4294967295 = subst (λ m. length m.vertices < 4294967295) (sym c.self.view_is) c.requires in
    let few = few_switches c.self.inside.vertices.items in
    let counted = c.self.invariant.counted in
    let low : c.self.inside.switches < 4294967296 = omega arith in
    search (rules, low)

pub overflow_add-self : goal.overflow_add-self
overflow_add-self c =
    let r : length c.self.inside.vertices.items < 4294967295 = subst (λ m. length m.vertices < 4294967295) (sym c.self.view_is) c.requires in
    let few = few_switches c.self.inside.vertices.items in
    let counted = c.self.invariant.counted in
    let low : c.self.inside.switches < 4294967296 = omega arith in
    search (rules, low)

pub invariant_of-self-2 : goal.invariant_of-self-2
invariant_of-self-2 c =
    rw c.in_ok-push.ensures.items (index-switch c.self.inside.vertices.items c.self.inside.switches c.self.inside.by_address.items c.self.invariant)
