use Rattle.std.proofs.Common.{ap, sym, ◌∙◌, subst}
use Rattle.map_defs.specs.NetMap.{NetMap, map_far}
use Rattle.fabric_map.specs.Growing.{IsFabricMap, with_cables}
use Rattle.fabric_map.proofs.map.FabricMap.put_cables.Goals as goal

pub put-requires-clause-turns : goal.put-requires-clause-turns
put-requires-clause-turns c = c.requires.map.is_map.ports_in_range

pub put-requires-clause-same : goal.put-requires-clause-same
put-requires-clause-same c d = c.requires.same d ∙ ap (λ (m : NetMap). map_far m d) (sym c.self.view_is)

pub invariant_of-self : goal.invariant_of-self
invariant_of-self c =
    subst (λ cables. IsFabricMap (record { vertices = c.self.inside.vertices.vertices; cables = cables; core = c.self.inside.vertices.core })) (sym c.put.ensures)
    (subst (λ (m : NetMap). IsFabricMap (with_cables m c.args.cables.items)) (sym c.self.view_is) c.requires.map)
