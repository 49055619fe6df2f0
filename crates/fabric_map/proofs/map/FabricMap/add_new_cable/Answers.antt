use Rattle.std.proofs.Common.{◌≡◌, None, sym, subst}
use Rattle.map_defs.specs.NetMap.{NetMap}
use Rattle.fabric_map.specs.Growing.{IsFabricMap, cable_refusal}
use Rattle.fabric_map.proofs.Grown.{cable-free, map-cable}
use Rattle.fabric_map.proofs.map.FabricMap.add_new_cable.Goals as goal

pub push-requires-clause-free_a : goal.push-requires-clause-free_a
push-requires-clause-free_a c =
    let old : NetMap = record { vertices = c.self.inside.vertices.vertices; cables = c.self.inside.cabling; core = c.self.inside.vertices.core } in
    (cable-free old c.args.c (subst (λ n. cable_refusal n c.args.c ≡ None) (sym c.self.view_is) c.requires)).far_a

pub push-requires-clause-free_b : goal.push-requires-clause-free_b
push-requires-clause-free_b c =
    let old : NetMap = record { vertices = c.self.inside.vertices.vertices; cables = c.self.inside.cabling; core = c.self.inside.vertices.core } in
    (cable-free old c.args.c (subst (λ n. cable_refusal n c.args.c ≡ None) (sym c.self.view_is) c.requires)).far_b

pub invariant_of-self-2 : goal.invariant_of-self-2
invariant_of-self-2 c =
    let old : NetMap = record { vertices = c.self.inside.vertices.vertices; cables = c.self.inside.cabling; core = c.self.inside.vertices.core } in
    subst (λ cables. IsFabricMap (record { vertices = old.vertices; cables = cables; core = old.core })) (sym c.in_ok-push.ensures.ok)
    (map-cable old c.args.c c.self.invariant (subst (λ n. cable_refusal n c.args.c ≡ None) (sym c.self.view_is) c.requires))
