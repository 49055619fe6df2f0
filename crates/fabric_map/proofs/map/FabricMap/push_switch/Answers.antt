use Rattle.std.proofs.Common.{◌≡◌, None, sym, subst}
use Rattle.map_defs.specs.NetMap.{NetMap}
use Rattle.fabric_map.specs.Growing.{IsFabricMap, switch_refusal}
use Rattle.fabric_map.proofs.Grown.{map-switch, on_ok}
use Rattle.fabric_map.proofs.map.FabricMap.push_switch.Goals as goal

pub invariant_of-self-2 : goal.invariant_of-self-2
invariant_of-self-2 c =
    let old : NetMap = record { vertices = c.self.inside.vertices.vertices; cables = c.self.inside.cabling; core = c.self.inside.vertices.core } in
    subst (λ v. IsFabricMap (record { vertices = v.vertices; cables = old.cables; core = v.core })) (sym (on_ok c.push_switch.result _ c.if-is_err.ensures.value c.push_switch.ensures.ok))
    (map-switch old c.args.core c.self.invariant (subst (λ n. switch_refusal n ≡ None) (sym c.self.view_is) c.requires))
