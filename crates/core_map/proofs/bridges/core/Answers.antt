use Rattle.std.proofs.Common.{◌≡◌, map, not, ap, sym, subst, ◌∙◌}
use Rattle.map_defs.specs.NetMap.{IsMap}
use Rattle.map_defs.specs.Core.{core_of}
use Rattle.map_laws.proofs.Marked.{marked_map_is_map}
use Rattle.fabric_map.specs.Growing.{with_core}
use Rattle.core_map.proofs.Marking.{core-found}
use Rattle.core_map.proofs.bridges.core.Goals as goal

pub returns-clause-core : goal.returns-clause-core
returns-clause-core c =
    c.in_ok-core.ensures ∙ ap (map not) (c.deref.ensures.value ∙ c.in_ok-outside.ensures) ∙ core-found c.args.m.now

pub returns-clause-is_map : goal.returns-clause-is_map
returns-clause-is_map c =
    let m = c.args.m.now in
    let e : c.in_ok-core.core.items ≡ core_of m = c.in_ok-core.ensures ∙ ap (map not) (c.deref.ensures.value ∙ c.in_ok-outside.ensures) ∙ core-found m in
    subst (λ marks. IsMap (with_core m marks)) (sym e) (marked_map_is_map m c.vertices.ensures.is_map.is_map)
