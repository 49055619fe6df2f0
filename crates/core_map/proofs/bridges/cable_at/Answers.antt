use Rattle.std.proofs.Common.{◌<◌, List, length, get_or, pos, sym, subst}
use Rattle.std.proofs.lemmas.Option.{slice_get-get_or}
use Rattle.map_defs.specs.declared.vertex.MapCable.{MapCable}
use Rattle.core_map.proofs.Sides.{cables-low}
use Rattle.core_map.proofs.Marking.{cable-low}
use Rattle.core_map.proofs.bridges.cable_at.Goals as goal

abbrev none : MapCable
none = record { v = 0; p = pos 0; w = 0; q = pos 0 }

pub returns-clause-first : goal.returns-clause-first
returns-clause-first c =
    let m = c.args.m.now in
    let k = c.args.k in
    let low = cables-low (length m.vertices) m.cables c.cables.ensures.is_map.is_map.cabled_vertices in
    subst (λ (cs : List MapCable). (get_or cs k none).v < length m.vertices) (sym c.cables.ensures.value)
    (cable-low (length m.vertices) m.cables k (get_or m.cables k none) low (slice_get-get_or m.cables k none c.requires)).0

pub returns-clause-second : goal.returns-clause-second
returns-clause-second c =
    let m = c.args.m.now in
    let k = c.args.k in
    let low = cables-low (length m.vertices) m.cables c.cables.ensures.is_map.is_map.cabled_vertices in
    subst (λ (cs : List MapCable). (get_or cs k none).w < length m.vertices) (sym c.cables.ensures.value)
    (cable-low (length m.vertices) m.cables k (get_or m.cables k none) low (slice_get-get_or m.cables k none c.requires)).1
