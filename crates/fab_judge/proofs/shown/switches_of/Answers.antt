use Rattle.std.proofs.Common.{◌≡◌, ◌<◌, List, length, subst, ap, ◌∙◌}
use Rattle.std.specs.Prelude.{slice_get}
use Rattle.map_defs.specs.declared.vertex.MapVertex.{MapVertex}
use Rattle.fab_judge.proofs.Indexing.{none-indexed, vertex-indexed}
use Rattle.fab_judge.proofs.shown.switches_of.Goals as goal

pub vertices-init : goal.vertices-init
vertices-init c = none-indexed c.args.map.now.vertices c.new-switches.result.items c.new-switches.ensures.items

pub vertices-preserved : goal.vertices-preserved
vertices-preserved c =
    let m = c.args.map.now in
    let v = c.vertices.v in
    let same : c.vertices-vertices.result.now ≡ m.vertices = c.vertices-vertices.ensures.value in
    let below : v < length m.vertices = subst (λ (vs : List MapVertex). v < length vs) same c.vertices-test.true in
    vertex-indexed m v c.vertex_at.result c.vertices.switches.items c.add_switch.new.switches.items c.vertices-vertices.ensures.is_map.is_map below
    (c.vertex_at.ensures ∙ ap (λ (vs : List MapVertex). slice_get vs v) same) c.in_ok-add_switch.ensures c.vertices.invariant
