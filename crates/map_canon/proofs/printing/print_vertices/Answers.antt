use Rattle.std.proofs.Common.{◌≡◌, ◌<◌, ◌+◌, ◌++◌, List, false, length, take, get_or, subst, ◌∙◌, arith}
use Rattle.std.proofs.lemmas.Option.{slice_get-get_or}
use Rattle.map_defs.specs.declared.vertex.MapVertex.{MapVertex}
use Rattle.map_defs.specs.declared.vertex.MapVertex.TheVariants.{Host}
use Rattle.run_defs.specs.LineText.{map_line_text, vertex_lines, vertex_line}
use Rattle.map_canon.proofs.Printed.{vertices-more, printed-line}
use Rattle.map_canon.proofs.printing.print_vertices.Goals as goal

pub loop-v-preserved : goal.loop-v-preserved
loop-v-preserved c =
    let f = c.args.f.now in
    let vs = c.args.m.now.vertices in
    let cs = c.args.m.now.core in
    let i = c.loop-v.v in
    let e = c.vertices-vertex-items.ensures.value in
    let d = c.core-core.ensures.value in
    let low : i < length vs = subst (λ (l : List MapVertex). i < length l) e c.loop-v-test.true in
    let long = c.core-core.ensures.is_map.is_map.one_mark_each in
    let marked : i < length cs = omega arith in
    let v = get_or vs i (Host 0) in
    let b = get_or cs i false in
    let line : c.vertex_line.new.text.items ≡ c.loop-v.text.items ++ map_line_text f (vertex_line v b) =
    c.in_ok-vertex_line.ensures ∙ (λ j. c.loop-v.text.items ++ map_line_text f (vertex_line (get_or (e j) i (Host 0)) (get_or (d j) i false))) in
    printed-line f (vertex_lines (take i vs) (take i cs)) (vertex_lines (take (i + 1) vs) (take (i + 1) cs)) (vertex_line v b) c.args.text.now.items c.loop-v.text.items c.vertex_line.new.text.items
    (vertices-more vs cs i v b (slice_get-get_or vs i (Host 0) low) (slice_get-get_or cs i false marked)) c.loop-v.invariant line
