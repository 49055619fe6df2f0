use Rattle.std.proofs.Common.{◌≡◌, ◌<◌, ◌+◌, ◌++◌, List, map, length, take, get_or, pos, sym, subst, ◌∙◌}
use Rattle.std.proofs.lemmas.Option.{slice_get-get_or}
use Rattle.net_defs.specs.Turn.{IsTurn}
use Rattle.map_defs.specs.declared.vertex.MapCable.{MapCable}
use Rattle.run_defs.specs.LineText.{map_line_text, cable_line}
use Rattle.map_canon.proofs.Printed.{cables-more, printed-line, cable-turns}
use Rattle.map_canon.proofs.printing.print_cables.Goals as goal

abbrev none : MapCable
none = record { v = 0; p = pos 0; w = 0; q = pos 0 }

pub cable_line-requires-clause-port_p : goal.cable_line-requires-clause-port_p
cable_line-requires-clause-port_p c =
    let m = c.args.m.now in
    let i = c.loop-c.c-index in
    let e = c.cables-c-items.ensures.value in
    let low : i < length m.cables = subst (λ (l : List MapCable). i < length l) e c.loop-c-test.true in
    subst (λ (l : List MapCable). IsTurn (get_or l i none).p) (sym e)
    (cable-turns m.cables i (get_or m.cables i none) c.cables-c-items.ensures.is_map.is_map.ports_in_range (slice_get-get_or m.cables i none low)).0

pub cable_line-requires-clause-port_q : goal.cable_line-requires-clause-port_q
cable_line-requires-clause-port_q c =
    let m = c.args.m.now in
    let i = c.loop-c.c-index in
    let e = c.cables-c-items.ensures.value in
    let low : i < length m.cables = subst (λ (l : List MapCable). i < length l) e c.loop-c-test.true in
    subst (λ (l : List MapCable). IsTurn (get_or l i none).q) (sym e)
    (cable-turns m.cables i (get_or m.cables i none) c.cables-c-items.ensures.is_map.is_map.ports_in_range (slice_get-get_or m.cables i none low)).1

pub loop-c-preserved : goal.loop-c-preserved
loop-c-preserved c =
    let f = c.args.f.now in
    let m = c.args.m.now in
    let i = c.loop-c.c-index in
    let e = c.cables-c-items.ensures.value in
    let low : i < length m.cables = subst (λ (l : List MapCable). i < length l) e c.loop-c-test.true in
    let k = get_or m.cables i none in
    let line : c.cable_line.new.text.items ≡ c.loop-c.text.items ++ map_line_text f (cable_line m k) =
    c.in_ok-cable_line.ensures ∙ (λ j. c.loop-c.text.items ++ map_line_text f (cable_line m (get_or (e j) i none))) in
    printed-line f (map (cable_line m) (take i m.cables)) (map (cable_line m) (take (i + 1) m.cables)) (cable_line m k) c.args.text.now.items c.loop-c.text.items c.cable_line.new.text.items
    (cables-more m m.cables i none low) c.loop-c.invariant line
