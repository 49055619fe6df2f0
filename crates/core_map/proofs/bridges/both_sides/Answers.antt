use Rattle.std.proofs.Common.{◌≡◌, length, drop, ap, sym, ◌∙◌, arith}
use Rattle.std.proofs.lemmas.List.{take_at}
use Rattle.map_defs.specs.Core.{hostless_side}
use Rattle.core_map.specs.Marks.{marks_of, either}
use Rattle.core_map.proofs.Marking.{either-marks, either-long, long-marks}
use Rattle.core_map.proofs.bridges.both_sides.Goals as goal

pub returns : goal.returns
returns c =
    let m = c.args.m.now in
    let xs = hostless_side m c.args.k c.args.c.v in
    let ys = hostless_side m c.args.k c.args.c.w in
    let old = c.in_ok-marks.marks.items in
    let new = c.add_marks.new.marks in
    let step : new ≡ either (marks_of m xs) (marks_of m ys) =
    c.add_marks.ensures ∙ (λ j. either (c.deref_mut.ensures.value j) (c.deref.ensures.value j)) ∙ (λ j. either (c.in_ok-marks.ensures j) (c.in_ok-other.ensures j)) in
    let long : length new ≡ length old =
    ap length step ∙ either-long (marks_of m xs) (marks_of m ys) (long-marks m xs ∙ sym (long-marks m ys)) ∙ ap length (sym c.in_ok-marks.ensures) in
    let held = c.in_ok-marks.marks.ok.0 in
    let fits : length new ≡ c.in_ok-marks.marks.len = omega arith in
    take_at new (drop (length new) old) c.in_ok-marks.marks.len fits ∙ step ∙ either-marks m xs ys
