use Rattle.std.proofs.Common.{◌≡◌, ◌+◌, drop, length, [], List, ap, sym, ◌∙◌, arith}
use Rattle.std.proofs.lemmas.List.{drop_all}
use Rattle.route_install.specs.Collecting.{place_of, Numbered}
use Rattle.route_install.proofs.Numbers.{place-passed, place-here}
use Rattle.route_install.proofs.collected.place_of.Goals as goal

pub returns-then-part-number : goal.returns-then-part-number
returns-then-part-number c =
    let n = c.number.ensures in
    let t = c.if-part-number.true in
    let item = c.index-parts-place.result in
    sym (c.loop-place.invariant ∙ place-here c.args.part c.loop-place.place item c.args.parts.now c.loop-place-test.true c.index-parts-place.is (omega arith))

pub loop-place-preserved : goal.loop-place-preserved
loop-place-preserved c =
    let n = c.number.ensures in
    let t = c.if-part-number.false in
    let item = c.index-parts-place.result in
    c.loop-place.invariant ∙ place-passed c.args.part c.loop-place.place item c.args.parts.now c.loop-place-test.true c.index-parts-place.is (omega arith)

pub returns : goal.returns
returns c =
    let ps : List Numbered = c.args.parts.now in
    let at = c.loop-place.place in
    let end = c.loop-place.auto.place-end in
    let past = c.loop-place-test.false in
    let none : drop at ps ≡ [] = drop_all at ps (omega arith) in
    let sum : length ps ≡ 0 + at = omega arith in
    sym (c.loop-place.invariant ∙ ap (λ l. place_of c.args.part l + at) none ∙ sym sum)
