use Rattle.std.proofs.Common.{◌≡◌, ◌-◌, ◌++◌, ◌∷◌, [], length, take, Some, sym, ap, subst, ◌∙◌, arith, w8, to_z, of_z}
use Rattle.std.specs.Prelude.{◌+ℤ◌, slice_get}
use Rattle.std.proofs.lemmas.Int.{ints, to_z-of_z}
use Rattle.net_defs.specs.Turn.{IsTurn}
use Rattle.route_calc.proofs.Moved.{last-moved, last-fits}
use Rattle.route_calc.proofs.Turned.{turn-fits}
use Rattle.route_calc.proofs.shared.moved.Goals as goal

pub turned-turn-requires-clause-sum : goal.turned-turn-requires-clause-sum
turned-turn-requires-clause-sum c =
    let ts = c.args.walk.now in
    let more = c.args.more in
    let l = c.last_turn-last.result in
    let at : slice_get ts (length ts - 1) ≡ Some l = ap (λ s. slice_get s (length s - 1)) (sym c.turns.ensures.value) ∙ c.last_turn-last.ensures.last in
    let last : to_z w8 (of_z w8 l) ≡ l = to_z-of_z w8 l (turn-fits l c.last_turn-last.ensures.range) in
    let range = c.ranges.more.sfits in
    let back : to_z w8 (of_z w8 more) ≡ more = grind (arith, ints) in
    subst IsTurn (sym (λ i. last i +ℤ back i)) (last-fits more l ts at c.requires.turns)

pub turn_last-requires-clause-turn : goal.turn_last-requires-clause-turn
turn_last-requires-clause-turn c =
    let ts = c.args.walk.now in
    let more = c.args.more in
    let l = c.last_turn-last.result in
    let r = c.turned-turn.result in
    let at : slice_get ts (length ts - 1) ≡ Some l = ap (λ s. slice_get s (length s - 1)) (sym c.turns.ensures.value) ∙ c.last_turn-last.ensures.last in
    let last : to_z w8 (of_z w8 l) ≡ l = to_z-of_z w8 l (turn-fits l c.last_turn-last.ensures.range) in
    let range = c.ranges.more.sfits in
    let back : to_z w8 (of_z w8 more) ≡ more = grind (arith, ints) in
    let turn : IsTurn r = subst IsTurn (sym (c.turned-turn.ensures ∙ (λ i. last i +ℤ back i))) (last-fits more l ts at c.requires.turns) in
    subst IsTurn (sym (to_z-of_z w8 r (turn-fits r turn))) turn

pub returns : goal.returns
returns c =
    let ts = c.args.walk.now in
    let more = c.args.more in
    let l = c.last_turn-last.result in
    let r = c.turned-turn.result in
    let at : slice_get ts (length ts - 1) ≡ Some l = ap (λ s. slice_get s (length s - 1)) (sym c.turns.ensures.value) ∙ c.last_turn-last.ensures.last in
    let last : to_z w8 (of_z w8 l) ≡ l = to_z-of_z w8 l (turn-fits l c.last_turn-last.ensures.range) in
    let range = c.ranges.more.sfits in
    let back : to_z w8 (of_z w8 more) ≡ more = grind (arith, ints) in
    let sum : r ≡ l +ℤ more = c.turned-turn.ensures ∙ (λ i. last i +ℤ back i) in
    let turn : IsTurn r = subst IsTurn (sym sum) (last-fits more l ts at c.requires.turns) in
    let put : to_z w8 (of_z w8 r) ≡ l +ℤ more = to_z-of_z w8 r (turn-fits r turn) ∙ sum in
    c.turn_last.ensures
    ∙ (λ i. take (length (c.in_ok-walk.ensures i) - 1) (c.in_ok-walk.ensures i) ++ put i ∷ [])
    ∙ sym (last-moved more l ts c.requires.some at)
