use Rattle.std.proofs.Common.{◌≡◌, ◌<◌, ◌+◌, ◌-◌, ◌||◌, ℕ, suc, [], length, length-drop, take, drop, ap, sym, ◌∙◌, arith, List, Bool}
use Rattle.std.proofs.lemmas.List.{append-nil, take_at}
use Rattle.map_defs.specs.declared.vertex.MapCable.{MapCable}
use Rattle.map_defs.specs.Core.{without}
use Rattle.core_map.specs.Marks.{spread_along, spreads_along}
use Rattle.core_map.proofs.Spreading.{around-value, around-told}
use Rattle.core_map.proofs.side.spread_around.Goals as goal

-- the cables after one
abbrev behind : List MapCable → ℕ → List MapCable
behind cs k = take (length cs - (k + 1)) (drop (k + 1) cs)

behind-whole : (cs : List MapCable) (k : ℕ) → behind cs k ≡ drop (suc k) cs
behind-whole cs k =
    let plus : k + 1 ≡ suc k = omega arith in
    ap (take (length cs - (k + 1))) (sym (append-nil (drop (k + 1) cs)))
    ∙ take_at (drop (k + 1) cs) [] (length cs - (k + 1)) (length-drop (k + 1) cs)
    ∙ ap (λ n. drop n cs) plus

both-value : (cs : List MapCable) (k : ℕ) (bs mid new : List Bool) → k < length cs → mid ≡ spread_along (take k cs) bs → new ≡ spread_along (behind cs k) mid → new ≡ spread_along (without cs k) bs
both-value cs k bs mid new l e f = f ∙ (λ j. spread_along (behind-whole cs k j) (e j)) ∙ sym (around-value cs k bs l)

both-told : (cs : List MapCable) (k : ℕ) (bs mid : List Bool) (first second : Bool) → k < length cs → mid ≡ spread_along (take k cs) bs → first ≡ spreads_along (take k cs) bs → second ≡ spreads_along (behind cs k) mid → (first || second) ≡ spreads_along (without cs k) bs
both-told cs k bs mid first second l e f g = (λ j. f j || (g ∙ (λ i. spreads_along (behind-whole cs k i) (e i))) j) ∙ sym (around-told cs k bs l)

pub returns-then-before-clause-value : goal.returns-then-before-clause-value
returns-then-before-clause-value c =
    both-value c.args.cables.now c.args.k c.args.marks.now c.spread_all-before.new.marks c.spread_all-after.new.marks c.requires.cable c.spread_all-before.ensures.value c.spread_all-after.ensures.value

pub returns-else-before-clause-value : goal.returns-else-before-clause-value
returns-else-before-clause-value c =
    both-value c.args.cables.now c.args.k c.args.marks.now c.spread_all-before.new.marks c.spread_all-after.new.marks c.requires.cable c.spread_all-before.ensures.value c.spread_all-after.ensures.value

pub returns-then-before-clause-told : goal.returns-then-before-clause-told
returns-then-before-clause-told c =
    let whole = both-told c.args.cables.now c.args.k c.args.marks.now c.spread_all-before.new.marks c.spread_all-before.result c.spread_all-after.result c.requires.cable c.spread_all-before.ensures.value c.spread_all-before.ensures.told c.spread_all-after.ensures.told in
    c.if-before.true ∙ (λ j. sym c.if-before.true j || c.spread_all-after.result) ∙ whole

pub returns-else-before-clause-told : goal.returns-else-before-clause-told
returns-else-before-clause-told c =
    let whole = both-told c.args.cables.now c.args.k c.args.marks.now c.spread_all-before.new.marks c.spread_all-before.result c.spread_all-after.result c.requires.cable c.spread_all-before.ensures.value c.spread_all-before.ensures.told c.spread_all-after.ensures.told in
    (λ j. sym c.if-before.false j || c.spread_all-after.result) ∙ whole
