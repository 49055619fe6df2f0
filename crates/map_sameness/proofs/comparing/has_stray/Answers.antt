use Rattle.std.proofs.Common.{pos, ◌-ℤ◌, inl, inr, ⊎_elim, arith}
use Rattle.std.proofs.lemmas.Bool.{cases_lt}
use Rattle.map_sameness.proofs.Loops.{none-stray, stray-outside}
use Rattle.map_sameness.proofs.comparing.has_stray.Goals as goal

pub loop-place-init : goal.loop-place-init
loop-place-init c = λ k low. stray-outside c.args.f.now c.args.m.now c.args.v c.args.i (pos k -ℤ pos 15)
    (c.span-places.ensures.outside k (let first = c.span-places.ensures.first in omega (arith, low, first)) (inl low))

pub returns-clause-none : goal.returns-clause-none
returns-clause-none c = λ e. none-stray c.args.f.now c.args.m.now c.args.v c.args.i c.requires.map
    (λ k l. ⊎_elim
    (λ before. c.loop-place.invariant k before)
    (λ after. stray-outside c.args.f.now c.args.m.now c.args.v c.args.i (pos k -ℤ pos 15) (c.span-places.ensures.outside k l (inr (let past = c.loop-place-test.false in omega (arith, after, past)))))
    (cases_lt k c.loop-place.place))
