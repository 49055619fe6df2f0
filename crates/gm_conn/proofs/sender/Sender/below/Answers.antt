use Rattle.std.proofs.Common.{◌-◌, sym, ap, ◌∙◌, arith}
use Rattle.std.proofs.lemmas.Option.{slice_get_within}
use Rattle.gm_conn.specs.Halves.{first}
use Rattle.gm_conn.proofs.Waiting.{first-from, walk-starts, walk-goes, walk-ends, walk-first, whole-at}
use Rattle.gm_conn.proofs.Finished.{place-most}
use Rattle.gm_conn.proofs.sender.Sender.below.Goals as goal

pub loop-pieces-init : goal.loop-pieces-init
loop-pieces-init c = walk-starts c.args.self.now c.args.n c.self.inside.first (first-from _ _ c.self.invariant ∙ ap first c.self.view_is) c.requires

pub loop-pieces-preserved : goal.loop-pieces-preserved
loop-pieces-preserved c = walk-goes c.args.self.now c.args.n c.loop-pieces.place c.loop-pieces.first c.in-Some.pieces c.loop-pieces.invariant (sym c.whole_at.ensures ∙ c.in-Some.is)

pub returns-clause-place : goal.returns-clause-place
returns-clause-place c = walk-ends c.args.self.now c.args.n c.loop-pieces.place c.loop-pieces.first c.loop-pieces.invariant (sym c.whole_at.ensures ∙ c.in_default.is)

pub returns-clause-first : goal.returns-clause-first
returns-clause-first c =
    walk-first c.args.self.now c.args.n c.loop-pieces.place c.loop-pieces.first c.loop-pieces.invariant
    (walk-ends c.args.self.now c.args.n c.loop-pieces.place c.loop-pieces.first c.loop-pieces.invariant (sym c.whole_at.ensures ∙ c.in_default.is))

pub returns-clause-within : goal.returns-clause-within
returns-clause-within c = c.loop-pieces.invariant.within

-- there is a descriptor at the place, and no more places than numbers
pub overflow_add-place : goal.overflow_add-place
overflow_add-place c =
    let next = walk-goes c.args.self.now c.args.n c.loop-pieces.place c.loop-pieces.first c.in-Some.pieces c.loop-pieces.invariant (sym c.whole_at.ensures ∙ c.in-Some.is) in
    let left = next.left in
    let most = place-most c.args.self.now c.args.n in
    let fits = c.ranges.n.fits in
    omega (arith, left, most, fits)

pub loop-pieces-smaller : goal.loop-pieces-smaller
loop-pieces-smaller c =
    let one = whole-at c.args.self.now c.loop-pieces.place (c.args.n - c.loop-pieces.first) c.in-Some.pieces (sym c.whole_at.ensures ∙ c.in-Some.is) in
    let here = slice_get_within c.args.self.now.waiting c.loop-pieces.place one.desc one.there in
    omega (arith, here)
