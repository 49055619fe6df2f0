use Rattle.std.proofs.Common.{◌≤◌, ◌-◌, sym, ap, ◌∙◌, subst, arith}
use Rattle.gm_conn.specs.Halves.{first, place_below}
use Rattle.gm_conn.proofs.Finished.{finished-by, finished-up, taken-up, heard-none, place-most}
use Rattle.gm_conn.proofs.sender.Sender.finished_by.Goals as goal

-- the first number that waits is at most base, and base is below what is taken
pub below-requires : goal.below-requires
below-requires c =
    let low = subst (λ w. first w ≤ c.self.inside.base) c.self.view_is c.self.invariant.kept.waits in
    grind (arith, low, c.takes.ensures, c.if-takes.true)

pub below-requires-then-takes : goal.below-requires-then-takes
below-requires-then-takes c = subst (λ w. first w ≤ c.self.inside.base) c.self.view_is c.self.invariant.kept.waits

-- no more of them lie below base than below the number, and so few that their number fits
pub overflow_sub-result : goal.overflow_sub-result
overflow_sub-result c =
    let more = finished-up c.args.self.now c.args.next (taken-up c.args.self.now.numbers c.args.next (sym c.takes.ensures ∙ c.if-takes.true)) in
    let new = c.below.ensures.place in
    let old = c.below-then-takes.ensures.place ∙ ap (λ w. place_below c.args.self.now w.numbers.base) c.self.view_is in
    omega (arith, more, new, old)

pub overflow_cast-result : goal.overflow_cast-result
overflow_cast-result c =
    let most = place-most c.args.self.now c.args.next in
    let new = c.below.ensures.place in
    let fits = c.ranges.next.fits in
    omega (arith, most, new, fits)

pub returns-then-takes : goal.returns-then-takes
returns-then-takes c =
    let taken = sym c.takes.ensures ∙ c.if-takes.true in
    finished-by c.args.self.now c.args.next (c.below.result.0 - c.below-then-takes.result.0) taken (taken-up c.args.self.now.numbers c.args.next taken)
    ((λ i. c.below.ensures.place i - c.below-then-takes.ensures.place i)
    ∙ ap (λ w. place_below c.args.self.now c.args.next - place_below c.args.self.now w.numbers.base) c.self.view_is)

pub returns-else-takes : goal.returns-else-takes
returns-else-takes c = let none = heard-none c.args.self.now c.args.next (sym c.takes.ensures ∙ c.if-takes.false) in omega (arith, none)
