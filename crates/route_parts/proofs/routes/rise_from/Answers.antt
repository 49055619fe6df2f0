use Rattle.std.proofs.Common.{◌≡◌, suc, ◌-◌, ap, sym, ◌∙◌, arith}
use Rattle.route_parts.specs.Reading.{rise_from}
use Rattle.route_parts.proofs.Entries.{rise-next}
use Rattle.route_parts.proofs.routes.rise_from.Goals as goal

pub loop-left-preserved : goal.loop-left-preserved
loop-left-preserved c =
    let k = c.loop-left.left - 1 in
    let one : suc k ≡ c.loop-left.left = omega arith in
    let t = c.in-Some.ensures.fits in
    let there = sym c.are_turns.ensures ∙ c.if-not-are_turns.false in
    let up = sym c.is_above.ensures ∙ c.if-not-is_above.false in
    sym (rise-next c.loop-left.before k c.in-Some.to c.in-Some.turns.now c.in-Some.behind.now c.loop-left.rest.now c.in-Some.ensures.value there t.0 t.1 up)
    ∙ ap (λ n. rise_from c.loop-left.before n c.loop-left.rest.now) one
    ∙ c.loop-left.invariant
