use Rattle.std.proofs.Common.{◌≡◌, ◌≢◌, ◌<◌, ◌≤◌, ◌+◌, refl, ap, sym, ◌∙◌, subst, None, rules, SFits, to_z, of_z, w16, arith}
use Rattle.std.specs.Prelude.{pos, ◌+ℤ◌, ◌-ℤ◌}
use Rattle.std.proofs.lemmas.Int.{ints, to_z-of_z}
use Rattle.net_defs.specs.Turn.{IsTurn}
use Rattle.replicate_merge.specs.Ends.{end_at, known_ends, MovesEnd, MovesBelow}
use Rattle.replicate_merge.proofs.Moving.{before-span, behind-span, moves-none, moves-next, moves-all}
use Rattle.replicate_merge.proofs.ends.move_ends.Goals as goal

pub loop-place-init : goal.loop-place-init
loop-place-init c =
    let fits : SFits w16 c.args.by = search rules in
    let by : to_z w16 (of_z w16 c.args.by) ≡ c.args.by = to_z-of_z w16 c.args.by fits in
    let old = known_ends c.args.ends.now.items in
    record {
      moved = subst (λ b. MovesBelow c.span-known.result.0 c.args.from c.args.to b old old c.args.todo.now.items c.args.todo.now.items) (sym by) (moves-none c.args.from c.args.to c.args.by c.requires.two c.span-known.result.0 old c.args.todo.now.items (before-span c.args.ends.now.items c.args.from c.span-known.result.0 c.span-known.result.1 c.span-known.ensures.outside));
      same = refl;
      within = c.span-known.ensures.first;
      few = omega arith;
      capacity = refl;
    }

pub move_end-requires-clause-in_range : goal.move_end-requires-clause-in_range
move_end-requires-clause-in_range c = λ some.
    let k = c.loop-place.place in
    let e = c.port_at-port.ensures.value in
    let below : k < 31 = (let t = c.loop-place-test.true in let l = c.span-known.ensures.end in omega arith) in
    let fits_by : SFits w16 c.args.by = search rules in
    let by : to_z w16 (of_z w16 c.args.by) ≡ c.args.by = to_z-of_z w16 c.args.by fits_by in
    let port : to_z w16 (of_z w16 c.port_at-port.result) ≡ pos k -ℤ pos 15 = omega (arith, ints) in
    let same = c.loop-place.invariant.moved.left (pos k -ℤ pos 15) (omega (arith, ints)) in
    let was : end_at c.args.ends.now.items c.args.from (pos k -ℤ pos 15) ≢ None = λ none. some (ap (end_at c.loop-place.ends.items c.args.from) port ∙ same ∙ none) in
    let turn = c.requires.in_range (pos k -ℤ pos 15) was in
    let sum : c.port_moved.result ≡ (pos k -ℤ pos 15) +ℤ c.args.by = (let m = c.port_moved.ensures in omega (arith, ints)) in
    let fits : SFits w16 c.port_moved.result = search rules in
    subst (λ z. IsTurn z) (sym (to_z-of_z w16 c.port_moved.result fits ∙ sum)) turn

pub loop-place-preserved : goal.loop-place-preserved
loop-place-preserved c =
    let k = c.loop-place.place in
    let e = c.port_at-port.ensures.value in
    let below : k < 31 = (let t = c.loop-place-test.true in let l = c.span-known.ensures.end in omega arith) in
    let fits_by : SFits w16 c.args.by = search rules in
    let by : to_z w16 (of_z w16 c.args.by) ≡ c.args.by = to_z-of_z w16 c.args.by fits_by in
    let port : to_z w16 (of_z w16 c.port_at-port.result) ≡ pos k -ℤ pos 15 = omega (arith, ints) in
    let sum : c.port_moved.result ≡ (pos k -ℤ pos 15) +ℤ c.args.by = (let m = c.port_moved.ensures in omega (arith, ints)) in
    let fits : SFits w16 c.port_moved.result = search rules in
    let moved : to_z w16 (of_z w16 c.port_moved.result) ≡ (pos k -ℤ pos 15) +ℤ c.args.by = to_z-of_z w16 c.port_moved.result fits ∙ sum in
    let old = known_ends c.args.ends.now.items in
    let mid = known_ends c.loop-place.ends.items in
    let new = known_ends c.move_end.new.ends.items in
    let step : MovesEnd c.args.from c.args.to (pos k -ℤ pos 15) ((pos k -ℤ pos 15) +ℤ c.args.by) mid new c.loop-place.todo.items c.move_end.new.todo.items =
    subst (λ q. MovesEnd c.args.from c.args.to (pos k -ℤ pos 15) q mid new c.loop-place.todo.items c.move_end.new.todo.items) moved
    (subst (λ p. MovesEnd c.args.from c.args.to p (to_z w16 (of_z w16 c.port_moved.result)) mid new c.loop-place.todo.items c.move_end.new.todo.items) port c.move_end.ensures.moves) in
    let before : MovesBelow k c.args.from c.args.to c.args.by old mid c.args.todo.now.items c.loop-place.todo.items = subst (λ b. MovesBelow k c.args.from c.args.to b old mid c.args.todo.now.items c.loop-place.todo.items) by c.loop-place.invariant.moved in
    record {
      moved = subst (λ b. MovesBelow (k + 1) c.args.from c.args.to b old new c.args.todo.now.items c.move_end.new.todo.items) (sym by) (moves-next c.args.from c.args.to c.args.by c.requires.two k old mid new c.args.todo.now.items c.loop-place.todo.items c.move_end.new.todo.items before step);
      same = c.move_end.ensures.same ∙ c.loop-place.invariant.same;
      within = (let l = below in omega arith);
      few = (let a = c.move_end.ensures.few in let b = c.loop-place.invariant.few in omega arith);
      capacity = c.move_end.ensures.capacity ∙ c.loop-place.invariant.capacity;
    }

pub returns-clause-moves : goal.returns-clause-moves
returns-clause-moves c =
    let k = c.loop-place.place in
    let fits : SFits w16 c.args.by = search rules in
    let by : to_z w16 (of_z w16 c.args.by) ≡ c.args.by = to_z-of_z w16 c.args.by fits in
    let old = known_ends c.args.ends.now.items in
    let new = known_ends c.loop-place.ends.items in
    let past : c.span-known.result.1 ≤ k = (let t = c.loop-place-test.false in omega arith) in
    moves-all c.args.from c.args.to c.args.by c.requires.two k old new c.args.todo.now.items c.loop-place.todo.items
    (λ p l. behind-span c.args.ends.now.items c.args.from c.span-known.result.0 c.span-known.result.1 c.span-known.ensures.outside p (omega (arith, ints)))
    (subst (λ b. MovesBelow k c.args.from c.args.to b old new c.args.todo.now.items c.loop-place.todo.items) by c.loop-place.invariant.moved)

pub returns-clause-few : goal.returns-clause-few
returns-clause-few c = let a = c.loop-place.invariant.few in let b = c.loop-place.invariant.within in omega arith
