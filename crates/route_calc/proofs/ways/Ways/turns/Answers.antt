use Rattle.std.proofs.Common.{◌≡◌, ◌<◌, ◌-◌, ◌++◌, ◌∷◌, [], suc, Some, None, sym, ap, ◌∙◌, arith, append_assoc, w8, to_z, of_z}
use Rattle.std.specs.Prelude.{◌-ℤ◌, slice_get, slice_index_or}
use Rattle.std.proofs.lemmas.Int.{to_z-of_z}
use Rattle.route_calc.specs.Exits.{exits_at}
use Rattle.route_calc.specs.Far.{far_at, place_in}
use Rattle.route_calc.specs.Turning.{first_exit, turns_on}
use Rattle.std.proofs.lemmas.List.{append-nil}
use Rattle.route_calc.proofs.Nearer.{turns-none}
use Rattle.route_calc.proofs.Turned.{turns-step, turn-fits, difference-fits}
use Rattle.route_calc.proofs.ways.Ways.turns.Goals as goal

pub loop-left-preserved : goal.loop-left-preserved
loop-left-preserved c =
    let exits = c.args.exits.now in
    let far = c.args.self.now.far in
    let left = c.loop-left.left in
    let at = c.loop-left.at in
    let exit = c.in-Some.exit in
    let more : left ≡ suc (left - 1) = omega arith in
    let test = c.loop-left-test.true in
    let here = c.loop-left.invariant.distance in
    let low = c.loop-left.invariant.few in
    let some : 0 < far_at far at.v at.down = omega arith in
    let few : far_at far at.v at.down < 255 = omega arith in
    let named : slice_get (exits_at exits at.v) (slice_index_or c.args.self.now.firsts (place_in at.v at.down) 0) ≡ Some exit = ap (λ l. slice_get (exits_at exits at.v) (slice_index_or l (place_in at.v at.down) 0)) (sym (c.deref.ensures.value ∙ ap (λ w. w.firsts) c.self.view_is)) ∙ sym c.exit_by.ensures.value ∙ c.in-Some.is in
    let found : first_exit far (left - 1) at.down (exits_at exits at.v) ≡ Some exit = ap (λ k. first_exit far (k - 1) at.down (exits_at exits at.v)) (sym here) ∙ sym (c.requires.first at.v at.down some few) ∙ named in
    let next : far_at far exit.next.v exit.next.down ≡ left - 1 = c.requires.fall.each (left - 1) at exit (here ∙ more) (let l : suc (left - 1) < 255 = omega arith in l) found in
    let step = turns-step exits far left (left - 1) at exit more found in
    let out : to_z w8 (of_z w8 exit.port) ≡ exit.port = to_z-of_z w8 exit.port (turn-fits exit.port c.in-Some.ensures.range.0) in
    let in_by : to_z w8 (of_z w8 at.port) ≡ at.port = to_z-of_z w8 at.port (turn-fits at.port c.loop-left.invariant.port) in
    let same : to_z w8 (of_z w8 (to_z w8 (of_z w8 exit.port) -ℤ to_z w8 (of_z w8 at.port))) ≡ exit.port -ℤ at.port = (λ i. to_z w8 (of_z w8 (out i -ℤ in_by i))) ∙ to_z-of_z w8 (exit.port -ℤ at.port) (difference-fits exit.port at.port c.in-Some.ensures.range.0 c.loop-left.invariant.port) in
    let rest = turns_on exits far (left - 1) exit.next in
    record {
      port = c.in-Some.ensures.range.1;
      distance = next;
      few = omega arith;
      so_far =
          ap (λ ts. ts ++ rest) (c.in_ok-push-in-Some.ensures.items ∙ ap (λ t. c.loop-left.turns.items ++ t ∷ []) same)
          ∙ append_assoc c.loop-left.turns.items ((exit.port -ℤ at.port) ∷ []) rest
          ∙ ap (λ ts. c.loop-left.turns.items ++ ts) (sym step)
          ∙ c.loop-left.invariant.so_far;
    }

pub returns-in-None : goal.returns-in-None
returns-in-None c =
    let exits = c.args.exits.now in
    let far = c.args.self.now.far in
    let left = c.loop-left.left in
    let at = c.loop-left.at in
    let test = c.loop-left-test.true in
    let more : left ≡ suc (left - 1) = omega arith in
    let here = c.loop-left.invariant.distance in
    let low = c.loop-left.invariant.few in
    let some : 0 < far_at far at.v at.down = omega arith in
    let few : far_at far at.v at.down < 255 = omega arith in
    let named : slice_get (exits_at exits at.v) (slice_index_or c.args.self.now.firsts (place_in at.v at.down) 0) ≡ None = ap (λ l. slice_get (exits_at exits at.v) (slice_index_or l (place_in at.v at.down) 0)) (sym (c.deref.ensures.value ∙ ap (λ w. w.firsts) c.self.view_is)) ∙ sym c.exit_by.ensures.value ∙ c.in-None.is in
    let found : first_exit far (left - 1) at.down (exits_at exits at.v) ≡ None = ap (λ k. first_exit far (k - 1) at.down (exits_at exits at.v)) (sym here) ∙ sym (c.requires.first at.v at.down some few) ∙ named in
    sym (append-nil c.loop-left.turns.items) ∙ ap (λ ts. c.loop-left.turns.items ++ ts) (sym (turns-none exits far left (left - 1) at more found)) ∙ c.loop-left.invariant.so_far
