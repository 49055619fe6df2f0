use Rattle.std.proofs.Common.{◌≡◌, ◌++◌, ◌∷◌, [], List, subst, ◌∙◌, to_z, of_z, w8, arith}
use Rattle.std.specs.Prelude.{ℤ}
use Rattle.std.proofs.lemmas.Option.{slice_get_within}
use Rattle.mapper.specs.Turns.{turn_at}
use Rattle.mapper.proofs.Adding.{walk-turn}
use Rattle.circ_map.specs.Growing.{IsAsking, front_of}
use Rattle.circ_map.proofs.Turnwise.{asking-entry, front-onward, some-onward, turn-next, turn-open, turn-passed}
use Rattle.circ_map.proofs.expanding.expand_walk.Goals as goal

pub ask-requires : goal.ask-requires
ask-requires g c =
    let a = c.loop-step.invariant.asking in
    let o = c.loop-step.invariant.open_at in
    let low = slice_get_within c.loop-step.tree.found.items c.args.at o.entry o.there in
    let few = a.tree.few in
    let asked = a.asked_few in
    let t = c.loop-step-test.true in
    record { few = omega arith }

pub returns-then-not-branch-clause-passed : goal.returns-then-not-branch-clause-passed
returns-then-not-branch-clause-passed g c e =
    let p = g.P.CircProber in
    let front : List ℤ = front_of c.args.walk.now in
    let w : List ℤ = c.turn_last.new.self in
    let walk : w ≡ front ++ turn_at c.loop-step.step ∷ [] = walk-turn front w c.turn_at.result (turn_at c.loop-step.step) c.turn_at.ensures.in_range (subst (λ l. w ≡ l ++ to_z w8 (of_z w8 c.turn_at.result) ∷ []) c.loop-step.invariant.same_front c.turn_last.ensures) c.turn_at.ensures.value in
    turn-passed (p.fabric c.args.p.now) (p.fabric c.loop-step.p) (p.mapper c.args.p.now) (p.mapper c.loop-step.p) c.args.depth c.loop-step.tree.found.items c.ask.new.tree.found.items c.loop-step.tree.asks c.ask.new.tree.asks c.args.at c.loop-step.step front w c.in_ok-ask.field-0
    c.loop-step.invariant.asking c.loop-step.invariant.open_at c.loop-step-test.true c.loop-step.invariant.same_fabric c.loop-step.invariant.same_mapper walk c.in_ok-ask.ensures.goes_on c.in_ok-ask.ensures.found c.in_ok-ask.ensures.counted c.if-not-branch.true

pub loop-step-preserved : goal.loop-step-preserved
loop-step-preserved g c =
    let p = g.P.CircProber in
    let front : List ℤ = front_of c.args.walk.now in
    let w : List ℤ = c.turn_last.new.self in
    let walk : w ≡ front ++ turn_at c.loop-step.step ∷ [] = walk-turn front w c.turn_at.result (turn_at c.loop-step.step) c.turn_at.ensures.in_range (subst (λ l. w ≡ l ++ to_z w8 (of_z w8 c.turn_at.result) ∷ []) c.loop-step.invariant.same_front c.turn_last.ensures) c.turn_at.ensures.value in
    record {
      asking = turn-next (p.fabric c.args.p.now) (p.fabric c.loop-step.p) (p.mapper c.args.p.now) (p.mapper c.loop-step.p) c.args.depth c.loop-step.tree.found.items c.ask.new.tree.found.items c.loop-step.tree.asks c.ask.new.tree.asks c.args.at c.loop-step.step front w c.in_ok-ask.field-0
          c.loop-step.invariant.asking c.loop-step.invariant.open_at c.loop-step-test.true c.loop-step.invariant.same_fabric c.loop-step.invariant.same_mapper walk c.in_ok-ask.ensures.goes_on c.in_ok-ask.ensures.found c.in_ok-ask.ensures.counted c.if-not-branch.false;
      open_at = turn-open (p.fabric c.args.p.now) (p.fabric c.loop-step.p) (p.mapper c.args.p.now) (p.mapper c.loop-step.p) c.args.depth c.loop-step.tree.found.items c.ask.new.tree.found.items c.loop-step.tree.asks c.ask.new.tree.asks c.args.at c.loop-step.step front w c.in_ok-ask.field-0
          c.loop-step.invariant.asking c.loop-step.invariant.open_at c.loop-step-test.true c.loop-step.invariant.same_fabric c.loop-step.invariant.same_mapper walk c.in_ok-ask.ensures.goes_on c.in_ok-ask.ensures.found c.in_ok-ask.ensures.counted;
      some = some-onward front w (turn_at c.loop-step.step) walk;
      same_front = front-onward front w (turn_at c.loop-step.step) walk;
      host = c.in_ok-ask.ensures.host ∙ c.loop-step.invariant.host;
      same_fabric = c.in_ok-ask.ensures.same_fabric ∙ c.loop-step.invariant.same_fabric;
      same_mapper = c.in_ok-ask.ensures.same_mapper ∙ c.loop-step.invariant.same_mapper;
    }

pub returns-clause-goes_on : goal.returns-clause-goes_on
returns-clause-goes_on g c e =
    let p = g.P.CircProber in
    let all : c.loop-step.step ≡ 30 = (let x = c.loop-step.auto.step-end in let t = c.loop-step-test.false in omega arith) in
    asking-entry (p.fabric c.args.p.now) (p.mapper c.args.p.now) c.args.depth c.loop-step.tree.found.items c.loop-step.tree.asks c.args.at (subst (λ k. IsAsking (p.fabric c.args.p.now) (p.mapper c.args.p.now) c.args.depth c.loop-step.tree.found.items c.loop-step.tree.asks c.args.at k) all c.loop-step.invariant.asking)
