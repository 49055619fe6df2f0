use Rattle.std.proofs.Common.{◌≡◌, ◌≤◌, ◌++◌, ◌∷◌, [], List, Some, length, suc, refl, ap, sym, ◌∙◌, subst, arith}
use Rattle.std.specs.Prelude.{ℤ, slice_get}
use Rattle.journal_defs.specs.Tree.{nodes}
use Rattle.journal_defs.specs.Tree.Node.{Reached}
use Rattle.journal_defs.specs.Growth.{node_limit}
use Rattle.net_defs.specs.Route.{answer}
use Rattle.map_laws.proofs.Asks.{push-length}
use Rattle.mapper.specs.Turns.{turn_at}
use Rattle.mapper.specs.Growths.{IsAsk, IsLostAsk, IsToldOf}
use Rattle.mapper.proofs.Midway.{midway-start}
use Rattle.mapper.proofs.Adding.{walk-turn, grown-none, as-asked, on-err, as-next, IsMidst, midst-walk, midst-next, midst-grown, midst-full, midst-whole, midst-stops, midst-lost, stops-still}
use Rattle.mapper.proofs.Telling.{number-kept}
use Rattle.mapper.proofs.expanding.expand.Goals as goal

pub loop-step-init : goal.loop-step-init
loop-step-init g c =
    let p = g.P.Prober in
    let t = c.args.tree.now in
    record {
      midst = record {
        midway = midway-start t.journal.host t.depth t.journal.entries c.args.front.now c.requires.rest c.requires.chosen;
        under_way = c.requires.under_way;
        grown = grown-none p.State p.asked (p.fabric c.args.p.now) t (p.state c.args.p.now) (p.lost c.args.p.now) c.requires.under_way;
      };
      next = (_, c.in_ok-next.ensures);
      is_ready = c.requires.is_ready;
      same_fabric = refl;
      same_mapper = refl;
      later = omega arith;
    }

pub onward-requires-clause-short : goal.onward-requires-clause-short
onward-requires-clause-short g c =
    let near = c.requires.chosen.near in
    let shallow = c.requires.shallow in
    omega arith

pub onward_by-requires-clause-next : goal.onward_by-requires-clause-next
onward_by-requires-clause-next g c = c.loop-step.invariant.next

pub ask-requires-clause-short : goal.ask-requires-clause-short
ask-requires-clause-short g c =
    let w : List ℤ = c.args.front.now ++ turn_at c.loop-step.step ∷ [] in
    let walk : c.in_ok-walk.walk ≡ w = walk-turn c.args.front.now c.in_ok-walk.walk c.turn_at-turn.result (turn_at c.loop-step.step) c.turn_at-turn.ensures.in_range c.in_ok-walk.ensures.walk c.turn_at-turn.ensures.value in
    let e : length c.in_ok-walk.walk ≡ length w = ap length walk in
    let f : length w ≡ suc (length c.args.front.now) = push-length c.args.front.now (turn_at c.loop-step.step) in
    let near = c.requires.chosen.near in
    let shallow = c.requires.shallow in
    omega arith

pub ask-requires-clause-next : goal.ask-requires-clause-next
ask-requires-clause-next g c =
    let p = g.P.Prober in
    let t = c.args.tree.now in
    let i = c.loop-step.invariant in
    let n = p.fabric c.args.p.now in
    let w : List ℤ = c.args.front.now ++ turn_at c.loop-step.step ∷ [] in
    let walk : c.in_ok-walk.walk ≡ w = walk-turn c.args.front.now c.in_ok-walk.walk c.turn_at-turn.result (turn_at c.loop-step.step) c.turn_at-turn.ensures.in_range c.in_ok-walk.ensures.walk c.turn_at-turn.ensures.value in
    let host : p.mapper c.loop-step.p ≡ c.loop-step.tree.journal.host = i.same_mapper ∙ sym c.requires.mapper ∙ sym i.midst.grown.host in
    let told : IsToldOf n t.journal.host t.journal.entries = subst (λ h. IsToldOf n h t.journal.entries) (sym c.requires.mapper) c.requires.told in
    as-next (p.fabric c.loop-step.p) n (p.mapper c.loop-step.p) c.loop-step.tree.journal.host c.loop-step.tree c.in_ok-walk.walk w i.same_fabric host walk
    (midst-walk p.State p.asked n t (p.state c.args.p.now) (p.lost c.args.p.now) c.args.front.now c.loop-step.step c.loop-step.tree (p.state c.loop-step.p) (p.lost c.loop-step.p) c.loop-step-test.true i.midst told)

pub ask-requires-clause-front : goal.ask-requires-clause-front
ask-requires-clause-front g c =
    let t = c.args.tree.now in
    let m = c.loop-step.invariant.midst in
    let now = c.loop-step.tree in
    let first : slice_get (nodes t.journal.entries) c.args.node ≡ Some (Reached c.args.front.now) = ap (λ ns. slice_get ns c.args.node) (sym c.requires.under_way.stands.numbered) ∙ c.requires.node in
    let later = number-kept t.journal.entries m.grown.more c.args.node (Reached c.args.front.now) first in
    let numbered : now.classes.nodes ≡ nodes (t.journal.entries ++ m.grown.more) = m.under_way.stands.numbered ∙ ap nodes m.grown.entries in
    (c.args.front.now, c.in_ok-walk.ensures.walk, ap (λ ns. slice_get ns c.args.node) numbered ∙ later)

pub ask-requires-clause-few : goal.ask-requires-clause-few
ask-requires-clause-few g c = c.loop-step.invariant.midst.under_way.kept

pub returns-in_err-next-clause-stopped : goal.returns-in_err-next-clause-stopped
returns-in_err-next-clause-stopped g c =
    let p = g.P.Prober in
    on-err c.from_residual.result (stops-still p.State p.asked p.cut (p.fabric c.args.p.now) c.args.tree.now (p.state c.args.p.now) (p.lost c.args.p.now) c.requires.under_way)

pub returns-in_err-walk-clause-stopped : goal.returns-in_err-walk-clause-stopped
returns-in_err-walk-clause-stopped g c =
    let p = g.P.Prober in
    on-err c.from_residual-in_err-walk.result (midst-stops p.State p.asked (p.fabric c.args.p.now) c.args.tree.now (p.state c.args.p.now) (p.lost c.args.p.now) p.cut c.args.front.now c.loop-step.step c.loop-step.tree (p.state c.loop-step.p) (p.lost c.loop-step.p) c.loop-step.invariant.midst)

pub returns-in_err-ask-clause-stopped : goal.returns-in_err-ask-clause-stopped
returns-in_err-ask-clause-stopped g c =
    let p = g.P.Prober in
    let w : List ℤ = c.args.front.now ++ turn_at c.loop-step.step ∷ [] in
    let walk : c.in_ok-walk.walk ≡ w = walk-turn c.args.front.now c.in_ok-walk.walk c.turn_at-turn.result (turn_at c.loop-step.step) c.turn_at-turn.ensures.in_range c.in_ok-walk.ensures.walk c.turn_at-turn.ensures.value in
    let lost : IsLostAsk p.State p.asked p.cut (p.state c.loop-step.p) w (p.state c.ask.new.p) = subst (λ v. IsLostAsk p.State p.asked p.cut (p.state c.loop-step.p) v (p.state c.ask.new.p)) walk c.in_err-ask.ensures.err in
    on-err c.from_residual-in_err-ask.result (midst-lost p.State p.asked (p.fabric c.args.p.now) c.args.tree.now (p.state c.args.p.now) (p.lost c.args.p.now) p.cut c.args.front.now c.loop-step.step c.loop-step.tree (p.state c.loop-step.p) (p.state c.ask.new.p) (p.lost c.loop-step.p) c.loop-step-test.true c.loop-step.invariant.midst lost)

pub returns-then-tree-gt-NODE_LIMIT-clause-grown : goal.returns-then-tree-gt-NODE_LIMIT-clause-grown
returns-then-tree-gt-NODE_LIMIT-clause-grown g c =
    let p = g.P.Prober in
    let n = p.fabric c.args.p.now in
    let m = c.loop-step.invariant.midst in
    let w : List ℤ = c.args.front.now ++ turn_at c.loop-step.step ∷ [] in
    let walk : c.in_ok-walk.walk ≡ w = walk-turn c.args.front.now c.in_ok-walk.walk c.turn_at-turn.result (turn_at c.loop-step.step) c.turn_at-turn.ensures.in_range c.in_ok-walk.ensures.walk c.turn_at-turn.ensures.value in
    let host : p.mapper c.loop-step.p ≡ c.loop-step.tree.journal.host = c.loop-step.invariant.same_mapper ∙ sym c.requires.mapper ∙ sym m.grown.host in
    let ask : IsAsk p.State p.asked (answer n c.loop-step.tree.journal.host w) (p.state c.loop-step.p) (p.lost c.loop-step.p) w c.loop-step.tree c.ask.new.tree (p.state c.ask.new.p) (p.lost c.ask.new.p) = as-asked p.State p.asked (p.fabric c.loop-step.p) n (p.mapper c.loop-step.p) c.loop-step.tree.journal.host c.in_ok-walk.walk w c.loop-step.tree c.ask.new.tree (p.state c.loop-step.p) (p.state c.ask.new.p) (p.lost c.loop-step.p) (p.lost c.ask.new.p) c.loop-step.invariant.same_fabric host walk c.in_ok-ask.ensures.ok in
    midst-grown p.State p.asked n c.args.tree.now (p.state c.args.p.now) (p.lost c.args.p.now) c.args.front.now c.loop-step.step c.loop-step.tree c.ask.new.tree (p.state c.loop-step.p) (p.state c.ask.new.p) (p.lost c.loop-step.p) (p.lost c.ask.new.p) c.loop-step-test.true m ask c.in_ok-ask.ensures.later

pub returns-then-tree-gt-NODE_LIMIT-clause-expanded : goal.returns-then-tree-gt-NODE_LIMIT-clause-expanded
returns-then-tree-gt-NODE_LIMIT-clause-expanded g c =
    let p = g.P.Prober in
    let n = p.fabric c.args.p.now in
    let m = c.loop-step.invariant.midst in
    let w : List ℤ = c.args.front.now ++ turn_at c.loop-step.step ∷ [] in
    let walk : c.in_ok-walk.walk ≡ w = walk-turn c.args.front.now c.in_ok-walk.walk c.turn_at-turn.result (turn_at c.loop-step.step) c.turn_at-turn.ensures.in_range c.in_ok-walk.ensures.walk c.turn_at-turn.ensures.value in
    let host : p.mapper c.loop-step.p ≡ c.loop-step.tree.journal.host = c.loop-step.invariant.same_mapper ∙ sym c.requires.mapper ∙ sym m.grown.host in
    let ask : IsAsk p.State p.asked (answer n c.loop-step.tree.journal.host w) (p.state c.loop-step.p) (p.lost c.loop-step.p) w c.loop-step.tree c.ask.new.tree (p.state c.ask.new.p) (p.lost c.ask.new.p) = as-asked p.State p.asked (p.fabric c.loop-step.p) n (p.mapper c.loop-step.p) c.loop-step.tree.journal.host c.in_ok-walk.walk w c.loop-step.tree c.ask.new.tree (p.state c.loop-step.p) (p.state c.ask.new.p) (p.lost c.loop-step.p) (p.lost c.ask.new.p) c.loop-step.invariant.same_fabric host walk c.in_ok-ask.ensures.ok in
    midst-full p.State p.asked n c.args.tree.now (p.state c.args.p.now) (p.lost c.args.p.now) c.args.front.now c.loop-step.step c.loop-step.tree c.ask.new.tree (p.state c.loop-step.p) (p.state c.ask.new.p) (p.lost c.loop-step.p) (p.lost c.ask.new.p) m ask c.if-tree-gt-NODE_LIMIT.true

pub loop-step-preserved : goal.loop-step-preserved
loop-step-preserved g c =
    let p = g.P.Prober in
    let n = p.fabric c.args.p.now in
    let m = c.loop-step.invariant.midst in
    let w : List ℤ = c.args.front.now ++ turn_at c.loop-step.step ∷ [] in
    let walk : c.in_ok-walk.walk ≡ w = walk-turn c.args.front.now c.in_ok-walk.walk c.turn_at-turn.result (turn_at c.loop-step.step) c.turn_at-turn.ensures.in_range c.in_ok-walk.ensures.walk c.turn_at-turn.ensures.value in
    let host : p.mapper c.loop-step.p ≡ c.loop-step.tree.journal.host = c.loop-step.invariant.same_mapper ∙ sym c.requires.mapper ∙ sym m.grown.host in
    let ask : IsAsk p.State p.asked (answer n c.loop-step.tree.journal.host w) (p.state c.loop-step.p) (p.lost c.loop-step.p) w c.loop-step.tree c.ask.new.tree (p.state c.ask.new.p) (p.lost c.ask.new.p) = as-asked p.State p.asked (p.fabric c.loop-step.p) n (p.mapper c.loop-step.p) c.loop-step.tree.journal.host c.in_ok-walk.walk w c.loop-step.tree c.ask.new.tree (p.state c.loop-step.p) (p.state c.ask.new.p) (p.lost c.loop-step.p) (p.lost c.ask.new.p) c.loop-step.invariant.same_fabric host walk c.in_ok-ask.ensures.ok in
    let kept : c.ask.new.tree.nodes ≤ node_limit = c.if-tree-gt-NODE_LIMIT.false in
    let later = c.in_ok-ask.ensures.later in
    let before = c.loop-step.invariant.later in
    record {
      midst = midst-next p.State p.asked n c.args.tree.now (p.state c.args.p.now) (p.lost c.args.p.now) c.args.front.now c.loop-step.step c.loop-step.tree c.ask.new.tree (p.state c.loop-step.p) (p.state c.ask.new.p) (p.lost c.loop-step.p) (p.lost c.ask.new.p) c.loop-step-test.true m ask later kept;
      next = c.onward_by.ensures.next;
      is_ready = c.in_ok-ask.ensures.stays_ready;
      same_fabric = c.in_ok-ask.ensures.same_fabric ∙ c.loop-step.invariant.same_fabric;
      same_mapper = c.in_ok-ask.ensures.same_mapper ∙ c.loop-step.invariant.same_mapper;
      later = omega (arith, before, later);
    }

pub returns-clause-grown : goal.returns-clause-grown
returns-clause-grown g c = c.loop-step.invariant.midst.grown

pub returns-clause-expanded : goal.returns-clause-expanded
returns-clause-expanded g c =
    let p = g.P.Prober in
    let all : c.loop-step.step ≡ 30 = (let e = c.loop-step.auto.step-end in let t = c.loop-step-test.false in omega arith) in
    midst-whole p.State p.asked (p.fabric c.args.p.now) c.args.tree.now (p.state c.args.p.now) (p.lost c.args.p.now) c.args.front.now c.loop-step.tree (p.state c.loop-step.p) (p.lost c.loop-step.p) (subst (λ k. IsMidst p.State p.asked (p.fabric c.args.p.now) c.args.tree.now (p.state c.args.p.now) (p.lost c.args.p.now) c.args.front.now k c.loop-step.tree (p.state c.loop-step.p) (p.lost c.loop-step.p)) all c.loop-step.invariant.midst)
