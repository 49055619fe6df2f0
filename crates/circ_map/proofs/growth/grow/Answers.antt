use Rattle.std.proofs.Common.{◌≤◌, ◌+◌, ◌∙◌, length, ap, subst, Ok}
use Rattle.circ_map.proofs.Turnwise.{asking-same, asking-whole}
use Rattle.circ_map.proofs.growth.grow.Goals as goal

pub loop-at-preserved : goal.loop-at-preserved
loop-at-preserved g c =
    let p = g.P.CircProber in
    record {
      asking = asking-same (p.fabric c.args.p.now) (p.fabric c.loop-at.p) (p.mapper c.args.p.now) (p.mapper c.loop-at.p) c.args.depth c.expand.new.tree.found.items c.expand.new.tree.asks (c.loop-at.at + 1)
          c.loop-at.invariant.same_fabric c.loop-at.invariant.same_mapper (c.in_ok-expand.ensures.goes_on (ap Ok c.if-not-branch.false));
      host = c.in_ok-expand.ensures.host ∙ c.loop-at.invariant.host;
      same_fabric = c.in_ok-expand.ensures.same_fabric ∙ c.loop-at.invariant.same_fabric;
      same_mapper = c.in_ok-expand.ensures.same_mapper ∙ c.loop-at.invariant.same_mapper;
    }

pub returns-clause-whole : goal.returns-clause-whole
returns-clause-whole g c e =
    let p = g.P.CircProber in
    let all : length c.loop-at.tree.found.items ≤ c.loop-at.at = subst (λ l. l ≤ c.loop-at.at) c.found_count.ensures c.loop-at-test.false in
    asking-whole (p.fabric c.args.p.now) (p.mapper c.args.p.now) c.args.depth c.loop-at.tree.found.items c.loop-at.tree.asks c.loop-at.at all c.loop-at.invariant.asking
