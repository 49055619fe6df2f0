use Rattle.std.proofs.Common.{◌≡◌, length, ap, arith}
use Rattle.mapper.proofs.Adding.{on-err, ok-then, err-then}
use Rattle.mapper.proofs.Starting.{started, stops-at-once, stops-first, first-next}
use Rattle.mapper.proofs.growth.start.Goals as goal

pub returns-in_err-walk-clause-stopped : goal.returns-in_err-walk-clause-stopped
returns-in_err-walk-clause-stopped g c =
    let p = g.P.Prober in
    on-err c.from_residual.result (stops-at-once p.State p.asked (p.fabric c.args.p.now) (p.mapper c.args.p.now) c.args.tree.now.depth (p.state c.args.p.now) (p.state c.args.p.now) (p.lost c.args.p.now) (p.lost c.args.p.now) p.cut)

pub ask-requires-clause-short : goal.ask-requires-clause-short
ask-requires-clause-short g c = let e : length c.in_ok-walk.walk ≡ 0 = ap length c.in_ok-walk.ensures in omega arith

pub ask-requires-clause-next : goal.ask-requires-clause-next
ask-requires-clause-next g c = first-next (g.P.Prober.fabric c.args.p.now) (g.P.Prober.mapper c.args.p.now) c.args.tree.now.depth c.args.tree.now c.in_ok-walk.walk c.requires.bare c.host-host.ensures.one_fabric c.in_ok-walk.ensures

pub returns-clause-started : goal.returns-clause-started
returns-clause-started g c =
    let p = g.P.Prober in
    let t = c.args.tree.now in
    ok-then c.ask.result (λ a. started p.State p.asked (p.fabric c.args.p.now) (p.mapper c.args.p.now) t.depth (p.state c.args.p.now) (p.state c.ask.new.p) (p.lost c.args.p.now) (p.lost c.ask.new.p) t c.ask.new.tree c.in_ok-walk.walk c.requires.bare c.in_ok-walk.ensures a c.ask.ensures.later) c.ask.ensures.ok

pub returns-clause-stopped : goal.returns-clause-stopped
returns-clause-stopped g c =
    let p = g.P.Prober in
    err-then c.ask.result (λ a. stops-first p.State p.asked (p.fabric c.args.p.now) (p.mapper c.args.p.now) c.args.tree.now.depth (p.state c.args.p.now) (p.state c.ask.new.p) (p.lost c.args.p.now) (p.lost c.args.p.now) p.cut c.in_ok-walk.walk c.in_ok-walk.ensures a) c.ask.ensures.err

pub returns-clause-one_fabric : goal.returns-clause-one_fabric
returns-clause-one_fabric g c = c.host-host.ensures.one_fabric
