use Rattle.circ_map.proofs.Turnwise.{turn-first}
use Rattle.circ_map.proofs.growth.started.Goals as goal

pub returns-clause-asking : goal.returns-clause-asking
returns-clause-asking g c =
    turn-first (g.P.CircProber.fabric c.args.p.now) (g.P.CircProber.mapper c.args.p.now) c.args.depth c.new.result.items c.ask.new.tree.found.items c.ask.new.tree.asks c.in_ok-walk.walk
    c.new.ensures.items c.in_ok-walk.ensures c.in_ok-_more.ensures.found c.in_ok-_more.ensures.counted
