use Rattle.std.proofs.Common.{◌∙◌, ap, subst, Ok}
use Rattle.circ_map.specs.Growing.{IsShut}
use Rattle.circ_map.proofs.Turnwise.{asking-shut}
use Rattle.circ_map.proofs.expanding.expand.Goals as goal

pub returns-in-None-clause-goes_on : goal.returns-in-None-clause-goes_on
returns-in-None-clause-goes_on g c e =
    asking-shut (g.P.CircProber.fabric c.args.p.now) (g.P.CircProber.mapper c.args.p.now) c.args.depth c.args.tree.now.found.items c.args.tree.now.asks c.args.at
    (subst (λ l. IsShut c.args.depth l c.args.at) c.deref.ensures.value (c.open_walk.ensures.shut (c.in_ok-walk.was ∙ ap Ok c.in-None.is))) c.requires.asking
