use Rattle.adopted_routes.proofs.SameRoutes.{lengths-same}
use Rattle.adopted_routes.proofs.same.are_same.Goals as goal

pub returns-then-routes-others : goal.returns-then-routes-others
returns-then-routes-others c = lengths-same c.args.routes.now c.args.others.now c.if-routes-others.true
