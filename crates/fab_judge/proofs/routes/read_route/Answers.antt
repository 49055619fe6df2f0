use Rattle.std.proofs.Common.{sym}
use Rattle.fab_judge.proofs.Lists.{last_of}
use Rattle.fab_judge.proofs.RouteLines.{route-added, no-route, route-fault}
use Rattle.fab_judge.proofs.routes.read_route.Goals as goal

pub returns-in-Some-clause-said : goal.returns-in-Some-clause-said
returns-in-Some-clause-said c =
    route-added c.args.reader.now.past c.args.f.now c.args.reader.now.left c.next_said.new.self.left c.in-Ok.number c.in-Ok.line c.in-Some.route c.args.routes.now c.add.new.routes c.add.result
    c.in-Ok.ensures.said (sym c.in-Some.ensures) c.add.ensures

pub returns-in-None-clause-said : goal.returns-in-None-clause-said
returns-in-None-clause-said c =
    no-route c.args.reader.now.past c.args.f.now c.args.reader.now.left c.next_said.new.self.left c.in-Ok.number c.in-Ok.line (last_of c.args.routes.now) c.in-Ok.ensures.said (sym c.in-None.ensures)

pub returns-in-Err-clause-said : goal.returns-in-Err-clause-said
returns-in-Err-clause-said c =
    route-fault c.args.reader.now.past c.args.f.now c.args.reader.now.left c.next_said.new.self.left c.args.routes.now c.args.routes.now (last_of c.args.routes.now) c.in-Err.stop c.in-Err.ensures.said
