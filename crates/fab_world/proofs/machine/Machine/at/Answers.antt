use Rattle.fab_world.proofs.Places.{IsAt, IsThere, found}
use Rattle.fab_world.proofs.machine.Machine.at.Goals as goal

pub returns-clause-state : goal.returns-clause-state
returns-clause-state c =
    let at : IsAt c.self.inside.links c.self.inside.hosts.items c.self.inside.adopted c.args.self.now c.args.host c.from.result c.index.result.now =
    record { is = c.self.view_is; kept = c.self.invariant.hosts; below = c.requires; at = c.from.ensures; there = c.index.ensures } in
    let there : IsThere c.args.self.now c.args.host c.index.result.now = found at in
    there.state

pub returns-clause-host : goal.returns-clause-host
returns-clause-host c =
    let at : IsAt c.self.inside.links c.self.inside.hosts.items c.self.inside.adopted c.args.self.now c.args.host c.from.result c.index.result.now =
    record { is = c.self.view_is; kept = c.self.invariant.hosts; below = c.requires; at = c.from.ensures; there = c.index.ensures } in
    let there : IsThere c.args.self.now c.args.host c.index.result.now = found at in
    there.host

pub returns-clause-hosts : goal.returns-clause-hosts
returns-clause-hosts c =
    let at : IsAt c.self.inside.links c.self.inside.hosts.items c.self.inside.adopted c.args.self.now c.args.host c.from.result c.index.result.now =
    record { is = c.self.view_is; kept = c.self.invariant.hosts; below = c.requires; at = c.from.ensures; there = c.index.ensures } in
    let there : IsThere c.args.self.now c.args.host c.index.result.now = found at in
    there.hosts
