use Rattle.std.proofs.Common.{◌<◌, sym, subst, if◌then◌else◌}
use Rattle.world_defs.specs.Node.{node_expired}
use Rattle.fab_world.proofs.HostEvents.{expired-is}
use Rattle.fab_world.proofs.Places.{IsAt, found, kept-in-state}
use Rattle.fab_world.proofs.Resting.{marked, has-mark}
use Rattle.fab_world.proofs.machine.Machine.expire.Goals as goal

pub mark-requires : goal.mark-requires
mark-requires c =
    has-mark c.self.inside.links c.self.inside.hosts.items c.self.inside.adopted c.args.self.now c.self.inside.marks c.args.host c.from-at.result c.self.view_is c.self.invariant
    c.requires.there c.from-at.ensures

pub expire-done-requires : goal.expire-done-requires
expire-done-requires c =
    let at : IsAt c.self.inside.links c.self.inside.hosts.items c.self.inside.adopted c.args.self.now c.args.host c.from-at.result c.index_mut.result.now =
    record { is = c.self.view_is; kept = c.self.invariant.hosts; below = c.requires.there; at = c.from-at.ensures; there = c.index_mut.ensures.value } in
    let there = found at in
    subst (λ n. c.args.peer < n) (sym there.hosts) c.requires.peer

pub invariant_of-self : goal.invariant_of-self
invariant_of-self c =
    let at : IsAt c.self.inside.links c.self.inside.hosts.items c.self.inside.adopted c.args.self.now c.args.host c.from-at.result c.index_mut.result.now =
    record { is = c.self.view_is; kept = c.self.invariant.hosts; below = c.requires.there; at = c.from-at.ensures; there = c.index_mut.ensures.value } in
    marked c.self.inside.marks c.mark.new.self c.expire-done.new.self at c.self.invariant (kept-in-state c.expire-done.new.self (if c.expire-done.result then node_expired c.index_mut.result.now.state c.args.peer else c.index_mut.result.now.state) at c.expire-done.ensures.after) c.mark.ensures

pub returns : goal.returns
returns c =
    let at : IsAt c.self.inside.links c.self.inside.hosts.items c.self.inside.adopted c.args.self.now c.args.host c.from-at.result c.index_mut.result.now =
    record { is = c.self.view_is; kept = c.self.invariant.hosts; below = c.requires.there; at = c.from-at.ensures; there = c.index_mut.ensures.value } in
    expired-is c.args.peer c.expire-done.new.self c.expire-done.result c.done_or_idle.result at c.expire-done.ensures.told c.expire-done.ensures.after c.done_or_idle.ensures
