use Rattle.world_defs.specs.Node.{given_up}
use Rattle.fab_world.proofs.HostEvents.{gave_up-is}
use Rattle.fab_world.proofs.Places.{IsAt, kept-in-state}
use Rattle.fab_world.proofs.Resting.{marked, has-mark}
use Rattle.fab_world.proofs.machine.Machine.give_up.Goals as goal

pub mark-requires : goal.mark-requires
mark-requires c =
    has-mark c.self.inside.links c.self.inside.hosts.items c.self.inside.adopted c.args.self.now c.self.inside.marks c.args.host c.from-at.result c.self.view_is c.self.invariant
    c.requires c.from-at.ensures

pub invariant_of-self : goal.invariant_of-self
invariant_of-self c =
    let at : IsAt c.self.inside.links c.self.inside.hosts.items c.self.inside.adopted c.args.self.now c.args.host c.from-at.result c.index_mut.result.now =
    record { is = c.self.view_is; kept = c.self.invariant.hosts; below = c.requires; at = c.from-at.ensures; there = c.index_mut.ensures.value } in
    marked c.self.inside.marks c.mark.new.self c.give_up-done.new.self at c.self.invariant (kept-in-state c.give_up-done.new.self (given_up c.index_mut.result.now.state) at c.give_up-done.ensures.after) c.mark.ensures

pub returns : goal.returns
returns c =
    let at : IsAt c.self.inside.links c.self.inside.hosts.items c.self.inside.adopted c.args.self.now c.args.host c.from-at.result c.index_mut.result.now =
    record { is = c.self.view_is; kept = c.self.invariant.hosts; below = c.requires; at = c.from-at.ensures; there = c.index_mut.ensures.value } in
    gave_up-is c.give_up-done.new.self c.give_up-done.result c.done_or_idle.result at c.give_up-done.ensures.told c.give_up-done.ensures.after c.done_or_idle.ensures
