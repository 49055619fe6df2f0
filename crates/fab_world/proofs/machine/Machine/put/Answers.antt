use Rattle.std.proofs.Common.{◌≡◌, true, ap, ◌∙◌}
use Rattle.std.specs.Prelude.{is_some}
use Rattle.world_defs.specs.Node.{to_send}
use Rattle.nic_node.specs.Sending.{chosen, once_sent}
use Rattle.client_host.specs.Held.{in_state}
use Rattle.fab_world.specs.Held.{world_of}
use Rattle.fab_world.proofs.Answers.{on-any-err}
use Rattle.fab_world.proofs.Places.{IsAt, found, as-read, kept-in-state}
use Rattle.fab_world.proofs.Resting.{marked, has-mark}
use Rattle.fab_world.proofs.Injecting.{injected-is}
use Rattle.fab_world.proofs.machine.Machine.put.Goals as goal

pub mark-requires : goal.mark-requires
mark-requires c =
    has-mark c.self.inside.links c.self.inside.hosts.items c.self.inside.adopted c.args.self.now c.self.inside.marks c.args.host c.from-at.result c.self.view_is c.self.invariant
    c.requires.there c.from-at.ensures

pub sent_as-requires : goal.sent_as-requires
sent_as-requires c =
    let at : IsAt c.self.inside.links c.self.inside.hosts.items c.self.inside.adopted c.args.self.now c.args.host c.from-at.result c.index_mut.result.now =
    record { is = c.self.view_is; kept = c.self.invariant.hosts; below = c.requires.there; at = c.from-at.ensures; there = c.index_mut.ensures.value } in
    as-read (λ h n. is_some (chosen h n c.args.next) ≡ true) (found at) c.requires.some

pub invariant_of-self-2 : goal.invariant_of-self-2
invariant_of-self-2 c =
    let at : IsAt c.self.inside.links c.self.inside.hosts.items c.self.inside.adopted c.args.self.now c.args.host c.from-at.result c.index_mut.result.now =
    record { is = c.self.view_is; kept = c.self.invariant.hosts; below = c.requires.there; at = c.from-at.ensures; there = c.index_mut.ensures.value } in
    let x = c.index_mut.result.now in
    marked c.self.inside.marks c.mark.new.self c.sent_as.new.self at c.self.invariant (kept-in-state c.sent_as.new.self (once_sent x.state (chosen x.host x.state c.args.next)) at c.sent_as.ensures) c.mark.ensures

pub returns-clause-ok : goal.returns-clause-ok
returns-clause-ok c =
    let at : IsAt c.self.inside.links c.self.inside.hosts.items c.self.inside.adopted c.args.self.now c.args.host c.from-at.result c.index_mut.result.now =
    record { is = c.self.view_is; kept = c.self.invariant.hosts; below = c.requires.there; at = c.from-at.ensures; there = c.index_mut.ensures.value } in
    let x = c.index_mut.result.now in
    injected-is c.args.c c.sent_as.new.self c.args.packet c.in_ok-effect.effect c.enter.new.links at c.requires.free c.requires.may c.requires.packet c.in_ok-effect.ensures.number c.in_ok-effect.ensures.strikes
    (c.sent_as.ensures ∙ ap (λ o. in_state x (once_sent x.state o)) (as-read (λ h n. chosen h n c.args.next ≡ to_send h n) (found at) c.requires.first))

pub returns-in_err-effect-clause-err : goal.returns-in_err-effect-clause-err
returns-in_err-effect-clause-err c =
    on-any-err c.from_residual.result (ap (λ l. world_of l c.self.inside.hosts.items c.self.inside.adopted) c.in_err-effect.ensures.err ∙ c.self.view_is)
