use Rattle.std.proofs.Common.{◌<◌, length, option_map, ap, sym, subst, ◌∙◌, arith}
use Rattle.world_defs.specs.Step.{advanced}
use Rattle.world_defs.specs.Hearing.{hear}
use Rattle.client_host.specs.Held.{in_state}
use Rattle.fab_world.specs.Held.{world_of}
use Rattle.fab_world.specs.Resting.{leaves_host}
use Rattle.fab_world.proofs.Answers.{on-any-err}
use Rattle.fab_world.proofs.HostEvents.{heard-is}
use Rattle.fab_world.proofs.Places.{IsAt, count-is, below-is, kept-in-state, same}
use Rattle.fab_world.proofs.Hearing.{stays-heard}
use Rattle.fab_world.proofs.Resting.{heard-watched, still-watched, has-mark}
use Rattle.fab_world.proofs.machine.Machine.advance.Goals as goal

pub reaching-requires : goal.reaching-requires
reaching-requires c = subst (λ v. c.args.c < length v.links.channels) (sym c.self.view_is) c.requires.there

pub heard-requires : goal.heard-requires
heard-requires c = subst (λ v. c.args.c < length v.links.channels) (sym c.self.view_is) c.requires.there

pub advance-requires-clause-there : goal.advance-requires-clause-there
advance-requires-clause-there c = subst (λ v. c.args.c < length v.links.channels) (sym c.self.view_is) c.requires.there

pub advance-requires-clause-inside : goal.advance-requires-clause-inside
advance-requires-clause-inside c = sym c.reaching.ensures.reaching ∙ ap (option_map (λ t. (t.0, t.1.now))) c.in-None.is

pub mark_heard-requires : goal.mark_heard-requires
mark_heard-requires c =
    has-mark c.self.inside.links c.self.inside.hosts.items c.self.inside.adopted c.args.self.now c.self.inside.marks c.in-Some.host c.from-at.result c.self.view_is c.self.invariant
    (below-is c.args.self.now c.self.inside.links c.self.inside.hosts.items c.self.inside.adopted c.in-Some.host c.self.view_is c.requires.hosts c.in-Some.ensures.host) c.from-at.ensures

pub index_mut-requires : goal.index_mut-requires
index_mut-requires c =
    let count = count-is c.self.inside.links c.self.inside.hosts.items c.self.inside.adopted c.args.self.now c.self.view_is in
    let low = below-is c.args.self.now c.self.inside.links c.self.inside.hosts.items c.self.inside.adopted c.in-Some.host c.self.view_is c.requires.hosts c.in-Some.ensures.host in
    let at = c.from-at.ensures in
    omega (arith, count, low, at)

pub invariant_of-self : goal.invariant_of-self
invariant_of-self c =
    let at : IsAt c.self.inside.links c.self.inside.hosts.items c.self.inside.adopted c.args.self.now c.in-Some.host c.from-at.result c.index_mut.result.now =
    record { is = c.self.view_is; kept = c.self.invariant.hosts; below = below-is c.args.self.now c.self.inside.links c.self.inside.hosts.items c.self.inside.adopted c.in-Some.host c.self.view_is c.requires.hosts c.in-Some.ensures.host; at = c.from-at.ensures; there = c.index_mut.ensures.value } in
    still-watched c.self.inside.marks c.on_packet.new.self at c.self.invariant c.in_err-arrival-in-Some.ensures.unchanged

pub invariant_of-self-in-Some : goal.invariant_of-self-in-Some
invariant_of-self-in-Some c =
    let at : IsAt c.self.inside.links c.self.inside.hosts.items c.self.inside.adopted c.args.self.now c.in-Some.host c.from-at.result c.index_mut.result.now =
    record { is = c.self.view_is; kept = c.self.invariant.hosts; below = below-is c.args.self.now c.self.inside.links c.self.inside.hosts.items c.self.inside.adopted c.in-Some.host c.self.view_is c.requires.hosts c.in-Some.ensures.host; at = c.from-at.ensures; there = c.index_mut.ensures.value } in
    let x = c.index_mut.result.now in
    let k = c.in_ok-arrival-in-Some.ensures in
    heard-watched c.self.inside.marks c.mark_heard.new.self c.on_packet.new.self (leaves_host c.in_ok-arrival-in-Some.arrival) at c.self.invariant
    (kept-in-state c.on_packet.new.self (hear x.host x.hosts x.state c.in-Some.packet.now).1 at k.after)
    (λ e. k.after ∙ ap (in_state x) (stays-heard x.host x.hosts x.state c.in-Some.packet.now (ap leaves_host (sym k.heard) ∙ e)))
    c.mark_heard.ensures.stays c.mark_heard.ensures.marked

pub returns-in_err-arrival-in-Some-clause-err : goal.returns-in_err-arrival-in-Some-clause-err
returns-in_err-arrival-in-Some-clause-err c =
    let at : IsAt c.self.inside.links c.self.inside.hosts.items c.self.inside.adopted c.args.self.now c.in-Some.host c.from-at.result c.index_mut.result.now =
    record { is = c.self.view_is; kept = c.self.invariant.hosts; below = below-is c.args.self.now c.self.inside.links c.self.inside.hosts.items c.self.inside.adopted c.in-Some.host c.self.view_is c.requires.hosts c.in-Some.ensures.host; at = c.from-at.ensures; there = c.index_mut.ensures.value } in
    on-any-err c.from_residual.result (same c.on_packet.new.self at c.in_err-arrival-in-Some.ensures.unchanged)

pub returns-in_ok-arrival-in-Some-clause-ok : goal.returns-in_ok-arrival-in-Some-clause-ok
returns-in_ok-arrival-in-Some-clause-ok c =
    let at : IsAt c.self.inside.links c.self.inside.hosts.items c.self.inside.adopted c.args.self.now c.in-Some.host c.from-at.result c.index_mut.result.now =
    record { is = c.self.view_is; kept = c.self.invariant.hosts; below = below-is c.args.self.now c.self.inside.links c.self.inside.hosts.items c.self.inside.adopted c.in-Some.host c.self.view_is c.requires.hosts c.in-Some.ensures.host; at = c.from-at.ensures; there = c.index_mut.ensures.value } in
    heard-is c.args.c c.on_packet.new.self c.in-Some.packet.now c.in_ok-arrival-in-Some.arrival c.heard.result c.heard.new.self at c.in-Some.ensures.heard c.in_ok-arrival-in-Some.ensures.heard c.in_ok-arrival-in-Some.ensures.after c.heard.ensures

pub returns-in-None-clause-ok : goal.returns-in-None-clause-ok
returns-in-None-clause-ok c = ap (λ w. advanced w c.args.c) (sym c.self.view_is) ∙ c.advance.ensures (world_of c.self.inside.links c.self.inside.hosts.items c.self.inside.adopted)
