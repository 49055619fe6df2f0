use Rattle.std.proofs.Common.{◌<◌, ap, sym, subst, ◌∙◌, arith}
use Rattle.std.specs.Prelude.{IfOk}
use Rattle.world_defs.specs.World.{WorldState, host_count, last_count}
use Rattle.world_defs.specs.Hearing.{hear}
use Rattle.client_host.specs.Held.{in_state}
use Rattle.fab_world.specs.Carried.{ends_alone}
use Rattle.fab_world.specs.Resting.{leaves_host}
use Rattle.fab_world.proofs.Answers.{on-any-err}
use Rattle.fab_world.proofs.Places.{IsAt, count-is, kept-in-state, same}
use Rattle.fab_world.proofs.Hearing.{stays-heard}
use Rattle.fab_world.proofs.Probing.{alone-is, dropped-is}
use Rattle.fab_world.proofs.Resting.{heard-watched, still-watched, has-mark}
use Rattle.fab_world.proofs.machine.Machine.end_alone.Goals as goal

pub heard_alone-requires : goal.heard_alone-requires
heard_alone-requires c = subst (λ (w : WorldState). w.injected < last_count) (sym c.self.view_is) c.requires.left

pub dropped_alone-requires : goal.dropped_alone-requires
dropped_alone-requires c = subst (λ (w : WorldState). w.injected < last_count) (sym c.self.view_is) c.requires.left

pub mark_heard-requires : goal.mark_heard-requires
mark_heard-requires c =
    has-mark c.self.inside.links c.self.inside.hosts.items c.self.inside.adopted c.args.self.now c.self.inside.marks c.in-Ok.host c.from-at.result c.self.view_is c.self.invariant
    (subst (λ e. IfOk e (λ h. h < host_count c.args.self.now)) c.in-Ok.is c.requires.there) c.from-at.ensures

pub index_mut-requires : goal.index_mut-requires
index_mut-requires c =
    let count = count-is c.self.inside.links c.self.inside.hosts.items c.self.inside.adopted c.args.self.now c.self.view_is in
    let low : c.in-Ok.host < host_count c.args.self.now = subst (λ e. IfOk e (λ h. h < host_count c.args.self.now)) c.in-Ok.is c.requires.there in
    let at = c.from-at.ensures in
    omega (arith, count, low, at)

pub invariant_of-self : goal.invariant_of-self
invariant_of-self c =
    let at : IsAt c.self.inside.links c.self.inside.hosts.items c.self.inside.adopted c.args.self.now c.in-Ok.host c.from-at.result c.index_mut.result.now =
    record { is = c.self.view_is; kept = c.self.invariant.hosts; below = subst (λ e. IfOk e (λ h. h < host_count c.args.self.now)) c.in-Ok.is c.requires.there; at = c.from-at.ensures; there = c.index_mut.ensures.value } in
    still-watched c.self.inside.marks c.on_packet.new.self at c.self.invariant c.in_err-arrival-in-Ok.ensures.unchanged

pub invariant_of-self-in-Ok : goal.invariant_of-self-in-Ok
invariant_of-self-in-Ok c =
    let at : IsAt c.self.inside.links c.self.inside.hosts.items c.self.inside.adopted c.args.self.now c.in-Ok.host c.from-at.result c.index_mut.result.now =
    record { is = c.self.view_is; kept = c.self.invariant.hosts; below = subst (λ e. IfOk e (λ h. h < host_count c.args.self.now)) c.in-Ok.is c.requires.there; at = c.from-at.ensures; there = c.index_mut.ensures.value } in
    let x = c.index_mut.result.now in
    let k = c.in_ok-arrival-in-Ok.ensures in
    heard-watched c.self.inside.marks c.mark_heard.new.self c.on_packet.new.self (leaves_host c.in_ok-arrival-in-Ok.arrival) at c.self.invariant
    (kept-in-state c.on_packet.new.self (hear x.host x.hosts x.state c.args.packet.now).1 at k.after)
    (λ e. k.after ∙ ap (in_state x) (stays-heard x.host x.hosts x.state c.args.packet.now (ap leaves_host (sym k.heard) ∙ e)))
    c.mark_heard.ensures.stays c.mark_heard.ensures.marked

pub returns-in_err-arrival-in-Ok-clause-err : goal.returns-in_err-arrival-in-Ok-clause-err
returns-in_err-arrival-in-Ok-clause-err c =
    let at : IsAt c.self.inside.links c.self.inside.hosts.items c.self.inside.adopted c.args.self.now c.in-Ok.host c.from-at.result c.index_mut.result.now =
    record { is = c.self.view_is; kept = c.self.invariant.hosts; below = subst (λ e. IfOk e (λ h. h < host_count c.args.self.now)) c.in-Ok.is c.requires.there; at = c.from-at.ensures; there = c.index_mut.ensures.value } in
    on-any-err c.from_residual.result (same c.on_packet.new.self at c.in_err-arrival-in-Ok.ensures.unchanged)

pub returns-in_ok-arrival-in-Ok-clause-ok : goal.returns-in_ok-arrival-in-Ok-clause-ok
returns-in_ok-arrival-in-Ok-clause-ok c =
    let at : IsAt c.self.inside.links c.self.inside.hosts.items c.self.inside.adopted c.args.self.now c.in-Ok.host c.from-at.result c.index_mut.result.now =
    record { is = c.self.view_is; kept = c.self.invariant.hosts; below = subst (λ e. IfOk e (λ h. h < host_count c.args.self.now)) c.in-Ok.is c.requires.there; at = c.from-at.ensures; there = c.index_mut.ensures.value } in
    ap (λ e. ends_alone c.args.self.now e c.args.packet.now) c.in-Ok.is
    ∙ alone-is c.on_packet.new.self c.args.packet.now c.in_ok-arrival-in-Ok.arrival c.heard_alone.result c.heard_alone.new.self at c.in_ok-arrival-in-Ok.ensures.heard c.in_ok-arrival-in-Ok.ensures.after c.heard_alone.ensures

pub returns-in-Err-clause-ok : goal.returns-in-Err-clause-ok
returns-in-Err-clause-ok c =
    ap (λ e. ends_alone c.args.self.now e c.args.packet.now) c.in-Err.is
    ∙ dropped-is c.self.inside.links c.self.inside.hosts.items c.self.inside.adopted c.args.self.now c.in-Err.why c.args.packet.now c.dropped_alone.result c.dropped_alone.new.self c.self.view_is c.dropped_alone.ensures.effect c.dropped_alone.ensures.after
