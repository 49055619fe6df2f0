use Rattle.std.proofs.Common.{ap, sym, ◌∙◌, is_some, not}
use Rattle.world_defs.specs.Step.{gives_up_epoch}
use Rattle.fab_world.proofs.HostEvents.{revoked-is, revoked-none}
use Rattle.fab_world.proofs.Places.{IsAt, kept-in-state}
use Rattle.fab_world.proofs.Resting.{marked, has-mark}
use Rattle.fab_world.proofs.machine.Machine.revoke.Goals as goal

pub returns-then-is_none : goal.returns-then-is_none
returns-then-is_none c =
    revoked-none c.args.self.now c.args.host c.self.inside.adopted (sym (ap (λ w. w.adopted) c.self.view_is)) (sym (ap is_some c.adopter.ensures) ∙ c.is_none.ensures ∙ ap not c.if-is_none.true)

pub mark-requires : goal.mark-requires
mark-requires c =
    has-mark c.self.inside.links c.self.inside.hosts.items c.self.inside.adopted c.args.self.now c.self.inside.marks c.args.host c.from-at.result c.self.view_is c.self.invariant
    c.requires c.from-at.ensures

pub invariant_of-self : goal.invariant_of-self
invariant_of-self c =
    let at : IsAt c.self.inside.links c.self.inside.hosts.items c.self.inside.adopted c.args.self.now c.args.host c.from-at.result c.index_mut.result.now =
    record { is = c.self.view_is; kept = c.self.invariant.hosts; below = c.requires; at = c.from-at.ensures; there = c.index_mut.ensures.value } in
    marked c.self.inside.marks c.mark.new.self c.revoke.new.self at c.self.invariant (kept-in-state c.revoke.new.self (gives_up_epoch c.index_mut.result.now.state c.epoch-epoch.result) at c.revoke.ensures) c.mark.ensures

pub returns : goal.returns
returns c =
    let at : IsAt c.self.inside.links c.self.inside.hosts.items c.self.inside.adopted c.args.self.now c.args.host c.from-at.result c.index_mut.result.now =
    record { is = c.self.view_is; kept = c.self.invariant.hosts; below = c.requires; at = c.from-at.ensures; there = c.index_mut.ensures.value } in
    revoked-is c.revoke.new.self c.epoch-epoch.result c.self.inside.adopted at (sym (ap (λ w. w.adopted) c.self.view_is)) (sym (ap is_some c.adopter.ensures) ∙ c.is_none.ensures ∙ ap not c.if-is_none.false) c.epoch-epoch.ensures c.revoke.ensures
