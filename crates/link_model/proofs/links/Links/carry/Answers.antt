use Rattle.std.proofs.Common.{◌<◌, length, ap, sym, subst, ◌∙◌, arith}
use Rattle.world_defs.specs.Links.{LinkState, is_idle}
use Rattle.link_model.specs.State.{state}
use Rattle.link_model.specs.Carried.{IsCarried}
use Rattle.link_model.proofs.Carrying.{carries}
use Rattle.link_model.proofs.links.Links.carry.Goals as goal

pub follow-run-requires : goal.follow-run-requires
follow-run-requires c =
    let slots = c.self.invariant.slots in
    let low = c.requires.there in
    let view = ap (λ s. length s.channels) c.self.view_is in
    omega (arith, slots, low, view)

pub end_of-requires : goal.end_of-requires
end_of-requires c = λ next e. c.follow-run.ensures.last next (sym c.course.ensures ∙ e)

pub returns : goal.returns
returns c =
    let s : LinkState = state c.self.inside.wiring c.self.inside.epoch c.self.inside.slots c.self.inside.limbo c.self.inside.next_serial in
    let r = c.follow-run.result in
    let slots = c.self.invariant.slots in
    let low : c.args.c < length s.channels = subst (λ (t : LinkState). c.args.c < length t.channels) (sym c.self.view_is) c.requires.there in
    let below = c.follow-run.ensures.there in
    subst (λ (t : LinkState). IsCarried t c.args.c c.args.packet.now r.hops c.end_of.result c.follow-run.new.packet) c.self.view_is
    (carries s c.args.c r.hops r.at c.args.packet.now c.follow-run.new.packet c.end_of.result c.self.invariant (ap is_idle c.self.view_is ∙ c.requires.idle) low (omega (arith, slots, below))
    c.follow-run.ensures.along c.follow-run.ensures.last (c.end_of.ensures ∙ c.course.ensures))
