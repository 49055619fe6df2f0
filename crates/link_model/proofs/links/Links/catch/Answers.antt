use Rattle.std.proofs.Common.{sym, subst, ap, ◌∙◌, ◌<◌, ◌+◌, ◌≡◌, false, length}
use Rattle.world_defs.specs.Fault.{is_used_up}
use Rattle.world_defs.specs.Shape.{IsLinks}
use Rattle.link_model.specs.State.{state}
use Rattle.link_model.proofs.Limbos.{caught-links}
use Rattle.link_model.proofs.links.Links.catch.Goals as goal

pub invariant_of-self-2 : goal.invariant_of-self-2
invariant_of-self-2 c =
    let s = state c.self.inside.wiring c.self.inside.epoch c.self.inside.slots c.self.inside.limbo c.self.inside.next_serial in
    let low : c.args.c < length s.channels = subst (λ t. c.args.c < length t.channels) (sym c.self.view_is) c.requires.there in
    let left : is_used_up s ≡ false = ap is_used_up c.self.view_is ∙ c.requires.left in
    subst (λ l. IsLinks (state c.self.inside.wiring c.self.inside.epoch c.self.inside.slots l (c.self.inside.next_serial + 1))) (sym c.in_ok-push.ensures.ok) (caught-links s c.args.c c.args.slot low left c.self.invariant)
