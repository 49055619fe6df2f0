use Rattle.std.proofs.Common.{ap, ◌∙◌, sym, set, get_or, Some, None}
use Rattle.world_defs.specs.Links.{with_packet}
use Rattle.link_model.specs.State.{state}
use Rattle.link_model.proofs.Counting.{set-back}
use Rattle.link_model.proofs.links.Links.hold.Goals as goal

pub returns-in-Err-clause-err : goal.returns-in-Err-clause-err
returns-in-Err-clause-err c =
    let s = state c.self.inside.wiring c.self.inside.epoch c.self.inside.slots c.self.inside.limbo c.self.inside.next_serial in
    let later = state c.self-2.inside.wiring c.self-2.inside.epoch c.self-2.inside.slots c.self-2.inside.limbo c.self-2.inside.next_serial in
    let slot = c.in-Some.slot in
    ap (λ l. record later { channels = l })
    (c.put.ensures ∙ ap (λ i. set c.self-2.inside.slots i (Some c.in-Err.slot)) c.from-in-Err.ensures ∙ ap (λ h. set c.self-2.inside.slots c.args.c (Some h)) c.in-Err.ensures.back)
    ∙ ap (λ t. with_packet t c.args.c (Some slot)) (c.self-2.view_is ∙ c.in-Err.ensures.err)
    ∙ ap (λ l. record s { channels = l })
    (ap (λ l. set l c.args.c (Some slot)) (c.take.ensures.slots ∙ ap (λ i. set c.self.inside.slots i None) c.from.ensures)
    ∙ set-back c.self.inside.slots c.args.c slot (sym (c.in-Some.ensures.slot ∙ ap (λ i. get_or c.self.inside.slots i None) c.from.ensures)))
    ∙ c.self.view_is
