use Rattle.std.proofs.Common.{ap, ◌∙◌, sym, set, get_or, Some, None}
use Rattle.world_defs.specs.Fault.{flip}
use Rattle.link_model.specs.State.{state}
use Rattle.link_model.proofs.Counting.{set-set}
use Rattle.link_model.proofs.Stepping.{flip-back}
use Rattle.link_model.proofs.links.Links.flip.Goals as goal

pub returns-clause-links : goal.returns-clause-links
returns-clause-links c =
    let s = state c.self.inside.wiring c.self.inside.epoch c.self.inside.slots c.self.inside.limbo c.self.inside.next_serial in
    let after = c.flip-slot.result.0 in
    ap (λ l. record s { channels = l })
    (c.put.ensures ∙ ap (λ i. set c.take.new.self i (Some after)) c.from-2.ensures ∙ ap (λ l. set l c.args.c (Some after)) (c.take.ensures.slots ∙ ap (λ i. set c.self.inside.slots i None) c.from.ensures)
    ∙ set-set c.self.inside.slots c.args.c None (Some after))
    ∙ flip-back s c.args.c c.args.bit c.args.pattern c.in-Some.slot after c.flip-slot.result.1 (sym (c.in-Some.ensures.slot ∙ ap (λ i. get_or c.self.inside.slots i None) c.from.ensures)) c.flip-slot.ensures.meets c.flip-slot.ensures.slot
    ∙ ap (λ t. (flip t c.args.c c.args.bit c.args.pattern).1) c.self.view_is
