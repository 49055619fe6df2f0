use Rattle.std.proofs.Common.{◌++◌, ◌∷◌, [], Some, sym, ap, ◌∙◌}
use Rattle.std.specs.Prelude.{slice_get}
use Rattle.std.proofs.lemmas.List.{append-nil}
use Rattle.gm_conn.specs.Pair.{whole_message}
use Rattle.gm_conn.proofs.Stepping.{packet-head, hear-kept, heard-kept}
use Rattle.gm_conn.proofs.pair.Pair.deliver.Goals as goal

pub on_frame-requires : goal.on_frame-requires
on_frame-requires c =
    packet-head _ _ _ _ _ c.args.packet c.in-Some-Frame.h c.self.invariant
    (ap (λ l. slice_get l c.args.packet) (sym c.deref.ensures.value) ∙ sym c.packet_at.ensures ∙ c.in-Some-Frame.is ∙ ap (λ b. Some b) c.in-Some-Frame.field-0-is)

pub invariant_of-self-in-Whole : goal.invariant_of-self-in-Whole
invariant_of-self-in-Whole c =
    hear-kept _ _ _ _ _ _ _ c.args.packet c.in-Some-Frame.h c.args.fits c.on_frame.result c.self.invariant
    (ap (λ l. slice_get l c.args.packet) (sym c.deref.ensures.value) ∙ sym c.packet_at.ensures ∙ c.in-Some-Frame.is ∙ ap (λ b. Some b) c.in-Some-Frame.field-0-is)
    c.on_frame.ensures.took c.on_frame.ensures.taken
    (c.push_reserved.ensures.items ∙ ap (λ l. l ++ record { total = c.in-Some-Frame.h.total } ∷ []) c.reserve.ensures.items
    ∙ ap (λ t. c.self.inside.taken.items ++ whole_message c.in-Some-Frame.h t) (sym c.in-Whole.is))

pub invariant_of-self-in-Part : goal.invariant_of-self-in-Part
invariant_of-self-in-Part c =
    hear-kept _ _ _ _ _ _ _ c.args.packet c.in-Some-Frame.h c.args.fits c.on_frame.result c.self.invariant
    (ap (λ l. slice_get l c.args.packet) (sym c.deref.ensures.value) ∙ sym c.packet_at.ensures ∙ c.in-Some-Frame.is ∙ ap (λ b. Some b) c.in-Some-Frame.field-0-is)
    c.on_frame.ensures.took c.on_frame.ensures.taken
    (c.reserve.ensures.items ∙ sym (append-nil c.self.inside.taken.items) ∙ ap (λ t. c.self.inside.taken.items ++ whole_message c.in-Some-Frame.h t) (sym c.in-Part.is))

pub invariant_of-self-in-Some-Ack : goal.invariant_of-self-in-Some-Ack
invariant_of-self-in-Some-Ack c =
    heard-kept _ _ _ _ _ _ c.args.packet c.in-Some-Ack.a c.self.invariant
    (ap (λ l. slice_get l c.args.packet) (sym c.deref.ensures.value) ∙ sym c.packet_at.ensures ∙ c.in-Some-Ack.is ∙ ap (λ b. Some b) c.in-Some-Ack.field-0-is)
    c.on_ack-messages.ensures.new
