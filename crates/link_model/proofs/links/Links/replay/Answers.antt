use Rattle.std.proofs.Common.{ap, ◌∙◌, sym, subst, ◌<◌, ◌≡◌, false, length, set, get_or, Some, None, is_some, nat_eq}
use Rattle.std.specs.Map.{lookup}
use Rattle.world_defs.specs.Links.{packet_in}
use Rattle.world_defs.specs.Shape.{IsLinks}
use Rattle.link_model.specs.State.{state}
use Rattle.link_model.proofs.Limbos.{channel-below, channel-found, released-links}
use Rattle.link_model.proofs.links.Links.replay.Goals as goal

pub is_full-requires : goal.is_full-requires
is_full-requires c =
    let s = state c.self.inside.wiring c.self.inside.epoch c.self.inside.slots c.self.inside.limbo c.self.inside.next_serial in
    subst (λ n. n < length c.self.inside.slots) (sym c.from.ensures) (channel-below s c.args.serial c.in-Some.c c.self.invariant c.in-Some.ensures)

pub put-requires-clause-there : goal.put-requires-clause-there
put-requires-clause-there c =
    let s = state c.self.inside.wiring c.self.inside.epoch c.self.inside.slots c.self.inside.limbo c.self.inside.next_serial in
    subst (λ n. n < length c.self.inside.slots) (sym c.from-in-Some-2.ensures) (channel-below s c.args.serial c.in-Some.c c.self.invariant c.in-Some.ensures)

pub invariant_of-self : goal.invariant_of-self
invariant_of-self c =
    let s = state c.self.inside.wiring c.self.inside.epoch c.self.inside.slots c.self.inside.limbo c.self.inside.next_serial in
    let x = c.unwrap-kept.result in
    let found : lookup (nat_eq c.args.serial) c.self.inside.limbo ≡ Some x = sym c.remove.ensures.kept ∙ c.unwrap-kept.ensures in
    let there : x.channel ≡ c.in-Some.c = channel-found s c.args.serial c.in-Some.c x c.in-Some.ensures found in
    let empty : is_some (packet_in s x.channel) ≡ false = ap (λ i. is_some (get_or c.self.inside.slots i None)) (there ∙ sym c.from.ensures) ∙ sym c.is_full.ensures ∙ c.if-is_full.false in
    let slots : c.put.new.self ≡ set c.self.inside.slots x.channel (Some x.held) =
    c.put.ensures ∙ ap (λ i. set c.self.inside.slots i (Some c.into_slot.result)) (c.from-in-Some-2.ensures ∙ sym there) ∙ ap (λ h. set c.self.inside.slots x.channel (Some h)) c.into_slot.ensures in
    subst IsLinks (sym (λ i. state c.self.inside.wiring c.self.inside.epoch (slots i) (c.remove.ensures.rest i) c.self.inside.next_serial)) (released-links s c.args.serial x c.self.invariant found empty)
