use Rattle.std.proofs.Common.{◌≡◌, ap, ◌∙◌, sym, subst}
use Rattle.packet_defs.specs.Packet.{stripped}
use Rattle.world_defs.specs.Links.{Held}
use Rattle.link_model.specs.Hop.{IsSentOn}
use Rattle.link_model.proofs.course.turned.Goals as goal

pub turn_on-requires-clause-goes : goal.turn_on-requires-clause-goes
turn_on-requires-clause-goes c = subst (IsSentOn c.args.wiring.now c.args.c) (sym (ap (λ p. p.0) c.into_parts-packet.ensures)) c.requires.goes

pub returns : goal.returns
returns c =
    let behind : c.turn_on.new.packet ≡ stripped c.args.slot.wire = c.turn_on.ensures ∙ ap (λ p. stripped p.0) c.into_parts-packet.ensures in
    c.from_parts.ensures ∙ (λ j. let h : Held = record { wire = behind j; marked = (c.into_parts-packet.ensures j).1; born = (c.into_parts-packet.ensures j).2 } in h)
