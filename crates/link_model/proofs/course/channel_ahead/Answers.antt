use Rattle.std.proofs.Common.{◌<◌, sym, ap, ◌∙◌, subst}
use Rattle.std.specs.Option.{IfSome}
use Rattle.world_defs.specs.Crossed.{life_channels}
use Rattle.link_model.specs.Hop.{passing}
use Rattle.link_model.proofs.Turning.{byte-enters, none-enters, next-below}
use Rattle.link_model.proofs.course.channel_ahead.Goals as goal

pub returns-in-Some-clause-passing : goal.returns-in-Some-clause-passing
returns-in-Some-clause-passing c =
    ap (passing c.args.wiring.now c.args.packet.now) c.next.ensures
    ∙ sym (byte-enters c.args.wiring.now c.args.c c.args.packet.now c.in-Some.byte (sym c.in-Some.ensures))

pub returns-in-Some-clause-there : goal.returns-in-Some-clause-there
returns-in-Some-clause-there c =
    subst (λ o. IfSome o (λ d. d < life_channels c.args.wiring.now)) (sym c.next.ensures) (next-below c.args.wiring.now c.args.c c.in-Some.byte)

pub returns-in-None-clause-passing : goal.returns-in-None-clause-passing
returns-in-None-clause-passing c = sym (none-enters c.args.wiring.now c.args.c c.args.packet.now (sym c.in-None.ensures))
