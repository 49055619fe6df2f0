use Rattle.std.proofs.Common.{not, sym, ap, ◌∙◌}
use Rattle.std.specs.Prelude.{nat_eq}
use Rattle.link_model.proofs.Turning.{passing-old}
use Rattle.link_model.proofs.course.next_channel.Goals as goal

pub returns-else-this-ne0 : goal.returns-else-this-ne0
returns-else-this-ne0 g c =
    let old = c.requires.old (ap (λ k. not (nat_eq k 0)) c.if-this-ne0.false) in
    sym (passing-old c.args.wiring.now c.args.packet.now c.channel_ahead-ahead.result old) ∙ c.channel_ahead-ahead.ensures.passing
