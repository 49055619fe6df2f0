use Rattle.std.proofs.Common.{List, ℕ, ap, ◌∙◌}
use Rattle.world_defs.specs.Switch.{after_aim}
use Rattle.link_model.proofs.Stepping.{stripped-behind}
use Rattle.link_model.proofs.course.turn_on.Goals as goal

pub returns : goal.returns
returns c =
    let e = c.entry-entry.result in
    let wire : List ℕ = c.args.packet.now in
    c.turn_at.ensures.packet ∙ ap (λ t. after_aim t wire) c.turn_at.ensures.aim
    ∙ stripped-behind c.args.wiring.now c.args.c c.requires.goes.0 e.ports e.end wire c.entry-entry.ensures.end c.entry-entry.ensures.ports c.requires.goes.1
