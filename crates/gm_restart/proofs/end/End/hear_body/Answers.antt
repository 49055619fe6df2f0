use Rattle.std.proofs.Common.{◌∙◌, sym, ap}
use Rattle.std.specs.Prelude.{Ok}
use Rattle.gm_defs.proofs.Bodies.{read_frame}
use Rattle.gm_restart.proofs.end.End.hear_body.Goals as goal

pub part_of-requires : goal.part_of-requires
part_of-requires c = (read_frame c.args.body.now c.in-Ok-Frame.h (sym c.decode.ensures.exact ∙ c.in-Ok-Frame.is ∙ ap (λ b. Ok b) c.in-Ok-Frame.field-0-is)).0
