use Rattle.std.proofs.Common.{◌∙◌, sym, ap}
use Rattle.std.specs.Prelude.{Ok}
use Rattle.nic_node.proofs.Within.{frame-is}
use Rattle.nic_node.proofs.messages.hear.Goals as goal

pub part_of-requires : goal.part_of-requires
part_of-requires c = frame-is c.args.body.now c.in-Ok-Frame.h (sym c.decode.ensures.exact ∙ c.in-Ok-Frame.is ∙ ap (λ b. Ok b) c.in-Ok-Frame.field-0-is)
