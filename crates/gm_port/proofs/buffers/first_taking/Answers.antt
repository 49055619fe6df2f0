use Rattle.std.proofs.Common.{◌∙◌}
use Rattle.gm_port.proofs.Beginning.{taken_begun}
use Rattle.gm_port.proofs.buffers.first_taking.Goals as goal

pub returns : goal.returns
returns c = c.first_by.ensures ∙ taken_begun c.args.h.now c.args.provided.now.items c.args.may_fill c.is_begun-begun.result c.requires c.is_begun-begun.ensures
