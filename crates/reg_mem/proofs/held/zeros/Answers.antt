use Rattle.std.proofs.lemmas.List.{take-replicate}
use Rattle.reg_mem.proofs.held.zeros.Goals as goal

pub returns : goal.returns
returns c = take-replicate c.args.len 65536 0 c.requires
