use Rattle.std.proofs.lemmas.List.{take-replicate}
use Rattle.world_drain.proofs.awake.zeros.Goals as goal

pub returns : goal.returns
returns c = take-replicate c.args.len 512 0 c.requires
