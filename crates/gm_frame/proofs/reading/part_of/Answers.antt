use Rattle.std.proofs.lemmas.List.{take_rest}
use Rattle.gm_frame.proofs.reading.part_of.Goals as goal

pub returns : goal.returns
returns c = take_rest c.args.b.now 23
