use Rattle.std.proofs.Common.{length, take}
use Rattle.packet_defs.proofs.Reading.{turns-walk}
use Rattle.packet_defs.proofs.turns.many_of.Goals as goal

pub walk_in-requires : goal.walk_in-requires
walk_in-requires c = turns-walk c.args.bytes.now (take (length c.args.bytes.now) c.in-Some.turns) c.requires c.in-Some.ensures.some
