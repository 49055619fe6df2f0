use Rattle.std.proofs.Common.{length, take}
use Rattle.packet_defs.proofs.Reading.{turns_of-turns}
use Rattle.packet_defs.proofs.turns.few_of.Goals as goal

pub of_few-requires-clause-in_range : goal.of_few-requires-clause-in_range
of_few-requires-clause-in_range c = (turns_of-turns c.args.bytes.now (take (length c.args.bytes.now) c.in-Some.turns) c.in-Some.ensures.some).0
