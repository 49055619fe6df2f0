use Rattle.packet_defs.proofs.Packets.{strip_keeps, length-stripped, strips_keep}
use Rattle.packet_defs.proofs.laws.strips.Goals as goal

pub returns-clause-kept : goal.returns-clause-kept
returns-clause-kept c = strip_keeps

pub returns-clause-shorter : goal.returns-clause-shorter
returns-clause-shorter c = length-stripped

pub returns-clause-kept_by_many : goal.returns-clause-kept_by_many
returns-clause-kept_by_many c = strips_keep
