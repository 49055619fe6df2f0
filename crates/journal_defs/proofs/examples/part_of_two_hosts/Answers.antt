-- out of port 0 of the host and in by port 2, out by port 5 and in by port 0
use Rattle.std.proofs.Common.{refl}
use Rattle.journal_defs.specs.Part.Path.{here, over}
use Rattle.journal_defs.proofs.examples.part_of_two_hosts.Goals as goal

pub returns-clause-path : goal.returns-clause-path
returns-clause-path c = over (over here 0 2 refl) 5 0 refl

pub returns-clause-in_part : goal.returns-clause-in_part
returns-clause-in_part c = record { cables = 2; path = over (over here 0 2 refl) 5 0 refl }
