use Rattle.std.proofs.Common.{sym, Ok, Err}
use Rattle.circ_map.proofs.Numbers.{number-searched}
use Rattle.circ_map.proofs.inside.place_in.Goals as goal

pub returns-in-Ok-clause-place : goal.returns-in-Ok-clause-place
returns-in-Ok-clause-place c = sym (number-searched c.args.kept.now c.args.v (Ok c.in-Ok.at) c.requires c.in-Ok.ensures.position).0

pub returns-in-Err-clause-place : goal.returns-in-Err-clause-place
returns-in-Err-clause-place c = sym (number-searched c.args.kept.now c.args.v (Err c.in-Err.field-0) c.requires c.in-Err.ensures.position)
