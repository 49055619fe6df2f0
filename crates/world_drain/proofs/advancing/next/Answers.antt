use Rattle.world_drain.proofs.Sleeping.{full-awake, none-full}
use Rattle.world_drain.proofs.advancing.next.Goals as goal

pub returns-in-None-clause-found : goal.returns-in-None-clause-found
returns-in-None-clause-found c = full-awake c.args.w.now c.args.from c.next_full.result c.next_full.ensures.found

pub returns-in-None-clause-none : goal.returns-in-None-clause-none
returns-in-None-clause-none c = none-full c.args.w.now c.args.from c.next_full.result c.next_full.ensures.none
