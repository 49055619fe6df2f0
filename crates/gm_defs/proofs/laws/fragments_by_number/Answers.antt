use Rattle.gm_defs.proofs.Numbers.{next-fragment, none-below, more-below, all-below}
use Rattle.gm_defs.proofs.laws.fragments_by_number.Goals as goal

pub returns-clause-next : goal.returns-clause-next
returns-clause-next c = next-fragment

pub returns-clause-none : goal.returns-clause-none
returns-clause-none c = none-below

pub returns-clause-more : goal.returns-clause-more
returns-clause-more c = more-below

pub returns-clause-all : goal.returns-clause-all
returns-clause-all c = all-below
