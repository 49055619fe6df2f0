use Rattle.fab_judge.proofs.Judged.{tables-kept, broken-kept}
use Rattle.fab_judge.proofs.faults.fault_of.Goals as goal

pub returns-in-WithTables-clause-judges : goal.returns-in-WithTables-clause-judges
returns-in-WithTables-clause-judges c = λ before a is kept.
    tables-kept c.args.f.now before c.args.command.now c.args.answer a c.args.past.now c.in-WithTables.is kept is

pub returns-in-WithBroken-clause-judges : goal.returns-in-WithBroken-clause-judges
returns-in-WithBroken-clause-judges c = λ before a is kept.
    broken-kept c.args.f.now before c.args.command.now c.args.answer a c.args.past.now c.in-WithBroken.is kept is
