use Rattle.std.proofs.Common.{◌+◌, length, rules}
use Rattle.fab_outer.specs.declared.whole.ReadEnd.TheVariants.{TooLong}
use Rattle.fab_outer.proofs.Flow.{goes_on-trans, gone-trans, none-more}
use Rattle.fab_outer.proofs.whole.read_all.Goals as goal

pub returns-in-Err-clause-no_more : goal.returns-in-Err-clause-no_more
returns-in-Err-clause-no_more g c other =
    goes_on-trans _ _ _ _ (length c.append_some.new.piece) c.args.limit c.reading.invariant.consumed c.append_some.ensures.goes_on (search rules)

pub returns-clause-no_more : goal.returns-clause-no_more
returns-clause-no_more g c = none-more c.ended.result TooLong _ _ _ _ c.args.limit c.reading.invariant.consumed (search rules) c.ended.ensures.no_more

pub returns-clause-one_more : goal.returns-clause-one_more
returns-clause-one_more g c long = gone-trans _ _ _ _ 1 (c.args.limit + 1) c.reading.invariant.consumed (c.ended.ensures.one_more long) (search rules)
