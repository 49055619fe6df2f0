use Rattle.std.proofs.Common.{sym, ◌∙◌, true≢false}
use Rattle.fab_judge.proofs.ledgers.Ledgers.receive.Goals as goal

pub receive_next-requires : goal.receive_next-requires
receive_next-requires c = c.gives_length.ensures.0 c.if-gives_length.true

pub returns-else-gives_length-clause-judges : goal.returns-else-gives_length-clause-judges
returns-else-gives_length-clause-judges c = λ before cmd h m. true≢false (sym (c.gives_length.ensures.1 m.lengths) ∙ c.if-gives_length.false)
