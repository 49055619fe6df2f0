use Rattle.mapper.specs.Growths.IsLostAsk.{was_asked}
use Rattle.mapper.proofs.Adding.{on-err, next-entry}
use Rattle.mapper.proofs.asking.ask.Goals as goal

pub keep-requires-clause-next : goal.keep-requires-clause-next
keep-requires-clause-next g c =
    let p = g.P.Prober in
    next-entry (p.fabric c.args.p.now) (p.mapper c.args.p.now) c.args.tree.now c.args.walk c.in_ok-answer.answer (p.lost c.args.p.now) (p.lost c.ask.new.self) c.requires.next c.in_ok-answer.ensures.truth

pub returns-clause-err : goal.returns-clause-err
returns-clause-err g c = on-err c.keep.result (was_asked c.in_ok-answer.answer c.in_ok-answer.ensures.by_asking)
