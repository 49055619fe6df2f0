use Rattle.fab_outer.proofs.Flow.{on-err, takes-first}
use Rattle.fab_outer.specs.Whole.{TakesPrefix}
use Rattle.fab_outer.proofs.standard.write_through.Goals as goal

pub returns-in_err-flush-clause-part : goal.returns-in_err-flush-clause-part
returns-in_err-flush-clause-part g c =
    let contents = g.W.Write.contents in
    on-err c.from_residual-in_err-flush.result (TakesPrefix (contents c.args.writer.now) (contents c.flush.new.self) c.args.from.now)
    (takes-first (contents c.args.writer.now) (contents c.write.new.self) (contents c.flush.new.self) c.args.from.now c.in_ok-count.count c.in_ok-count.ensures.bytes c.in_err-flush.ensures.bytes)
