use Rattle.std.proofs.Common.{◌+◌, sym, subst, length}
use Rattle.fab_judge.specs.Reading.{AreNumbered}
use Rattle.fab_judge.specs.Shown.{map_in}
use Rattle.fab_judge.proofs.AnswerLines.{routes-not-read}
use Rattle.fab_judge.proofs.Steps.{read_more, read_numbered}
use Rattle.fab_judge.proofs.answer.read_routes_block.Goals as goal

pub returns-in-Ok-read_ranks-clause-numbered : goal.returns-in-Ok-read_ranks-clause-numbered
returns-in-Ok-read_ranks-clause-numbered c =
    let r = c.args.reader.now in
    let mid = c.read_routes.new.reader in
    let now = c.read_ranks.new.reader in
    let ranks = c.in-Ok-read_ranks.ranks.items in
    subst (λ ks. AreNumbered r now (length c.in-Ok.routes + (length ks + 1))) (sym c.new.ensures)
    (read_numbered r now (length c.in-Ok.routes + (length ranks + 1)) (read_more r mid now (length c.in-Ok.routes) (length ranks + 1) c.in-Ok.ensures.read c.in-Ok-read_ranks.ensures.read))

pub returns-in-Err-clause-said : goal.returns-in-Err-clause-said
returns-in-Err-clause-said c =
    routes-not-read c.args.count (map_in c.args.shown.now) c.args.reader.now.past c.args.f.now c.args.reader.now.left c.read_routes.new.reader.left c.in-Err.stop c.in-Err.ensures.said
