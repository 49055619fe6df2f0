use Rattle.std.proofs.Common.{sym, subst}
use Rattle.fab_text.specs.Line.{lines_left}
use Rattle.map_canon.specs.Reading.{map_part}
use Rattle.fab_judge.specs.Reading.{GivesMap}
use Rattle.fab_judge.proofs.AnswerLines.{map-given}
use Rattle.fab_judge.proofs.reader.Reader.next_map.Goals as goal

pub returns-clause-said : goal.returns-clause-said
returns-clause-said c =
    let left = lines_left c.read_map_part-read.new.left in
    subst (λ r. GivesMap (map_part r.past c.args.f.now r.left) left c.unread_map.result) c.self.view_is
    (subst (λ m. GivesMap (map_part c.self.inside.past c.args.f.now (lines_left c.self.inside.left)) left m) (sym c.unread_map.ensures)
    (map-given (map_part c.self.inside.past c.args.f.now (lines_left c.self.inside.left)) left c.read_map_part-read.result c.read_map_part-read.ensures.reading))
