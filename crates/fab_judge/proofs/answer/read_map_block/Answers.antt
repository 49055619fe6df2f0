use Rattle.std.proofs.Common.{refl}
use Rattle.answer_defs.specs.Answer.{WithMap}
use Rattle.map_canon.specs.Reading.{map_part}
use Rattle.fab_judge.proofs.AnswerLines.{map-read, map-stopped}
use Rattle.fab_judge.proofs.Steps.{none_numbered}
use Rattle.fab_judge.proofs.answer.read_map_block.Goals as goal

pub returns-in-Ok-clause-said : goal.returns-in-Ok-clause-said
returns-in-Ok-clause-said c = (
  WithMap c.args.line c.in-Ok.map,
  map-read c.args.line (map_part c.args.reader.now.past c.args.f.now c.args.reader.now.left) c.next_map.new.self.left c.in-Ok.map c.in-Ok.ensures.said,
  refl,
)

pub returns-in-Ok-clause-numbered : goal.returns-in-Ok-clause-numbered
returns-in-Ok-clause-numbered c = none_numbered c.args.reader.now c.next_map.new.self c.in-Ok.ensures.past c.in-Ok.ensures.numbers

pub returns-in-Err-clause-said : goal.returns-in-Err-clause-said
returns-in-Err-clause-said c =
    map-stopped c.args.line (map_part c.args.reader.now.past c.args.f.now c.args.reader.now.left) c.next_map.new.self.left c.in-Err.stop c.in-Err.ensures.said
