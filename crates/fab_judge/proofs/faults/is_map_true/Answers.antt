use Rattle.std.proofs.Common.{◌≡◌, true}
use Rattle.std.proofs.lemmas.Result.{IfOk-weaker}
use Rattle.std.specs.Prelude.{◌↔◌}
use Rattle.map_defs.specs.Sameness.{IsMapOfPart}
use Rattle.answer_defs.specs.Answer.{WithMap}
use Rattle.answer_defs.specs.Right.{MapIsTrue}
use Rattle.fab_judge.proofs.Judged.{map-tested, map-untested}
use Rattle.fab_judge.proofs.faults.is_map_true.Goals as goal

pub returns-in-Some : goal.returns-in-Some
returns-in-Some c =
    IfOk-weaker c.is_same_as_part.result (λ is. (is ≡ true) ↔ IsMapOfPart c.args.f.now c.in-Some.host c.args.map.now) (λ is. (is ≡ true) ↔ MapIsTrue c.args.f.now (WithMap c.args.line.now c.args.map.now))
    (λ is t. map-tested c.args.f.now c.args.line.now c.args.map.now c.in-Some.host is c.in-Some.ensures t) c.is_same_as_part.ensures

pub returns-in-None : goal.returns-in-None
returns-in-None c = map-untested c.args.f.now c.args.line.now c.args.map.now c.in-None.ensures
