use Rattle.std.proofs.Common.{sym, subst}
use Rattle.fab_text.specs.Line.{lines_left}
use Rattle.fab_judge.specs.Reading.{ReaderState}
use Rattle.fab_judge.specs.Judging.{Decides}
use Rattle.fab_judge.specs.Verdicts.{IsVerdict}
use Rattle.fab_judge.proofs.Judged.{verdict-of}
use Rattle.fab_judge.proofs.Texts.{fabric-again, fabric-has-none}
use Rattle.fab_judge.proofs.judging.judge_script.Goals as goal

pub judge_answers-requires : goal.judge_answers-requires
judge_answers-requires c = fabric-again c.args.text.now c.args.f.now c.in-Ok.again c.requires.read c.in-Ok.ensures.reading

pub unreachable-requires : goal.unreachable-requires
unreachable-requires c =
    fabric-has-none c.args.text.now c.args.f.now c.read_fabric.result c.in-Err-At.field-0 c.in-Err-At.field-0-0 c.in-Err-At.field-0-1 c.requires.read c.read_fabric.ensures.reading c.in-Err-At.is c.in-Err-At.field-0-is

pub returns-in-Ok : goal.returns-in-Ok
returns-in-Ok c =
    let f = c.args.f.now in
    let end = c.judge_answers.result in
    let of_script = subst (λ cs. Decides f c.new-reader.result.past cs c.new-reader.result.left end) c.list.ensures c.judge_answers.ensures in
    let decides = subst (λ (s : ReaderState). Decides f s.past c.args.script.now s.left end) c.new-reader.ensures of_script in
    subst (λ r. IsVerdict f c.args.past c.args.script.now (lines_left c.args.left) r) (sym c.verdict_of.ensures)
    (verdict-of f c.args.past c.args.script.now (lines_left c.args.left) end decides)
