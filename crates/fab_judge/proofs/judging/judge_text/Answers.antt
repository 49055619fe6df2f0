use Rattle.std.proofs.Common.{◌≡◌, Err, ap}
use Rattle.fab_text.specs.declared.fault.TextFault.TheVariants.{NoMemory}
use Rattle.fab_judge.proofs.Texts.{text-over, text-fault, fabric-memory, script-memory}
use Rattle.fab_judge.proofs.judging.judge_text.Goals as goal

pub returns-in-Ok-clause-verdict : goal.returns-in-Ok-clause-verdict
returns-in-Ok-clause-verdict c = text-over c.args.text.now c.in-Ok.part c.judge_over.result c.in-Ok.ensures.reading c.judge_over.ensures.verdict

pub returns-in-Ok-clause-memory : goal.returns-in-Ok-clause-memory
returns-in-Ok-clause-memory c wanting = script-memory c.args.text.now c.in-Ok.part c.in-Ok.ensures.reading (c.judge_over.ensures.memory wanting)

pub returns-in-Err-clause-verdict : goal.returns-in-Err-clause-verdict
returns-in-Err-clause-verdict c = text-fault c.args.text.now c.in-Err.fault c.in-Err.ensures.reading

pub returns-in-Err-clause-memory : goal.returns-in-Err-clause-memory
returns-in-Err-clause-memory c wanting =
    let one : c.in-Err.fault ≡ NoMemory = cc in
    fabric-memory c.args.text.now (c.in-Err.ensures.memory (ap Err one))
