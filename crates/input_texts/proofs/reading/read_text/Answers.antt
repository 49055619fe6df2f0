use Rattle.std.proofs.Common.{◌≡◌, Err, ap}
use Rattle.fab_text.specs.declared.fault.TextFault.TheVariants.{NoMemory}
use Rattle.input_texts.proofs.Sound.{sound-fabric, sound-script}
use Rattle.input_texts.proofs.reading.read_text.Goals as goal

pub returns-in-Ok-clause-memory : goal.returns-in-Ok-clause-memory
returns-in-Ok-clause-memory c wanting = sound-script c.args.text.now c.in-Ok.part c.in-Ok.ensures.reading (c.read_rest.ensures.memory wanting)

pub returns-in-Err-clause-memory : goal.returns-in-Err-clause-memory
returns-in-Err-clause-memory c wanting =
    let one : c.in-Err.fault ≡ NoMemory = cc in
    sound-fabric c.args.text.now (c.in-Err.ensures.memory (ap Err one))
