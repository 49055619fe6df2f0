-- each command that was read is one over the fabric
use Rattle.fab_script.proofs.Ranged.{reading_ranged}
use Rattle.fab_script.proofs.script.read_script.Goals as goal

pub returns-clause-ranged : goal.returns-clause-ranged
returns-clause-ranged c = reading_ranged c.args.f.now c.args.line c.args.text.now c.read_lines.result c.read_lines.ensures.reading
