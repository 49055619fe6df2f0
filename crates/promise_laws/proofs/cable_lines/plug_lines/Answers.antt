use Rattle.promise_laws.proofs.Plugs.{plug_line-true}
use Rattle.promise_laws.proofs.cable_lines.plug_lines.Goals as goal

pub returns : goal.returns
returns c = plug_line-true
