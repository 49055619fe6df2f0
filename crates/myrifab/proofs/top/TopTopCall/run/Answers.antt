use Rattle.std.proofs.Common.{ap, ◌∙◌}
use Rattle.fabric_run.specs.Ends.{status_number}
use Rattle.myrifab.proofs.top.TopTopCall.run.Goals as goal

pub returns : goal.returns
returns g c = record {
  status = c.run.result.status;
  session = c.run.result.session;
  ends = c.run.ensures.ends;
  read_fault = c.run.ensures.read_fault;
  write_fault = c.run.ensures.write_fault;
  numbered = c.number.ensures ∙ ap status_number c.end.ensures;
}
