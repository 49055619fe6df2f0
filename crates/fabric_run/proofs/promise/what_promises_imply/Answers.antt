use Rattle.fabric_run.proofs.Following.{sound-moments, text-acts, met-faults}
use Rattle.fabric_run.proofs.Writing.{half-part, interrupted-part}
use Rattle.fabric_run.proofs.promise.what_promises_imply.Goals as goal

pub returns-clause-moments : goal.returns-clause-moments
returns-clause-moments c = sound-moments

pub returns-clause-acts : goal.returns-clause-acts
returns-clause-acts c = text-acts

pub returns-clause-met_faults : goal.returns-clause-met_faults
returns-clause-met_faults c = met-faults

pub returns-clause-cut_off : goal.returns-clause-cut_off
returns-clause-cut_off c = λ a taken now last promised k. half-part a taken now last promised.report k

pub returns-clause-interrupted : goal.returns-clause-interrupted
returns-clause-interrupted c = λ a taken now left promised k. interrupted-part a taken now left promised.report k
