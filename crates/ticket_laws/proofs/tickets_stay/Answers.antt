use Rattle.ticket_laws.specs.Host.{Begins}
use Rattle.ticket_laws.proofs.Keeping.{new-ticketed, heard-kept}
use Rattle.ticket_laws.proofs.Parts.{part-in-buffer}
use Rattle.ticket_laws.proofs.Backing.{forgotten-backed, heard-backed, backed-buffer}
use Rattle.ticket_laws.proofs.tickets_stay.Goals as goal

pub returns-clause-new : goal.returns-clause-new
returns-clause-new c = new-ticketed Begins

pub returns-clause-heard : goal.returns-clause-heard
returns-clause-heard c = heard-kept Begins

pub returns-clause-due : goal.returns-clause-due
returns-clause-due c = λ host n lane sender is. part-in-buffer host n lane sender (is.of_messages lane)

pub returns-clause-forgotten : goal.returns-clause-forgotten
returns-clause-forgotten c = forgotten-backed Begins

pub returns-clause-heard_backed : goal.returns-clause-heard_backed
returns-clause-heard_backed c = heard-backed Begins

pub returns-clause-due_backed : goal.returns-clause-due_backed
returns-clause-due_backed c = backed-buffer
